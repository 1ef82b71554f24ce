use Rattle.std.proofs.Common.{◌≡◌, ◌≤◌, ◌+◌, ◌^◌, length}
use Rattle.cert_text.specs.Places.{IsPlace}
use Rattle.cert_text.specs.Readings.{judge, pieces_of, reading}
use Rattle.cert_text.proofs.reader.read_lines.Given as goal

abbrev pub invariant-loop-bytes_of_line : goal.invariant-loop-bytes_of_line
invariant-loop-bytes_of_line l = record {
  place : IsPlace l.place;
  rest : judge l.number l.place l.certificate (pieces_of l.rest) ≡ reading l.bytes;
  few : l.number + length l.rest ≤ length l.bytes + 1;
  short : length l.bytes ≤ 2 ^ 28;
}

abbrev pub decreases-loop-bytes_of_line : goal.decreases-loop-bytes_of_line
decreases-loop-bytes_of_line l = length l.rest
