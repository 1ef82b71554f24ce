use Rattle.std.proofs.Common.{◌≡◌, ◌++◌, drop, map}
use Rattle.cert_line.specs.declared.line.Line.TheVariants.{Cut}
use Rattle.cert_text.specs.Certificates.{text_of}
use Rattle.cert_text.proofs.printer.append_each_cut.Given as goal

abbrev pub invariant-loop-cut : goal.invariant-loop-cut
invariant-loop-cut l = l.text ++ text_of (map Cut (drop l.cut-index l.cuts))
    ≡ l.initial.text ++ text_of (map Cut l.cuts)
