use Rattle.std.proofs.Common.{◌≡◌, ◌+◌, ◌∙◌, arith, sym, ap}
use Rattle.cert_text.specs.Readings.{judge, pieces_of, reading, with_line}
use Rattle.cert_text.proofs.Pieces.{line_refused, line_leads}
use Rattle.cert_text.proofs.reader.read_lines.Goals as goal

pub returns-in-Refuses : goal.returns-in-Refuses
returns-in-Refuses c =
    line_refused c.loop-bytes_of_line.number c.loop-bytes_of_line.place c.loop-bytes_of_line.certificate
    c.in-Some.bytes_of_line.now c.in-Some.after.now c.loop-bytes_of_line.rest.now c.in-Refuses.kind _
    c.in-Some.ensures.0 (sym c.in_ok-kind.ensures.step ∙ c.in-Refuses.is) c.loop-bytes_of_line.invariant.rest

pub loop-bytes_of_line-preserved : goal.loop-bytes_of_line-preserved
loop-bytes_of_line-preserved c =
    let follows : judge (c.loop-bytes_of_line.number + 1) c.in-Leads.next (with_line
    c.loop-bytes_of_line.certificate c.in-Leads.line) (pieces_of c.in-Some.after.now) ≡ reading c.args.bytes.now =
    line_leads c.loop-bytes_of_line.number c.loop-bytes_of_line.place c.in-Leads.next
    c.loop-bytes_of_line.certificate c.in-Some.bytes_of_line.now c.in-Some.after.now
    c.loop-bytes_of_line.rest.now c.in-Leads.line _ c.in-Some.ensures.0 (sym c.in_ok-kind.ensures.step
    ∙ c.in-Leads.is) c.loop-bytes_of_line.invariant.rest in
    record {
      place = rw c.in-Leads.is at c.in_ok-kind.ensures.kept;
      rest =
          ap (λ d. judge (c.loop-bytes_of_line.number + 1) c.in-Leads.next d (pieces_of c.in-Some.after.now))
          c.in_ok-certificate-in-Leads.ensures ∙ follows;
      few = omega (arith, c.in-Some.ensures.1, c.loop-bytes_of_line.invariant.few);
      short = c.requires;
    }
