use Rattle.std.proofs.Common.{◌∙◌, ap}
use Rattle.ip_core.specs.Decimals.{read_decimal}
use Rattle.sample_model.proofs.WholeReads.{read_whole}
use Rattle.sample_model.proofs.whole.whole_decimal.Goals as goal

pub unreachable-requires : goal.unreachable-requires
unreachable-requires c =
    let read = c.read.ensures ∙ ap read_decimal (c.as_bytes.ensures.value ∙ c.format.ensures.text) ∙ read_whole c.args.number c.requires in
    let error = c.in-Err.is in
    cc

pub returns : goal.returns
returns c =
    let read = c.read.ensures ∙ ap read_decimal (c.as_bytes.ensures.value ∙ c.format.ensures.text) ∙ read_whole c.args.number c.requires in
    let ok = c.in-Ok.is in
    cc
