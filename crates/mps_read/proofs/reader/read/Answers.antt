use Rattle.mps_read.specs.Readings.{Reads}
use Rattle.mps_read.proofs.ModelReads.{read_is}
use Rattle.mps_read.proofs.Sizes.{few_rows, few_columns}
use Rattle.mps_read.proofs.reader.read.Goals as goal

pub returns-in-Ok-clause-kept : goal.returns-in-Ok-clause-kept
returns-in-Ok-clause-kept c =
    let found : Reads c.args.bytes.now c.in-Ok.model = rw c.in-Ok.is at c.in_ok-model.ensures in
    read_is c.args.bytes.now c.in-Ok.model found.is

pub returns-in-Ok-clause-few_rows : goal.returns-in-Ok-clause-few_rows
returns-in-Ok-clause-few_rows c =
    let found : Reads c.args.bytes.now c.in-Ok.model = rw c.in-Ok.is at c.in_ok-model.ensures in
    few_rows c.args.bytes.now c.in-Ok.model found.is

pub returns-in-Ok-clause-few_columns : goal.returns-in-Ok-clause-few_columns
returns-in-Ok-clause-few_columns c =
    let found : Reads c.args.bytes.now c.in-Ok.model = rw c.in-Ok.is at c.in_ok-model.ensures in
    few_columns c.args.bytes.now c.in-Ok.model found.is
