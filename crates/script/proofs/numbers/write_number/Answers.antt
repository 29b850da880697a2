use Rattle.std.proofs.Common.{arith}
use Rattle.script.proofs.ReadBack.{wrote}
use Rattle.script.proofs.Numbering.{decimal_read}
use Rattle.script.proofs.numbers.write_number.Goals as goal

pub returns-clause-wrote : goal.returns-clause-wrote
returns-clause-wrote c = wrote c.add.result _ _ _ _ c.add.ensures.added (decimal_read c.args.number (omega arith))
