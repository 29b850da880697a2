use Rattle.std.proofs.Common.{arith}
use Rattle.openings.specs.Coefficients.{entry_view}
use Rattle.openings.proofs.Places.{column_past}
use Rattle.openings.proofs.clear.column_size.Goals as goal

pub returns-then-entry-ge-WORD_BITS : goal.returns-then-entry-ge-WORD_BITS
returns-then-entry-ge-WORD_BITS c = column_past (entry_view c.args.entry) c.args.len 64 (omega arith) (omega arith) (omega arith)
