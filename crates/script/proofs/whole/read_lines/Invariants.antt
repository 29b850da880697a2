use Rattle.std.proofs.Common.{◌≡◌, map, take, Ok}
use Rattle.script.specs.Pieces.{line_of}
use Rattle.script.specs.Reading.{taken}
use Rattle.script.specs.Rules.{begun}
use Rattle.script.proofs.whole.read_lines.Given as goal

abbrev pub invariant-loop-i : goal.invariant-loop-i
invariant-loop-i g l = taken g.E.Field.kind begun (map line_of (take l.i l.lines)) ≡ Ok l.reader
