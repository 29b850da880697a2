use Rattle.std.proofs.Common.{◌≡◌, ◌++◌, map, drop, vec_items}
use Rattle.std.specs.Option.{option_map}
use Rattle.script.specs.Numerals.{number_of}
use Rattle.script.specs.Pieces.{seen}
use Rattle.script.specs.Values.{all_of}
use Rattle.script.proofs.values.read_all.Given as goal

abbrev pub invariant-loop-part : goal.invariant-loop-part
invariant-loop-part l = option_map (λ ns. vec_items l.numbers ++ ns) (all_of number_of (map seen (drop l.part-index l.parts))) ≡ all_of number_of (map seen l.parts)
