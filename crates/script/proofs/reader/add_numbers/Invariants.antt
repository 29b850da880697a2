use Rattle.std.proofs.Common.{◌≡◌, map, drop}
use Rattle.std.specs.Option.{option_map}
use Rattle.script.specs.Pieces.{seen}
use Rattle.script.specs.Rules.{small_of, with_numbers}
use Rattle.script.specs.Values.{all_of}
use Rattle.script.proofs.reader.add_numbers.Given as goal

abbrev pub invariant-loop-word : goal.invariant-loop-word
invariant-loop-word l =
    option_map (with_numbers l.clear) (all_of small_of (map seen (drop l.word-index l.word-items)))
    ≡ option_map (with_numbers l.initial.clear) (all_of small_of (drop 1 l.words))
