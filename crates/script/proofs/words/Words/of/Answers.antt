use Rattle.std.proofs.Common.{rules, ap, ◌∙◌, Ok}
use Rattle.std.specs.Slice.Iter.{split_rest, split_done, split_callee}
use Rattle.std.proofs.lemmas.Iterator.Consumers.{map_from_collect, YieldsList-from_filter}
use Rattle.std.proofs.lemmas.Iterator.Splits.{YieldsList-from_slice_split}
use Rattle.script.specs.Pieces.{cuts_at, some}
use Rattle.script.specs.declared.text.Separator.TheVariants.{Blank}
use Rattle.script.proofs.Cutting.{pieces_split}
use Rattle.script.proofs.words.Words.of.Goals as goal

pub returns : goal.returns
returns c =
    let source = c.filter.ensures.source in
    let line = c.without_comment.result.now in
    let rest = ap split_rest source ∙ c.split.ensures.rest in
    let done = ap split_done source ∙ c.split.ensures.done in
    let callee = ap split_callee source ∙ c.split.ensures.closure in
    rw (← c.without_comment.ensures, ← pieces_split (cuts_at Blank) line)
    (map_from_collect {E = Unit {0}} (Ok c.in_ok-words.words) c.in_ok-words.ensures.ran
    (YieldsList-from_filter _ some (YieldsList-from_slice_split _ (cuts_at Blank) line rest done callee (λ x b q k. search rules))
    c.filter.ensures.closure (λ x b q k. search rules)))
