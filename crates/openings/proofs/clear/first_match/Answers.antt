use Rattle.std.proofs.Common.{rules, tests, ap, ◌∙◌}
use Rattle.std.specs.Option.{option_map}
use Rattle.std.proofs.lemmas.Iterator.{YieldsList-from_slice}
use Rattle.std.proofs.lemmas.Iterator.Search.{find_from_yields_List}
use Rattle.openings.specs.Coefficients.{entry_view, matches}
use Rattle.openings.proofs.First.{find-map}
use Rattle.openings.proofs.clear.first_match.Goals as goal

pub returns : goal.returns
returns c =
    let id = c.args.id.now in
    let test = matches id.commitment.bytes id.matrix id.bits in
    let entries = c.args.entries.now in
    let found =
    find_from_yields_List (λ e. test (entry_view e)) _ _ c.find.result c.find.ensures.ran
    (YieldsList-from_slice entries cc) (λ x b q k. search (rules, tests)) in
    ap (option_map entry_view) (c.copied.ensures ∙ found) ∙ find-map test entry_view entries
