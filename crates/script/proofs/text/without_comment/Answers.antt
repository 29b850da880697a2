use Rattle.std.proofs.Common.{rules}
use Rattle.std.proofs.lemmas.Iterator.{YieldsList-from_slice}
use Rattle.std.proofs.lemmas.Iterator.Search.{position_from_yields_List}
use Rattle.script.proofs.Cutting.{comment, cut_at}
use Rattle.script.proofs.text.without_comment.Goals as goal

pub returns : goal.returns
returns c =
    let line = c.args.line.now in
    let place = position_from_yields_List comment _ _ _ c.position-end.ensures.ran (YieldsList-from_slice line c.iter.ensures.rest) (λ x b q k. search rules) in
    search (rules, cut_at line c.position-end.result place)
