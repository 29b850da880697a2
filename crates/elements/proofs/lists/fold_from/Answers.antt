use Rattle.std.proofs.Common.{rules}
use Rattle.elements.proofs.lists.fold_from.Goals as goal

pub returns : goal.returns
returns g c =
    let k = g.E.Field.kind in
    let alpha = c.args.alpha in
    let p = c.fold.ensures.runs in
    (p.0, p.1, p.2, p.3 (λ a v. k.plus (k.times a alpha) v) (λ a v r f h. search rules))
