use Rattle.std.proofs.Common.{ap, ◌∙◌}
use Rattle.elements.specs.Sums.{fold}
use Rattle.elements.proofs.lists.fold_in.Goals as goal

pub returns : goal.returns
returns g c =
    let p = c.fold_from.ensures in
    (p.0, p.1, p.2, p.3 ∙ ap (λ a. fold g.E.Field.kind c.args.alpha a p.0.items) c.zero.ensures)
