use Rattle.std.proofs.Common.{rules}
use Rattle.elements.specs.KindRing.{ring_of}
use Rattle.elements.specs.Folds.{fold_reverse}
use Rattle.elements.proofs.lists.horner.Goals as goal

pub returns : goal.returns
returns g c =
    let k = g.E.Field.kind in
    let e = fold_reverse k (ring_of k g.met.E.Field.lawful.ring) c.args.point c.args.coefficients.now in
    search rules
