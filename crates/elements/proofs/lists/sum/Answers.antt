use Rattle.std.proofs.Common.{rules}
use Rattle.std.proofs.lemmas.Iterator.{YieldsList-from_slice}
use Rattle.std.proofs.lemmas.Iterator.Consumers.{fold_from_yields_List}
use Rattle.elements.specs.KindRing.{ring_of}
use Rattle.elements.proofs.Totals.{fold_total}
use Rattle.elements.proofs.lists.sum.Goals as goal

pub returns : goal.returns
returns g c =
    let k = g.E.Field.kind in
    let vs = c.args.values.now in
    let added = fold_from_yields_List _ k.plus _ _ c.fold.ensures.ran (YieldsList-from_slice vs cc) (λ a x b q h. search rules) in
    let e = fold_total k (ring_of k g.met.E.Field.lawful.ring) vs in
    cc
