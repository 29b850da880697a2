use Rattle.std.proofs.Common.{rules}
use Rattle.std.proofs.lemmas.Iterator.{YieldsList-from_slice}
use Rattle.std.proofs.lemmas.Iterator.Consumers.{fold_from_yields_List}
use Rattle.elements.specs.KindRing.{ring_of}
use Rattle.elements.proofs.Totals.{fold_product}
use Rattle.elements.proofs.lists.product_of.Goals as goal

pub returns : goal.returns
returns g c =
    let k = g.E.Field.kind in
    let vs = c.args.values.now in
    let multiplied = fold_from_yields_List _ k.times _ _ c.fold.ensures.ran (YieldsList-from_slice vs cc) (λ a x b q h. search rules) in
    let e = fold_product k (ring_of k g.met.E.Field.lawful.ring) vs in
    cc
