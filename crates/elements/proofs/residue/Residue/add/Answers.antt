use Rattle.std.proofs.Common.{◌≡◌, ◌+◌, ◌<◌, sym, ◌∙◌, mod-eq_of_lt, arith}
use Rattle.elements.specs.Modulo.{residues}
use Rattle.elements.specs.ResidueRing.{same}
use Rattle.elements.proofs.residue.Residue.add.Goals as goal

pub returns : goal.returns
unfolding residues
returns g c =
    let a = c.args.self in
    let b = c.args.other in
    let is : c.from.result + c.from-2.result ≡ a.value + b.value = omega (arith, c.from.ensures, c.from-2.ensures) in
    let below : a.value + b.value < g.row.P = omega arith in
    same _ _ (is ∙ sym (mod-eq_of_lt below))
