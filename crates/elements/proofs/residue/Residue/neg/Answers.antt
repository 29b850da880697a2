use Rattle.std.proofs.Common.{◌-◌, ◌<◌, sym, mod-eq_of_lt, arith}
use Rattle.elements.specs.Modulo.{residues}
use Rattle.elements.specs.ResidueRing.{same}
use Rattle.elements.proofs.residue.Residue.neg.Goals as goal

pub returns : goal.returns
unfolding residues
returns g c =
    let p = g.row.P in
    let h = c.args.self.below in
    let below : p - c.args.self.value < p = omega arith in
    same _ _ (sym (mod-eq_of_lt below))
