use Rattle.std.proofs.Common.{◌≡◌, ◌+◌, ◌-◌, ◌%◌, ◌<◌, ap, sym, ◌∙◌, mod-eq_of_lt, arith}
use Rattle.std.proofs.Math.Nat.{add-mod-mod, add-mod_right}
use Rattle.elements.specs.Modulo.{residues}
use Rattle.elements.specs.ResidueRing.{same}
use Rattle.elements.proofs.residue.Residue.sub.Goals as goal

pub returns-then-self-other : goal.returns-then-self-other
unfolding residues
returns-then-self-other g c =
    let p = g.row.P in
    let a = c.args.self.value in
    let b = c.args.other.value in
    let h = c.args.self.below in
    let below : a + (p - b) < p = omega arith in
    same _ _ (sym (add-mod-mod a (p - b) p ∙ mod-eq_of_lt below))

pub returns : goal.returns
unfolding residues
returns g c =
    let p = g.row.P in
    let a = c.args.self.value in
    let b = c.args.other.value in
    let h = c.args.self.below in
    let below : a - b < p = omega arith in
    let wrapped : a + (p - b) ≡ (a - b) + p = omega arith in
    same _ _ (sym (add-mod-mod a (p - b) p ∙ ap (λ n. n % p) wrapped ∙ add-mod_right (a - b) p ∙ mod-eq_of_lt below))
