use Rattle.std.proofs.Common.{◌≡◌, ℕ, ◌*◌, ◌%◌, ◌<◌, ap, sym, ◌∙◌, subst, lit<, zero-mul, arith}
use Rattle.elements.specs.Inverse.{same_inverse}
use Rattle.elements.specs.Laws257.{ring, f257_laws}
use Rattle.elements.specs.Mod257.{f257}
use Rattle.elements.specs.Modulo.{residues}
use Rattle.elements.specs.ResidueRing.{same}
use Rattle.elements.specs.declared.f257.kind.TheConstants.{INVERSES}
use Rattle.elements.specs.declared.residue.Residue.{Residue}
use Rattle.elements.proofs.Tables.{inverse_below, inverse_entry}
use Rattle.elements.proofs.f257.kind.F257Field.try_inverse.Goals as goal

-- no product with 0 is 1
no_inverse : (x y : Residue 257) → x.value ≡ 0 → f257.times x y ≡ f257.one → ⊥
unfolding residues
no_inverse x y z e =
    let zero_is : x.value * y.value ≡ 0 = ap (λ n. n * y.value) z ∙ zero-mul y.value in
    let rest_zero : (x.value * y.value) % 257 ≡ 0 = ap (λ n. n % 257) zero_is in
    let rest_one : (x.value * y.value) % 257 ≡ 1 = ap (λ v. v.value) e in
    omega arith

pub returns-then-self-eq0 : goal.returns-then-self-eq0
returns-then-self-eq0 c =
    let x = c.args.self in
    same_inverse f257 ring x _ _ (λ y e. no_inverse x y c.if-self-eq0.true e) (f257_laws.inverses x)

pub below-requires : goal.below-requires
below-requires c =
    let x = c.args.self in
    let listed = inverse_below INVERSES x.value x.below tt in
    (lit< tt, subst (λ (n : ℕ). n < 257) (sym c.from.ensures) listed)

pub returns : goal.returns
unfolding residues
returns c =
    let x = c.args.self in
    let n = c.from.result in
    let pos : 0 < x.value = omega arith in
    let product : x.value * c.below.result.value % 257 ≡ 1
    = ap (λ m. x.value * m % 257) c.below.ensures ∙ inverse_entry INVERSES x.value n pos x.below c.from.ensures tt in
    same_inverse f257 ring x _ _ (same _ _ product) (f257_laws.inverses x)
