use Rattle.std.proofs.Common.{◌≡◌, ◌*◌, ◌%◌, sym, refl, ap, ◌∙◌, subst, arith}
use native.Mathlib.Nat.{dvd_refl, dvd-zero}
use Rattle.elements.specs.Bear.{of, base}
use Rattle.elements.specs.BearProduct.{base_ring}
use Rattle.elements.specs.Modulo.{residues}
use Rattle.elements.specs.ResidueRing.{same, of_value}
use Rattle.elements.proofs.Euclid.{Divides, turn, divides, no_inverse}
use Rattle.elements.specs.RingFacts.{times_zero}
use Rattle.elements.proofs.babybear.base.BaseNumber.try_inverse.Goals as goal

pub loop-b-init : goal.loop-b-init
unfolding residues
loop-b-init c =
    let n = of c.from-b.result in (
      ap (base.times n) (same c.reduced-s.result (of 0) c.reduced-s.ensures) ∙ times_zero base base_ring n ∙ same _ _ refl,
      ap (base.times n) (same c.reduced-t.result (of 1) c.reduced-t.ensures) ∙ base_ring.times_one n,
      (λ d a b. (b, a)),
    )

pub loop-b-preserved : goal.loop-b-preserved
loop-b-preserved c =
    let i = c.loop-b.invariant in
    let n = c.from-b.result in (
      i.1,
      ap (base.times (of n)) c.minus_multiple-next.ensures ∙ turn n c.loop-b.a c.loop-b.b c.loop-b.s c.loop-b.t i.0 i.1,
      (λ d h g. i.2 d (divides d c.loop-b.a c.loop-b.b h g) h),
    )

pub returns-then-a-ne1 : goal.returns-then-a-ne1
unfolding residues
returns-then-a-ne1 c y e =
    let i = c.loop-b.invariant in
    let z : 0 ≡ c.loop-b.b = omega arith in
    let d = i.2 c.loop-b.a (dvd_refl c.loop-b.a) (subst (λ n. Divides c.loop-b.a n) z (dvd-zero c.loop-b.a)) in
    no_inverse c.loop-b.a c.from-b.result y.value d.0 d.1 c.if-a-ne1.true
    (ap (λ n. n * y.value % 2013265921) c.from-b.ensures ∙ ap (λ x. x.value) e)

pub returns : goal.returns
unfolding residues
returns c =
    let a : c.loop-b.a ≡ 1 = omega arith in
    ap (λ x. base.times x c.loop-b.s) (sym (of_value 2013265921 tt c.args.self) ∙ ap of (sym c.from-b.ensures)) ∙ c.loop-b.invariant.0 ∙ ap of a
