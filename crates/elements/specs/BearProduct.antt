-- The product of BabyBear is that of four coefficients over its base numbers; what its inverse is. Assumes nothing.
use Rattle.std.specs.Prelude.{◌≡◌, ◌+◌, ◌*◌, ◌≢◌, refl}
use Rattle.std.proofs.Common.{sym, ap, ◌∙◌}
use Rattle.elements.specs.Bear.{p, of, base, times, numbers, coordinates, babybear}
use Rattle.elements.specs.Extension.{Four, mul4}
use Rattle.elements.specs.Modulo.{residues}
use Rattle.elements.specs.Operations.{Operations, CommutativeRing}
use Rattle.elements.specs.Norm.{even, odd, norm_of, norm, conjugate, evenly}
use Rattle.elements.specs.declared.babybear.BabyBear.{BabyBear}
use Rattle.elements.specs.declared.residue.Residue.{Residue}
use Rattle.elements.specs.ResidueRing.{of_value, of_plus, of_times, residue_ring}
use Rattle.elements.specs.FourRing.{fours, inverse_there, inverse_norm}

abbrev map4 : {A B : Type 0} → (A → B) → Four A → Four B
map4 h a = record { c0 = h a.c0; c1 = h a.c1; c2 = h a.c2; c3 = h a.c3 }

-- what keeps sums and products keeps the product of four coefficients
module _ {A B : Type 0} (h : A → B) (plus mul : A → A → A) (plus' mul' : B → B → B) (w : A)
    (sums : (m n : A) → h (plus m n) ≡ plus' (h m) (h n)) (products : (m n : A) → h (mul m n) ≡ mul' (h m) (h n)) where
  mul4_kept : (a b : Four A) → map4 h (mul4 plus mul w a b) ≡ mul4 plus' mul' (h w) (map4 h a) (map4 h b)
  mul4_kept a b = λ i. record { c0 = e0 i; c1 = e1 i; c2 = e2 i; c3 = e3 i }
    where
      e0 : h (mul4 plus mul w a b).c0 ≡ (mul4 plus' mul' (h w) (map4 h a) (map4 h b)).c0
      e0 = simp (sums, products)

      e1 : h (mul4 plus mul w a b).c1 ≡ (mul4 plus' mul' (h w) (map4 h a) (map4 h b)).c1
      e1 = simp (sums, products)

      e2 : h (mul4 plus mul w a b).c2 ≡ (mul4 plus' mul' (h w) (map4 h a) (map4 h b)).c2
      e2 = simp (sums, products)

      e3 : h (mul4 plus mul w a b).c3 ≡ (mul4 plus' mul' (h w) (map4 h a) (map4 h b)).c3
      e3 = simp (sums, products)

abbrev pub base_ring : CommutativeRing base
base_ring = residue_ring p tt

abbrev pub bear_ring : Operations (Four (Residue p))
bear_ring = fours base (of 11)

abbrev pub joined : Four (Residue p) → BabyBear
joined a = record { c0 = a.c0; c1 = a.c1; c2 = a.c2; c3 = a.c3 }

numbers_back : (a : BabyBear) → map4 of (numbers a) ≡ coordinates a
numbers_back a = λ i. record { c0 = of_value p tt a.c0 i; c1 = of_value p tt a.c1 i; c2 = of_value p tt a.c2 i; c3 = of_value p tt a.c3 i }

pub times_is : (a b : BabyBear) → times a b ≡ joined (bear_ring.times (coordinates a) (coordinates b))
times_is a b =
    ap joined
    (mul4_kept of ◌+◌ ◌*◌ base.plus base.times 11 (of_plus p tt) (of_times p tt) (numbers a) (numbers b)
    ∙ ap (λ z. bear_ring.times z (map4 of (numbers b))) (numbers_back a)
    ∙ ap (bear_ring.times (coordinates a)) (numbers_back b))

one_is : joined bear_ring.one ≡ babybear.one
unfolding residues
one_is = refl

module _ (a : BabyBear) (e d n : Residue p)
    (even_is : e ≡ even base (of 11) (coordinates a)) (odd_is : d ≡ odd base (of 11) (coordinates a)) (norm_is : n ≡ norm_of base (of 11) e d) where
  whole_norm : n ≡ norm base (of 11) (coordinates a)
  whole_norm =
      norm_is ∙ ap (λ z. norm_of base (of 11) z d) even_is ∙ ap (norm_of base (of 11) (even base (of 11) (coordinates a))) odd_is

  -- an inverse y of the norm gives one of a
  pub bear_inverse : (y : Residue p) (turned other : BabyBear) → base.times n y ≡ base.one
      → coordinates turned ≡ conjugate base (coordinates a)
      → coordinates other ≡ evenly base (base.times e y) (base.minus (base.times d y))
      → times a (times turned other) ≡ babybear.one
  bear_inverse y turned other inverse-is turned-is other-is =
      let E = even base (of 11) (coordinates a) in
      let D = odd base (of 11) (coordinates a) in
      let other_whole : coordinates other ≡ evenly base (base.times E y) (base.minus (base.times D y))
      = other-is ∙ ap (λ z. evenly base (base.times z y) (base.minus (base.times d y))) even_is
      ∙ ap (λ z. evenly base (base.times E y) (base.minus (base.times z y))) odd_is in
      times_is a (times turned other) ∙ ap (λ z. joined (bear_ring.times (coordinates a) (coordinates z))) (times_is turned other)
      ∙ ap (λ z. joined (bear_ring.times (coordinates a) (bear_ring.times z (coordinates other)))) turned-is
      ∙ ap (λ z. joined (bear_ring.times (coordinates a) (bear_ring.times (conjugate base (coordinates a)) z))) other_whole
      ∙ ap joined (inverse_there base base_ring (of 11) (coordinates a) y (ap (λ z. base.times z y) (sym whole_norm) ∙ inverse-is))
      ∙ one_is

  -- and where the norm has none, no product is 1
  pub bear_none : ((y : Residue p) → base.times n y ≢ base.one) → (z : BabyBear) → times a z ≢ babybear.one
  bear_none none z is =
      let product_is : bear_ring.times (coordinates a) (coordinates z) ≡ bear_ring.one = ap coordinates (sym (times_is a z) ∙ is ∙ sym one_is) in
      none (norm base (of 11) (coordinates z))
      (ap (λ u. base.times u (norm base (of 11) (coordinates z))) whole_norm ∙ inverse_norm base base_ring (of 11) (coordinates a) (coordinates z) product_is)
