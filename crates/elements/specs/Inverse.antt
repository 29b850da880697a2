-- What has an inverse, in any kind. Assumes nothing.
use Rattle.std.specs.Prelude.{◌≡◌, ℕ, zero, suc, T, [], ◌∷◌, is_some, Some, None, Option, refl}
use Rattle.std.proofs.Common.{sym, ap, ◌∙◌}
use Rattle.elements.specs.Facts.{DividesPowers, DivisorInvertible, InversePresent, InverseUnique}
use Rattle.elements.specs.Kind.{Kind, pow, less, Invertible, Inverse}
use Rattle.elements.specs.Operations.{CommutativeRing, operations}
use Rattle.elements.specs.RingFacts.{one_times}
use Rattle.elements.specs.Powers.{pow_inverse}
use Rattle.elements.specs.Solver.{var, nought, unit, sum, product, negated, difference, solve}

module _ {R : Type 0} (k : Kind R) where
  pub moved : (x y : R) → x ≡ y → Invertible k y → Invertible k x
  moved x y e h = (h.0, ap (λ z. k.times z h.0) e ∙ h.1)

  pub invertible : (x : R) (o : Option R) → Inverse k x o → T (is_some o) → Invertible k x
  invertible x None h t = absurd t
  invertible x (Some y) h t = (y, h)

  pub inverse_present : InversePresent k
  inverse_present x None h none = absurd (none h.0 h.1)
  inverse_present x (Some y) h some = refl

module _ {R : Type 0} (k : Kind R) (l : CommutativeRing (operations k)) where
  -- a divisor of an element with an inverse has one
  pub divisor_invertible : DivisorInvertible k
  divisor_invertible x q (y, e) = (k.times q y, sym (l.times_assoc x q y) ∙ e)

  pub inverse_unique : InverseUnique k
  inverse_unique x y z e f =
      sym (l.times_one y) ∙ ap (k.times y) (sym f)
      ∙ solve (operations k) l (x ∷ y ∷ z ∷ []) (product (var 1) (product (var 0) (var 2))) (product (product (var 0) (var 1)) (var 2)) tt
      ∙ ap (λ u. k.times u z) e ∙ one_times (operations k) l z

  -- two answers to what the inverse is are one
  pub same_inverse : (x : R) (o p : Option R) → Inverse k x o → Inverse k x p → o ≡ p
  same_inverse x None None g h = refl
  same_inverse x None (Some y) g h = absurd (g y h)
  same_inverse x (Some y) None g h = absurd (h y g)
  same_inverse x (Some y) (Some z) g h = ap Some (inverse_unique x y z g h)

  pub one_invertible : Invertible k k.one
  one_invertible = (k.one, l.times_one k.one)

  pub times_invertible : (x y : R) → Invertible k x → Invertible k y → Invertible k (k.times x y)
  times_invertible x y g h = (
    k.times g.0 h.0,
    solve (operations k) l (x ∷ y ∷ g.0 ∷ h.0 ∷ [])
        (product (product (var 0) (var 1)) (product (var 2) (var 3)))
        (product (product (var 0) (var 2)) (product (var 1) (var 3))) tt
        ∙ ap (λ z. k.times z (k.times y h.0)) g.1 ∙ ap (k.times k.one) h.1 ∙ l.times_one k.one,
  )

  pub pow_invertible : (x : R) (n : ℕ) → Invertible k x → Invertible k (pow k x n)
  pow_invertible x n h = (pow k h.0 n, pow_inverse k l x h.0 n h.1)

  pub minus_invertible : (x : R) → Invertible k x → Invertible k (k.minus x)
  minus_invertible x h = (
    k.minus h.0,
    solve (operations k) l (x ∷ h.0 ∷ []) (product (negated (var 0)) (negated (var 1))) (product (var 0) (var 1)) tt ∙ h.1,
  )

  -- the quotient of x^(n+1) - y^(n+1) is x^n + y times that of x^n - y^n
  pub divides_powers : DividesPowers k
  divides_powers x y zero =
      (k.zero, solve (operations k) l (x ∷ y ∷ []) (product (difference (var 0) (var 1)) nought) (difference unit unit) tt)
  divides_powers x y (suc n) =
      let p = pow k x n in
      let r = pow k y n in
      let h = divides_powers x y n in (
        k.plus p (k.times y h.0),
        solve (operations k) l (x ∷ y ∷ p ∷ h.0 ∷ [])
            (product (difference (var 0) (var 1)) (sum (var 2) (product (var 1) (var 3))))
            (sum (product (difference (var 0) (var 1)) (var 2)) (product (var 1) (product (difference (var 0) (var 1)) (var 3)))) tt
            ∙ ap (λ z. k.plus (k.times (less k x y) p) (k.times y z)) h.1
            ∙ solve (operations k) l (x ∷ y ∷ p ∷ r ∷ [])
            (sum (product (difference (var 0) (var 1)) (var 2)) (product (var 1) (difference (var 2) (var 3))))
            (difference (product (var 0) (var 2)) (product (var 1) (var 3))) tt,
      )

  -- where x^n - y^n has an inverse, so has x - y
  pub base_invertible : (x y : R) (n : ℕ) → Invertible k (less k (pow k x n) (pow k y n)) → Invertible k (less k x y)
  base_invertible x y n h =
      let q = divides_powers x y n in
      divisor_invertible (less k x y) q.0 (moved k _ _ q.1 h)
