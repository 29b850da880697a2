-- Roots that are squared again and again from the last: the laws of roots, from one difference that has an inverse. Assumes nothing.
use Rattle.std.specs.Prelude.{◌≡◌, ℕ, zero, suc, ◌-◌, ◌*◌, ◌%◌, ◌<◌, refl}
use Rattle.std.proofs.Common.{sym, ap, ◌∙◌, subst, mod-lt, arith}
use Rattle.elements.specs.Kind.{Kind, Embeds, Ranges, Roots, less, root_of, Invertible}
use Rattle.elements.specs.Numbers.{squared, squared_onward}
use Rattle.elements.specs.Operations.{CommutativeRing, operations}
use Rattle.elements.specs.RootFacts.{Chain, roots_apart}

squared_below : (p y n : ℕ) → y < p → squared_onward p y n < p
squared_below p y zero h = h
squared_below p y (suc n) h = squared_below p ((y * y) % p) n (mod-lt (y * y) (omega arith))

squared_more : (p y n : ℕ) → squared_onward p y (suc n) ≡ (squared_onward p y n * squared_onward p y n) % p
squared_more p y zero = refl
squared_more p y (suc n) = squared_more p ((y * y) % p) n

-- both ways of squaring lead to the same number
pub squared_is_onward : (p y n : ℕ) → squared p y n ≡ squared_onward p y n
squared_is_onward p y zero = refl
squared_is_onward p y (suc n) = ap (λ m. (m * m) % p) (squared_is_onward p y n) ∙ sym (squared_more p y n)

-- y is the last root, and each before it the square of the next
module _ {R : Type 0} (k : Kind R) (y : ℕ) (below : y < k.modulus) (is : (n : ℕ) → k.root n ≡ squared_onward k.modulus y (k.limit - n)) where
  pub root_below : (n : ℕ) → k.root n < k.modulus
  root_below n = subst (λ (m : ℕ). m < k.modulus) (sym (is n)) (squared_below k.modulus y (k.limit - n) below)

  pub root_square : Embeds k → (n : ℕ) → n < k.limit → k.times (root_of k (suc n)) (root_of k (suc n)) ≡ root_of k n
  root_square e n h =
      let r = k.root (suc n) in
      let s : suc (k.limit - suc n) ≡ k.limit - n = omega arith in
      sym (e.products r r (root_below (suc n)) (root_below (suc n)))
      ∙ ap k.embed
      (ap (λ m. (m * m) % k.modulus) (is (suc n)) ∙ sym (squared_more k.modulus y (k.limit - suc n))
      ∙ ap (squared_onward k.modulus y) s ∙ sym (is n))

  module _ (l : CommutativeRing (operations k)) (e : Embeds k) (g : Ranges k) (first : root_of k 0 ≡ k.one) (apart : Invertible k (less k (root_of k 1) k.one)) where
    squares : Chain k
    squares = let five = g.limit_least in record { one_at_least = omega arith; first = first; square = root_square e; apart = apart }

    pub squared_roots : k.shift < k.modulus → Invertible k (k.embed k.shift) → Roots k
    squared_roots shift_below shift_invertible = record {
      shift_below = shift_below;
      shift_invertible = shift_invertible;
      root_below = λ n h. root_below n;
      root_first = first;
      root_square = root_square e;
      root_apart = λ n i h. let five = g.limit_least in roots_apart k l squares n i (omega arith);
    }
