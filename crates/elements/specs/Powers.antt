-- Powers, from the laws of a ring. Assumes nothing.
use Rattle.std.specs.Prelude.{◌≡◌, ℕ, zero, suc, ◌+◌, ◌*◌, ◌/◌, ◌%◌, [], ◌∷◌, refl}
use Rattle.std.proofs.Common.{sym, ap, ◌∙◌, zero-add, suc-add, mul-zero, mul-suc, arith}
use Rattle.elements.specs.Kind.{Kind, pow}
use Rattle.elements.specs.Operations.{CommutativeRing, operations}
use Rattle.elements.specs.RingFacts.{one_times}
use Rattle.elements.specs.Solver.{var, product, solve}

module _ {R : Type 0} (k : Kind R) (l : CommutativeRing (operations k)) where
  pub pow_once : (x : R) → pow k x 1 ≡ x
  pow_once x = l.times_one x

  pub pow_one : (n : ℕ) → pow k k.one n ≡ k.one
  pow_one zero = refl
  pow_one (suc n) = one_times (operations k) l (pow k k.one n) ∙ pow_one n

  -- a sum of exponents
  pub pow_add : (x : R) (m n : ℕ) → pow k x (m + n) ≡ k.times (pow k x m) (pow k x n)
  pow_add x zero n = ap (pow k x) (zero-add n) ∙ sym (one_times (operations k) l (pow k x n))
  pow_add x (suc m) n =
      ap (pow k x) (suc-add m n) ∙ ap (k.times x) (pow_add x m n) ∙ sym (l.times_assoc x (pow k x m) (pow k x n))

  -- a power of a product
  pub pow_times : (x y : R) (n : ℕ) → pow k (k.times x y) n ≡ k.times (pow k x n) (pow k y n)
  pow_times x y zero = sym (l.times_one k.one)
  pow_times x y (suc n) =
      ap (k.times (k.times x y)) (pow_times x y n)
      ∙ solve (operations k) l (x ∷ y ∷ pow k x n ∷ pow k y n ∷ [])
      (product (product (var 0) (var 1)) (product (var 2) (var 3)))
      (product (product (var 0) (var 2)) (product (var 1) (var 3))) tt

  -- a product of exponents
  pub pow_pow : (x : R) (m n : ℕ) → pow k (pow k x m) n ≡ pow k x (m * n)
  pow_pow x m zero = ap (pow k x) (sym (mul-zero m))
  pow_pow x m (suc n) =
      let e : m + m * n ≡ m * suc n = omega (arith, mul-suc m n) in
      ap (k.times (pow k x m)) (pow_pow x m n) ∙ sym (pow_add x m (m * n)) ∙ ap (pow k x) e

  -- powers of powers, in either order
  pub pow_swap : (x : R) (m n : ℕ) → pow k (pow k x m) n ≡ pow k (pow k x n) m
  pow_swap x zero n = pow_one n
  pow_swap x (suc m) n = pow_times x (pow k x m) n ∙ ap (k.times (pow k x n)) (pow_swap x m n)

  -- a power of an inverse
  pub pow_inverse : (x y : R) (n : ℕ) → k.times x y ≡ k.one → k.times (pow k x n) (pow k y n) ≡ k.one
  pow_inverse x y n e = sym (pow_times x y n) ∙ ap (λ z. pow k z n) e ∙ pow_one n

  pub pow_square : (x : R) (n : ℕ) → pow k (k.times x x) n ≡ pow k x (n + n)
  pow_square x n = pow_times x x n ∙ sym (pow_add x n n)

  pub pow_even : (x : R) (n : ℕ) → n % 2 ≡ 0 → pow k (k.times x x) (n / 2) ≡ pow k x n
  pow_even x n h = let e : n / 2 + n / 2 ≡ n = omega arith in pow_square x (n / 2) ∙ ap (pow k x) e

  pub pow_odd : (x : R) (n : ℕ) → n % 2 ≡ 1 → k.times x (pow k (k.times x x) (n / 2)) ≡ pow k x n
  pow_odd x n h =
      let e : suc (n / 2 + n / 2) ≡ n = omega arith in
      ap (k.times x) (pow_square x (n / 2)) ∙ ap (pow k x) e

  -- a turn of repeated squaring, where the exponent is odd
  pub turn_odd : (acc x : R) (n : ℕ) → n % 2 ≡ 1 → k.times (k.times acc x) (pow k (k.times x x) (n / 2)) ≡ k.times acc (pow k x n)
  turn_odd acc x n h = l.times_assoc acc x (pow k (k.times x x) (n / 2)) ∙ ap (k.times acc) (pow_odd x n h)
