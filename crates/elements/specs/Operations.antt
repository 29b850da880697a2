-- The operations of a ring without the rest of a kind, and the laws of a commutative ring over them. Assumes nothing.
use Rattle.std.specs.Prelude.{◌≡◌, ℕ, Bool, Some, None, Option, ◌≢◌}
use Rattle.std.specs.Option.{option_map}
use Rattle.elements.specs.Kind.{Kind}
use Rattle.elements.specs.Numbers.{least}

pub record Operations (R : Type 0) : Type 0 where
  pub zero : R
  pub one : R
  pub plus : R → R → R
  pub times : R → R → R
  pub minus : R → R

-- what an offered inverse has to be
abbrev pub InverseIn : {R : Type 0} → Operations R → R → Option R → Type 0
InverseIn {R} o x None = (y : R) → o.times x y ≢ o.one
InverseIn o x (Some y) = o.times x y ≡ o.one

-- A commutative ring.
pub record CommutativeRing {R : Type 0} (o : Operations R) : Type 0 where
  pub plus_comm : (x y : R) → o.plus x y ≡ o.plus y x
  pub plus_assoc : (x y z : R) → o.plus (o.plus x y) z ≡ o.plus x (o.plus y z)
  pub plus_zero : (x : R) → o.plus x o.zero ≡ x
  pub plus_minus : (x : R) → o.plus x (o.minus x) ≡ o.zero
  pub times_comm : (x y : R) → o.times x y ≡ o.times y x
  pub times_assoc : (x y z : R) → o.times (o.times x y) z ≡ o.times x (o.times y z)
  pub times_one : (x : R) → o.times x o.one ≡ x
  pub times_plus : (x y z : R) → o.times x (o.plus y z) ≡ o.plus (o.times x y) (o.times x z)

-- the operations of a kind
abbrev pub operations : {R : Type 0} → Kind R → Operations R
operations k = record { zero = k.zero; one = k.one; plus = k.plus; times = k.times; minus = k.minus }

-- the first of n candidates whose product with v is 1
unfoldable pub inverse_among : {R : Type 0} → (R → Bool) → (R → R → R) → (ℕ → R) → ℕ → R → Option R
inverse_among is_one times candidate n v = option_map candidate (least (λ i. is_one (times v (candidate i))) n)
