-- What follows from the laws of a ring. Assumes nothing.
use Rattle.std.specs.Prelude.{◌≡◌}
use Rattle.std.proofs.Common.{sym, ap, ◌∙◌}
use Rattle.elements.specs.Operations.{Operations, CommutativeRing}

module _ {R : Type 0} (o : Operations R) (l : CommutativeRing o) where
  pub zero_plus : (x : R) → o.plus o.zero x ≡ x
  zero_plus x = l.plus_comm o.zero x ∙ l.plus_zero x

  pub swap_plus : (x y z : R) → o.plus x (o.plus y z) ≡ o.plus y (o.plus x z)
  swap_plus x y z = sym (l.plus_assoc x y z) ∙ ap (λ a. o.plus a z) (l.plus_comm x y) ∙ l.plus_assoc y x z

  pub swap_times : (x y z : R) → o.times x (o.times y z) ≡ o.times y (o.times x z)
  swap_times x y z = sym (l.times_assoc x y z) ∙ ap (λ a. o.times a z) (l.times_comm x y) ∙ l.times_assoc y x z

  pub one_times : (x : R) → o.times o.one x ≡ x
  one_times x = l.times_comm o.one x ∙ l.times_one x

  pub minus_plus_cancel : (x y : R) → o.plus (o.minus x) (o.plus x y) ≡ y
  minus_plus_cancel x y = sym (l.plus_assoc (o.minus x) x y) ∙ ap (λ a. o.plus a y) (l.plus_comm (o.minus x) x ∙ l.plus_minus x) ∙ zero_plus y

  -- what adds to nothing is the negation
  pub minus_unique : (x y : R) → o.plus x y ≡ o.zero → y ≡ o.minus x
  minus_unique x y e = sym (minus_plus_cancel x y) ∙ ap (o.plus (o.minus x)) e ∙ l.plus_zero (o.minus x)

  pub minus_minus : (x : R) → o.minus (o.minus x) ≡ x
  minus_minus x = sym (minus_unique (o.minus x) x (l.plus_comm (o.minus x) x ∙ l.plus_minus x))

  pub minus_zero : o.minus o.zero ≡ o.zero
  minus_zero = sym (minus_unique o.zero o.zero (l.plus_zero o.zero))

  pub minus_plus : (x y : R) → o.minus (o.plus x y) ≡ o.plus (o.minus x) (o.minus y)
  minus_plus x y = sym (minus_unique (o.plus x y) (o.plus (o.minus x) (o.minus y))
      (l.plus_assoc x y (o.plus (o.minus x) (o.minus y))
      ∙ ap (o.plus x) (swap_plus y (o.minus x) (o.minus y) ∙ ap (o.plus (o.minus x)) (l.plus_minus y) ∙ l.plus_zero (o.minus x))
      ∙ l.plus_minus x))

  pub times_zero : (x : R) → o.times x o.zero ≡ o.zero
  times_zero x =
      let y = o.times x o.zero in
      let e : o.plus y y ≡ y = sym (l.times_plus x o.zero o.zero) ∙ ap (o.times x) (l.plus_zero o.zero) in
      sym (minus_plus_cancel y y) ∙ ap (o.plus (o.minus y)) e ∙ l.plus_comm (o.minus y) y ∙ l.plus_minus y

  pub plus_times : (x y z : R) → o.times (o.plus x y) z ≡ o.plus (o.times x z) (o.times y z)
  plus_times x y z = l.times_comm (o.plus x y) z ∙ l.times_plus z x y ∙ ap (λ a. o.plus a (o.times z y)) (l.times_comm z x) ∙ ap (o.plus (o.times x z)) (l.times_comm z y)

  pub times_minus : (x y : R) → o.times x (o.minus y) ≡ o.minus (o.times x y)
  times_minus x y = minus_unique (o.times x y) (o.times x (o.minus y)) (sym (l.times_plus x y (o.minus y)) ∙ ap (o.times x) (l.plus_minus y) ∙ times_zero x)

  pub minus_times : (x y : R) → o.times (o.minus x) y ≡ o.minus (o.times x y)
  minus_times x y = l.times_comm (o.minus x) y ∙ times_minus y x ∙ ap o.minus (l.times_comm y x)
