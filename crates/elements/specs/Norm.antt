-- The norm of four coefficients with x^4 = w, down to one: a·conjugate a is even + odd·x^2, and its norm is even^2 - w·odd^2. Assumes nothing.
use Rattle.elements.specs.Extension.{Four}
use Rattle.elements.specs.Operations.{Operations}

module _ {A : Type 0} (o : Operations A) (w : A) where
  abbrev pub even : Four A → A
  even a =
      o.plus (o.plus (o.times a.c0 a.c0) (o.times w (o.times a.c2 a.c2)))
      (o.minus (o.plus (o.times w (o.times a.c1 a.c3)) (o.times w (o.times a.c1 a.c3))))

  abbrev pub odd : Four A → A
  odd a =
      o.plus (o.plus (o.times a.c0 a.c2) (o.times a.c0 a.c2))
      (o.minus (o.plus (o.times a.c1 a.c1) (o.times w (o.times a.c3 a.c3))))

  abbrev pub norm_of : A → A → A
  norm_of e d = o.plus (o.times e e) (o.minus (o.times w (o.times d d)))

  abbrev pub norm : Four A → A
  norm a = norm_of (even a) (odd a)

module _ {A : Type 0} (o : Operations A) where
  -- x turned into -x
  abbrev pub conjugate : Four A → Four A
  conjugate a = record { c0 = a.c0; c1 = o.minus a.c1; c2 = a.c2; c3 = o.minus a.c3 }

  -- e + d·x^2
  abbrev pub evenly : A → A → Four A
  evenly e d = record { c0 = e; c1 = o.zero; c2 = d; c3 = o.zero }
