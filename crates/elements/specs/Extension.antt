-- Four coefficients, and their product where x^4 is w. Assumes nothing.

-- a0 + a1·x + a2·x^2 + a3·x^3
pub record Four (A : Type 0) : Type 0 where
  pub c0 : A
  pub c1 : A
  pub c2 : A
  pub c3 : A

module _ {A : Type 0} (plus times : A → A → A) (w : A) where
  -- a_i·b_j belongs to x^(i+j), and from x^4 on w·a_i·b_j to x^(i+j-4)
  abbrev pub mul4 : Four A → Four A → Four A
  mul4 a b = record {
    c0 = plus (times a.c0 b.c0) (times w (plus (plus (times a.c1 b.c3) (times a.c2 b.c2)) (times a.c3 b.c1)));
    c1 = plus (plus (times a.c0 b.c1) (times a.c1 b.c0)) (times w (plus (times a.c2 b.c3) (times a.c3 b.c2)));
    c2 = plus (plus (plus (times a.c0 b.c2) (times a.c1 b.c1)) (times a.c2 b.c0)) (times w (times a.c3 b.c3));
    c3 = plus (plus (plus (times a.c0 b.c3) (times a.c1 b.c2)) (times a.c2 b.c1)) (times a.c3 b.c0);
  }
