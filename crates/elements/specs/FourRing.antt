-- Four coefficients over a ring, with x^4 = w, form a ring; the norm tells which have an inverse. Assumes nothing.
use Rattle.std.specs.Prelude.{◌≡◌, T, List, [], ◌∷◌}
use Rattle.std.proofs.Common.{sym, ap, ◌∙◌}
use Rattle.elements.specs.Extension.{Four, mul4}
use Rattle.elements.specs.Operations.{Operations, CommutativeRing}
use Rattle.elements.specs.Norm.{even, odd, norm_of, norm, conjugate, evenly}
use Rattle.elements.specs.Solver.{Expr, var, sum, product, negated, nought, unit, same, value, solve}

abbrev pub fours : {A : Type 0} → Operations A → A → Operations (Four A)
fours {A} o w = record {
  zero = record { c0 = o.zero; c1 = o.zero; c2 = o.zero; c3 = o.zero };
  one = record { c0 = o.one; c1 = o.zero; c2 = o.zero; c3 = o.zero };
  plus = λ (a b : Four A). record { c0 = o.plus a.c0 b.c0; c1 = o.plus a.c1 b.c1; c2 = o.plus a.c2 b.c2; c3 = o.plus a.c3 b.c3 };
  times = mul4 o.plus o.times w;
  minus = λ (a : Four A). record { c0 = o.minus a.c0; c1 = o.minus a.c1; c2 = o.minus a.c2; c3 = o.minus a.c3 };
}

-- the one coefficient c0
abbrev pub alone : {A : Type 0} → Operations A → A → Four A
alone o x = record { c0 = x; c1 = o.zero; c2 = o.zero; c3 = o.zero }

-- the element x
abbrev pub x_itself : {A : Type 0} → Operations A → Four A
x_itself o = record { c0 = o.zero; c1 = o.one; c2 = o.zero; c3 = o.zero }

abbrev expressions : Operations Expr
expressions = record { zero = nought; one = unit; plus = sum; times = product; minus = negated }

-- w, and the coefficients of three elements
abbrev w' : Expr
w' = var 0

abbrev a' : Four Expr
a' = record { c0 = var 1; c1 = var 2; c2 = var 3; c3 = var 4 }

abbrev b' : Four Expr
b' = record { c0 = var 5; c1 = var 6; c2 = var 7; c3 = var 8 }

abbrev c' : Four Expr
c' = record { c0 = var 9; c1 = var 10; c2 = var 11; c3 = var 12 }

abbrev E : Operations (Four Expr)
E = fours expressions w'

-- each coefficient of one cancels against that of the other
abbrev same4 : Four Expr → Four Expr → Type 0
same4 e f = T (same e.c0 f.c0) × T (same e.c1 f.c1) × T (same e.c2 f.c2) × T (same e.c3 f.c3)

module _ {R : Type 0} (o : Operations R) (l : CommutativeRing o) (w : R) where
  abbrev F : Operations (Four R)
  F = fours o w

  abbrev env : Four R → Four R → Four R → List R
  env a b c = w ∷ a.c0 ∷ a.c1 ∷ a.c2 ∷ a.c3 ∷ b.c0 ∷ b.c1 ∷ b.c2 ∷ b.c3 ∷ c.c0 ∷ c.c1 ∷ c.c2 ∷ c.c3 ∷ []

  abbrev value4 : Four R → Four R → Four R → Four Expr → Four R
  value4 a b c e = record { c0 = value o (env a b c) e.c0; c1 = value o (env a b c) e.c1; c2 = value o (env a b c) e.c2; c3 = value o (env a b c) e.c3 }

  solve4 : (a b c : Four R) (e f : Four Expr) → same4 e f → value4 a b c e ≡ value4 a b c f
  solve4 a b c e f h =
      λ i. record {
        c0 = solve o l (env a b c) e.c0 f.c0 h.0 i;
        c1 = solve o l (env a b c) e.c1 f.c1 h.1 i;
        c2 = solve o l (env a b c) e.c2 f.c2 h.2 i;
        c3 = solve o l (env a b c) e.c3 f.c3 h.3 i;
      }

  pub four_ring : CommutativeRing F
  four_ring = record {
    plus_comm = λ a b. solve4 a b b (E.plus a' b') (E.plus b' a') (tt, tt, tt, tt);
    plus_assoc = λ a b c. solve4 a b c (E.plus (E.plus a' b') c') (E.plus a' (E.plus b' c')) (tt, tt, tt, tt);
    plus_zero = λ a. solve4 a a a (E.plus a' E.zero) a' (tt, tt, tt, tt);
    plus_minus = λ a. solve4 a a a (E.plus a' (E.minus a')) E.zero (tt, tt, tt, tt);
    times_comm = λ a b. solve4 a b b (E.times a' b') (E.times b' a') (tt, tt, tt, tt);
    times_assoc = λ a b c. solve4 a b c (E.times (E.times a' b') c') (E.times a' (E.times b' c')) (tt, tt, tt, tt);
    times_one = λ a. solve4 a a a (E.times a' E.one) a' (tt, tt, tt, tt);
    times_plus = λ a b c. solve4 a b c (E.times a' (E.plus b' c')) (E.plus (E.times a' b') (E.times a' c')) (tt, tt, tt, tt);
  }

  pub alone_times : (x y : R) → F.times (alone o x) (alone o y) ≡ alone o (o.times x y)
  alone_times x y =
      let a = alone o x in
      let b = alone o y in
      solve4 a b b (E.times (alone expressions (var 1)) (alone expressions (var 5))) (alone expressions (product (var 1) (var 5))) (tt, tt, tt, tt)

  -- a times its conjugate
  times_conjugate : (a : Four R) → F.times a (conjugate o a) ≡ evenly o (even o w a) (odd o w a)
  times_conjugate a =
      solve4 a a a (E.times a' (conjugate expressions a')) (evenly expressions (even expressions w' a') (odd expressions w' a')) (tt, tt, tt, tt)

  -- (e + d·x^2)·(e·y - d·y·x^2) is the norm times y
  times_evenly : (e d y : R) → F.times (evenly o e d) (evenly o (o.times e y) (o.minus (o.times d y))) ≡ alone o (o.times (norm_of o w e d) y)
  times_evenly e d y =
      let a = evenly o e d in
      let b = alone o y in
      solve4 a b b
      (E.times (evenly expressions (var 1) (var 3)) (evenly expressions (product (var 1) (var 5)) (negated (product (var 3) (var 5)))))
      (alone expressions (product (norm_of expressions w' (var 1) (var 3)) (var 5))) (tt, tt, tt, tt)

  -- an inverse y of the norm gives one of a
  pub inverse_there : (a : Four R) (y : R) → o.times (norm o w a) y ≡ o.one
      → F.times a (F.times (conjugate o a) (evenly o (o.times (even o w a) y) (o.minus (o.times (odd o w a) y)))) ≡ F.one
  inverse_there a y e =
      let other = evenly o (o.times (even o w a) y) (o.minus (o.times (odd o w a) y)) in
      sym (four_ring.times_assoc a (conjugate o a) other) ∙ ap (λ m. F.times m other) (times_conjugate a)
      ∙ times_evenly (even o w a) (odd o w a) y ∙ ap (alone o) e

  even_times : (a b : Four R) → even o w (F.times a b) ≡ o.plus (o.times (even o w a) (even o w b)) (o.times w (o.times (odd o w a) (odd o w b)))
  even_times a b =
      solve o l (env a b b) (even expressions w' (E.times a' b'))
      (sum (product (even expressions w' a') (even expressions w' b')) (product w' (product (odd expressions w' a') (odd expressions w' b')))) tt

  odd_times : (a b : Four R) → odd o w (F.times a b) ≡ o.plus (o.times (even o w a) (odd o w b)) (o.times (odd o w a) (even o w b))
  odd_times a b =
      solve o l (env a b b) (odd expressions w' (E.times a' b'))
      (sum (product (even expressions w' a') (odd expressions w' b')) (product (odd expressions w' a') (even expressions w' b'))) tt

  norm_of_times : (e d f g : R) → norm_of o w (o.plus (o.times e f) (o.times w (o.times d g))) (o.plus (o.times e g) (o.times d f)) ≡ o.times (norm_of o w e d) (norm_of o w f g)
  norm_of_times e d f g =
      let N = norm_of expressions (var 0) in
      solve o l (w ∷ e ∷ d ∷ f ∷ g ∷ [])
      (N (sum (product (var 1) (var 3)) (product (var 0) (product (var 2) (var 4)))) (sum (product (var 1) (var 4)) (product (var 2) (var 3))))
      (product (N (var 1) (var 2)) (N (var 3) (var 4))) tt

  -- the norm keeps products
  norm_times : (a b : Four R) → norm o w (F.times a b) ≡ o.times (norm o w a) (norm o w b)
  norm_times a b =
      ap (λ e. norm_of o w e (odd o w (F.times a b))) (even_times a b)
      ∙ ap (norm_of o w (o.plus (o.times (even o w a) (even o w b)) (o.times w (o.times (odd o w a) (odd o w b))))) (odd_times a b)
      ∙ norm_of_times (even o w a) (odd o w a) (even o w b) (odd o w b)

  norm_one : norm o w F.one ≡ o.one
  norm_one = solve o l (w ∷ []) (norm expressions (var 0) E.one) unit tt

  -- a product that is 1 makes the norm a unit
  pub inverse_norm : (a z : Four R) → F.times a z ≡ F.one → o.times (norm o w a) (norm o w z) ≡ o.one
  inverse_norm a z e = sym (norm_times a z) ∙ ap (norm o w) e ∙ norm_one

  -- a + x·(b + x·(c + x·(d + x·0)))
  pub horner4 : (a b c d : R)
      → F.plus (alone o a) (F.times (x_itself o) (F.plus (alone o b) (F.times (x_itself o) (F.plus (alone o c) (F.times (x_itself o) (F.plus (alone o d) (F.times (x_itself o) F.zero)))))))
      ≡ record { c0 = a; c1 = b; c2 = c; c3 = d }
  horner4 a b c d =
      let v : Four R = record { c0 = a; c1 = b; c2 = c; c3 = d } in
      let step : Expr → Four Expr → Four Expr = λ e rest. E.plus (alone expressions e) (E.times (x_itself expressions) rest) in
      solve4 v v v (step (var 1) (step (var 2) (step (var 3) (step (var 4) E.zero)))) a' (tt, tt, tt, tt)
