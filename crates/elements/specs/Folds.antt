-- A polynomial at a point is the fold of its coefficients, last to first. Assumes nothing.
use Rattle.std.specs.Prelude.{◌≡◌, ℕ, suc, List, [], ◌∷◌, ◌++◌, reverse, length, refl}
use Rattle.std.proofs.Common.{sym, ap, ◌∙◌}
use mathlib.Core.List.{reverse-cons, reverse-append}
use Rattle.std.proofs.lemmas.List.{nil_from_length}
use Rattle.std.proofs.lemmas.List.Sums.{fold-append}
use Rattle.elements.specs.Kind.{Kind, pow, terms, total, evaluated}
use Rattle.elements.specs.Operations.{CommutativeRing, operations}
use Rattle.elements.specs.Sums.{fold}
use Rattle.elements.specs.RingFacts.{one_times, times_zero}

module _ {R : Type 0} (k : Kind R) (l : CommutativeRing (operations k)) where
  -- each term has one more factor y
  terms_more : (y : R) (i : ℕ) (cs : List R) → total k (terms k y (suc i) cs) ≡ k.times y (total k (terms k y i cs))
  terms_more y i [] = sym (times_zero (operations k) l y)
  terms_more y i (c ∷ cs) =
      ap (λ a. k.plus a (total k (terms k y (suc (suc i)) cs))) (l.times_assoc y (pow k y i) c)
      ∙ ap (k.plus (k.times y (k.times (pow k y i) c))) (terms_more y (suc i) cs)
      ∙ sym (l.times_plus y (k.times (pow k y i) c) (total k (terms k y (suc i) cs)))

  pub evaluated_cons : (y c : R) (cs : List R) → evaluated k y (c ∷ cs) ≡ k.plus c (k.times y (evaluated k y cs))
  evaluated_cons y c cs =
      ap (λ a. k.plus a (total k (terms k y 1 cs))) (one_times (operations k) l c) ∙ ap (k.plus c) (terms_more y 0 cs)

  pub fold_reverse : (y : R) (cs : List R) → fold k y k.zero (reverse cs) ≡ evaluated k y cs
  fold_reverse y [] = refl
  fold_reverse y (c ∷ cs) =
      ap (fold k y k.zero) (reverse-cons c cs) ∙ fold-append (λ a d. k.plus (k.times a y) d) k.zero (reverse cs) (c ∷ [])
      ∙ ap (λ a. k.plus (k.times a y) c) (fold_reverse y cs)
      ∙ l.plus_comm (k.times (evaluated k y cs) y) c
      ∙ ap (k.plus c) (l.times_comm (evaluated k y cs) y) ∙ sym (evaluated_cons y c cs)

-- one step and the end of a walk over a list from its end
module _ {R : Type 0} (k : Kind R) (y acc : R) where
  pub fold_back_more : (cs ds : List R) (c : R) → cs ≡ ds ++ (c ∷ []) → fold k y acc (reverse cs) ≡ fold k y (k.plus (k.times acc y) c) (reverse ds)
  fold_back_more cs ds c e = ap (λ bs. fold k y acc (reverse bs)) e ∙ ap (fold k y acc) (reverse-append ds (c ∷ []))

  pub fold_back_all : (cs : List R) → length cs ≡ 0 → fold k y acc (reverse cs) ≡ acc
  fold_back_all cs e = ap (λ bs. fold k y acc (reverse bs)) (nil_from_length cs e)
