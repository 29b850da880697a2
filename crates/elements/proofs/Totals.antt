-- Sums and products of lists of elements. Assumes nothing.
use Rattle.std.proofs.Common.{◌≡◌, List, [], ◌∷◌, ◌++◌, map, length, sym, refl, ap, ◌∙◌}
use Rattle.std.specs.List.{All, fold}
use Rattle.std.proofs.lemmas.List.Elements.{All-head, All-tail}
use Rattle.elements.specs.Kind.{Kind, pow, total, Invertible}
use Rattle.elements.specs.Operations.{CommutativeRing, operations}
use Rattle.elements.specs.Sums.{product}
use Rattle.elements.specs.Inverse.{one_invertible, times_invertible}
use Rattle.elements.specs.RingFacts.{zero_plus, one_times, times_zero, minus_zero, minus_plus}
use Rattle.elements.specs.Solver.{var, sum, solve}
use Rattle.elements.specs.Solver.{product as productOf}

-- an operation taken over a list from its first on is the operation taken over it from its last on
module _ {R : Type 0} (op : R → R → R) (unit : R) (all : List R → R) (none : all [] ≡ unit) (more : (v : R) (vs : List R) → all (v ∷ vs) ≡ op v (all vs))
    (assoc : (x y z : R) → op (op x y) z ≡ op x (op y z)) (right : (x : R) → op x unit ≡ x) (left : (x : R) → op unit x ≡ x) where
  folded_on : (acc : R) (vs : List R) → fold op acc vs ≡ op acc (all vs)
  folded_on acc [] = sym (ap (op acc) none ∙ right acc)
  folded_on acc (v ∷ vs) = folded_on (op acc v) vs ∙ assoc acc v (all vs) ∙ ap (op acc) (sym (more v vs))

  folded_up : (vs : List R) → fold op unit vs ≡ all vs
  folded_up vs = folded_on unit vs ∙ left (all vs)

module _ {R : Type 0} (k : Kind R) (l : CommutativeRing (operations k)) where
  pub total_append : (us vs : List R) → total k (us ++ vs) ≡ k.plus (total k us) (total k vs)
  total_append [] vs = sym (zero_plus (operations k) l (total k vs))
  total_append (u ∷ us) vs = ap (k.plus u) (total_append us vs) ∙ sym (l.plus_assoc u (total k us) (total k vs))

  pub total_push : (vs : List R) (v : R) → total k (vs ++ (v ∷ [])) ≡ k.plus (total k vs) v
  total_push vs v = total_append vs (v ∷ []) ∙ ap (k.plus (total k vs)) (l.plus_zero v)

  pub fold_total : (vs : List R) → fold k.plus k.zero vs ≡ total k vs
  fold_total = folded_up k.plus k.zero (total k) refl (λ v vs. refl) l.plus_assoc l.plus_zero (zero_plus (operations k) l)

  -- a common factor
  pub total_scaled : {X : Type 0} (y : R) (f : X → R) (xs : List X) → total k (map (λ x. k.times y (f x)) xs) ≡ k.times y (total k (map f xs))
  total_scaled y f [] = sym (times_zero (operations k) l y)
  total_scaled y f (x ∷ xs) =
      ap (k.plus (k.times y (f x))) (total_scaled y f xs) ∙ sym (l.times_plus y (f x) (total k (map f xs)))

  pub total_plus : {X : Type 0} (f g : X → R) (xs : List X) → total k (map (λ x. k.plus (f x) (g x)) xs) ≡ k.plus (total k (map f xs)) (total k (map g xs))
  total_plus f g [] = sym (l.plus_zero k.zero)
  total_plus f g (x ∷ xs) =
      ap (k.plus (k.plus (f x) (g x))) (total_plus f g xs)
      ∙ solve (operations k) l (f x ∷ g x ∷ total k (map f xs) ∷ total k (map g xs) ∷ [])
      (sum (sum (var 0) (var 1)) (sum (var 2) (var 3)))
      (sum (sum (var 0) (var 2)) (sum (var 1) (var 3))) tt

  pub total_minus : {X : Type 0} (f : X → R) (xs : List X) → total k (map (λ x. k.minus (f x)) xs) ≡ k.minus (total k (map f xs))
  total_minus f [] = sym (minus_zero (operations k) l)
  total_minus f (x ∷ xs) =
      ap (k.plus (k.minus (f x))) (total_minus f xs) ∙ sym (minus_plus (operations k) l (f x) (total k (map f xs)))

  pub total_zero : (vs : List R) → All (λ v. v ≡ k.zero) vs → total k vs ≡ k.zero
  total_zero [] h = refl
  total_zero (v ∷ vs) h =
      ap (λ a. k.plus a (total k vs)) (All-head (λ u. u ≡ k.zero) v vs h) ∙ zero_plus (operations k) l (total k vs)
      ∙ total_zero vs (All-tail (λ u. u ≡ k.zero) v vs h)

  pub product_append : (us vs : List R) → product k (us ++ vs) ≡ k.times (product k us) (product k vs)
  product_append [] vs = sym (one_times (operations k) l (product k vs))
  product_append (u ∷ us) vs = ap (k.times u) (product_append us vs) ∙ sym (l.times_assoc u (product k us) (product k vs))

  pub product_push : (vs : List R) (v : R) → product k (vs ++ (v ∷ [])) ≡ k.times (product k vs) v
  product_push vs v = product_append vs (v ∷ []) ∙ ap (k.times (product k vs)) (l.times_one v)

  pub fold_product : (vs : List R) → fold k.times k.one vs ≡ product k vs
  fold_product = folded_up k.times k.one (product k) refl (λ v vs. refl) l.times_assoc l.times_one (one_times (operations k) l)

  pub product_times : {X : Type 0} (f g : X → R) (xs : List X) → product k (map (λ x. k.times (f x) (g x)) xs) ≡ k.times (product k (map f xs)) (product k (map g xs))
  product_times f g [] = sym (l.times_one k.one)
  product_times f g (x ∷ xs) =
      ap (k.times (k.times (f x) (g x))) (product_times f g xs)
      ∙ solve (operations k) l (f x ∷ g x ∷ product k (map f xs) ∷ product k (map g xs) ∷ [])
      (productOf (productOf (var 0) (var 1)) (productOf (var 2) (var 3)))
      (productOf (productOf (var 0) (var 2)) (productOf (var 1) (var 3))) tt

  product_alike : {X : Type 0} (y : R) (xs : List X) → product k (map (λ _. y) xs) ≡ pow k y (length xs)
  product_alike y [] = refl
  product_alike y (x ∷ xs) = ap (k.times y) (product_alike y xs)

  -- a common factor
  pub product_scaled : {X : Type 0} (y : R) (f : X → R) (xs : List X) → product k (map (λ x. k.times y (f x)) xs) ≡ k.times (pow k y (length xs)) (product k (map f xs))
  product_scaled y f xs = product_times (λ _. y) f xs ∙ ap (λ z. k.times z (product k (map f xs))) (product_alike y xs)

  pub product_invertible : (vs : List R) → All (Invertible k) vs → Invertible k (product k vs)
  product_invertible [] h = one_invertible k l
  product_invertible (v ∷ vs) h = times_invertible k l v (product k vs) (All-head (Invertible k) v vs h) (product_invertible vs (All-tail (Invertible k) v vs h))
