-- Ring identities by computation: both sides are written out as signed products, and each must cancel against the other. Assumes nothing.
use Rattle.std.specs.Prelude.{◌≡◌, ℕ, zero, suc, Bool, true, false, cond, ◌&&◌, ◌||◌, T, List, [], ◌∷◌, ◌++◌, map, length, ◌==◌, nat_le, slice_index_or, refl}
use Rattle.std.proofs.Common.{sym, ap, ◌∙◌, eqb→eq}
use Rattle.elements.specs.Operations.{Operations, CommutativeRing}
use Rattle.elements.specs.Below.{both_left, both_right}
use Rattle.elements.specs.RingFacts.{zero_plus, swap_plus, swap_times, one_times, minus_unique, minus_minus, minus_zero, minus_plus, times_zero, plus_times, times_minus, minus_times}

-- An expression over variables, which are numbered from 0.
pub data Expr : Type 0 where
  var : ℕ → Expr
  nought : Expr
  unit : Expr
  sum : Expr → Expr → Expr
  product : Expr → Expr → Expr
  negated : Expr → Expr

abbrev pub difference : Expr → Expr → Expr
difference a b = sum a (negated b)

-- A product of variables in ascending order, with its sign; a normal form is a list of them, to be added up.
pub data Term : Type 0 where
  positive : List ℕ → Term
  negative : List ℕ → Term

-- one factor more, at its place
abbrev pub insert : ℕ → List ℕ → List ℕ
insert n [] = n ∷ []
insert n (m ∷ ms) = cond (nat_le n m) (n ∷ m ∷ ms) (m ∷ insert n ms)

-- the factors of both
abbrev pub joined : List ℕ → List ℕ → List ℕ
joined [] ys = ys
joined (x ∷ xs) ys = insert x (joined xs ys)

abbrev pub flip : Term → Term
flip (positive m) = negative m
flip (negative m) = positive m

abbrev pub term_times : Term → Term → Term
term_times (positive a) (positive b) = positive (joined a b)
term_times (positive a) (negative b) = negative (joined a b)
term_times (negative a) (positive b) = negative (joined a b)
term_times (negative a) (negative b) = positive (joined a b)

abbrev pub terms_times : List Term → List Term → List Term
terms_times [] us = []
terms_times (t ∷ ts) us = map (term_times t) us ++ terms_times ts us

-- the normal form, in which equal products of opposite sign may still stand
abbrev pub normal : Expr → List Term
normal (var n) = positive (n ∷ []) ∷ []
normal nought = []
normal unit = positive [] ∷ []
normal (sum a b) = normal a ++ normal b
normal (product a b) = terms_times (normal a) (normal b)
normal (negated a) = map flip (normal a)

abbrev pub same_factors : List ℕ → List ℕ → Bool
same_factors [] [] = true
same_factors [] (y ∷ ys) = false
same_factors (x ∷ xs) [] = false
same_factors (x ∷ xs) (y ∷ ys) = x == y && same_factors xs ys

abbrev pub opposite : Term → Term → Bool
opposite (positive a) (positive b) = false
opposite (positive a) (negative b) = same_factors a b
opposite (negative a) (positive b) = same_factors a b
opposite (negative a) (negative b) = false

-- whether a term has its opposite in the list
abbrev pub has : Term → List Term → Bool
has t [] = false
has t (u ∷ us) = opposite t u || has t us

-- the list but for the first opposite of a term
abbrev pub without : Term → List Term → List Term
without t [] = []
without t (u ∷ us) = cond (opposite t u) us (u ∷ without t us)

-- whether everything cancels, one pair at a time
abbrev pub cancels : ℕ → List Term → Bool
cancels zero [] = true
cancels zero (t ∷ ts) = false
cancels (suc n) [] = true
cancels (suc n) (t ∷ ts) = has t ts && cancels n (without t ts)

-- whether two expressions are equal in every commutative ring
abbrev pub same : Expr → Expr → Bool
same a b = let ts = normal a ++ map flip (normal b) in cancels (length ts) ts

same_factors_is : (xs ys : List ℕ) → T (same_factors xs ys) → xs ≡ ys
same_factors_is [] [] t = refl
same_factors_is [] (y ∷ ys) t = absurd t
same_factors_is (x ∷ xs) [] t = absurd t
same_factors_is (x ∷ xs) (y ∷ ys) t =
    ap (λ z. z ∷ xs) (eqb→eq x y (both_left (x == y) (same_factors xs ys) t)) ∙ ap (λ zs. y ∷ zs) (same_factors_is xs ys (both_right (x == y) (same_factors xs ys) t))

module _ {R : Type 0} (o : Operations R) (ρ : List R) where
  -- with the values ρ for the variables
  abbrev pub value : Expr → R
  value (var n) = slice_index_or ρ n o.zero
  value nought = o.zero
  value unit = o.one
  value (sum a b) = o.plus (value a) (value b)
  value (product a b) = o.times (value a) (value b)
  value (negated a) = o.minus (value a)

  abbrev pub value_factors : List ℕ → R
  value_factors [] = o.one
  value_factors (n ∷ ns) = o.times (slice_index_or ρ n o.zero) (value_factors ns)

  abbrev pub value_term : Term → R
  value_term (positive m) = value_factors m
  value_term (negative m) = o.minus (value_factors m)

  abbrev pub value_terms : List Term → R
  value_terms [] = o.zero
  value_terms (t ∷ ts) = o.plus (value_term t) (value_terms ts)

module _ {R : Type 0} (o : Operations R) (l : CommutativeRing o) (ρ : List R) where
  insert_pick : (b : Bool) (n m : ℕ) (ms zs : List ℕ) → value_factors o ρ zs ≡ o.times (slice_index_or ρ n o.zero) (value_factors o ρ ms)
      → value_factors o ρ (cond b (n ∷ m ∷ ms) (m ∷ zs)) ≡ o.times (slice_index_or ρ n o.zero) (value_factors o ρ (m ∷ ms))
  insert_pick true n m ms zs e = refl
  insert_pick false n m ms zs e = ap (o.times (slice_index_or ρ m o.zero)) e ∙ swap_times o l (slice_index_or ρ m o.zero) (slice_index_or ρ n o.zero) (value_factors o ρ ms)

  insert_value : (n : ℕ) (ms : List ℕ) → value_factors o ρ (insert n ms) ≡ o.times (slice_index_or ρ n o.zero) (value_factors o ρ ms)
  insert_value n [] = refl
  insert_value n (m ∷ ms) = insert_pick (nat_le n m) n m ms (insert n ms) (insert_value n ms)

  joined_value : (xs ys : List ℕ) → value_factors o ρ (joined xs ys) ≡ o.times (value_factors o ρ xs) (value_factors o ρ ys)
  joined_value [] ys = sym (one_times o l (value_factors o ρ ys))
  joined_value (x ∷ xs) ys = insert_value x (joined xs ys) ∙ ap (o.times (slice_index_or ρ x o.zero)) (joined_value xs ys) ∙ sym (l.times_assoc (slice_index_or ρ x o.zero) (value_factors o ρ xs) (value_factors o ρ ys))

  flip_value : (t : Term) → value_term o ρ (flip t) ≡ o.minus (value_term o ρ t)
  flip_value (positive m) = refl
  flip_value (negative m) = sym (minus_minus o l (value_factors o ρ m))

  term_times_value : (t u : Term) → value_term o ρ (term_times t u) ≡ o.times (value_term o ρ t) (value_term o ρ u)
  term_times_value (positive a) (positive b) = joined_value a b
  term_times_value (positive a) (negative b) = ap o.minus (joined_value a b) ∙ sym (times_minus o l (value_factors o ρ a) (value_factors o ρ b))
  term_times_value (negative a) (positive b) = ap o.minus (joined_value a b) ∙ sym (minus_times o l (value_factors o ρ a) (value_factors o ρ b))
  term_times_value (negative a) (negative b) =
      joined_value a b ∙ sym (minus_minus o l (o.times (value_factors o ρ a) (value_factors o ρ b)))
      ∙ ap o.minus (sym (minus_times o l (value_factors o ρ a) (value_factors o ρ b))) ∙ sym (times_minus o l (o.minus (value_factors o ρ a)) (value_factors o ρ b))

  append_value : (ts us : List Term) → value_terms o ρ (ts ++ us) ≡ o.plus (value_terms o ρ ts) (value_terms o ρ us)
  append_value [] us = sym (zero_plus o l (value_terms o ρ us))
  append_value (t ∷ ts) us = ap (o.plus (value_term o ρ t)) (append_value ts us) ∙ sym (l.plus_assoc (value_term o ρ t) (value_terms o ρ ts) (value_terms o ρ us))

  flips_value : (ts : List Term) → value_terms o ρ (map flip ts) ≡ o.minus (value_terms o ρ ts)
  flips_value [] = sym (minus_zero o l)
  flips_value (t ∷ ts) =
      ap (λ a. o.plus a (value_terms o ρ (map flip ts))) (flip_value t) ∙ ap (o.plus (o.minus (value_term o ρ t))) (flips_value ts)
      ∙ sym (minus_plus o l (value_term o ρ t) (value_terms o ρ ts))

  one_times_terms_value : (t : Term) (us : List Term) → value_terms o ρ (map (term_times t) us) ≡ o.times (value_term o ρ t) (value_terms o ρ us)
  one_times_terms_value t [] = sym (times_zero o l (value_term o ρ t))
  one_times_terms_value t (u ∷ us) =
      ap (λ a. o.plus a (value_terms o ρ (map (term_times t) us))) (term_times_value t u) ∙ ap (o.plus (o.times (value_term o ρ t) (value_term o ρ u))) (one_times_terms_value t us)
      ∙ sym (l.times_plus (value_term o ρ t) (value_term o ρ u) (value_terms o ρ us))

  terms_times_value : (ts us : List Term) → value_terms o ρ (terms_times ts us) ≡ o.times (value_terms o ρ ts) (value_terms o ρ us)
  terms_times_value [] us = sym (l.times_comm o.zero (value_terms o ρ us) ∙ times_zero o l (value_terms o ρ us))
  terms_times_value (t ∷ ts) us =
      append_value (map (term_times t) us) (terms_times ts us) ∙ ap (λ a. o.plus a (value_terms o ρ (terms_times ts us))) (one_times_terms_value t us)
      ∙ ap (o.plus (o.times (value_term o ρ t) (value_terms o ρ us))) (terms_times_value ts us)
      ∙ sym (plus_times o l (value_term o ρ t) (value_terms o ρ ts) (value_terms o ρ us))

  normal_value : (e : Expr) → value_terms o ρ (normal e) ≡ value o ρ e
  normal_value (var n) = l.plus_zero (value_factors o ρ (n ∷ [])) ∙ l.times_one (slice_index_or ρ n o.zero)
  normal_value nought = refl
  normal_value unit = l.plus_zero o.one
  normal_value (sum a b) = append_value (normal a) (normal b) ∙ ap (λ x. o.plus x (value_terms o ρ (normal b))) (normal_value a) ∙ ap (o.plus (value o ρ a)) (normal_value b)
  normal_value (product a b) = terms_times_value (normal a) (normal b) ∙ ap (λ x. o.times x (value_terms o ρ (normal b))) (normal_value a) ∙ ap (o.times (value o ρ a)) (normal_value b)
  normal_value (negated a) = flips_value (normal a) ∙ ap o.minus (normal_value a)

  opposite_value : (t u : Term) → T (opposite t u) → o.plus (value_term o ρ t) (value_term o ρ u) ≡ o.zero
  opposite_value (positive a) (positive b) h = absurd h
  opposite_value (positive a) (negative b) h = ap (λ m. o.plus (value_factors o ρ a) (o.minus (value_factors o ρ m))) (sym (same_factors_is a b h)) ∙ l.plus_minus (value_factors o ρ a)
  opposite_value (negative a) (positive b) h =
      ap (λ m. o.plus (o.minus (value_factors o ρ a)) (value_factors o ρ m)) (sym (same_factors_is a b h)) ∙ l.plus_comm (o.minus (value_factors o ρ a)) (value_factors o ρ a) ∙ l.plus_minus (value_factors o ρ a)
  opposite_value (negative a) (negative b) h = absurd h

  without_pick : (b : Bool) (t u : Term) (us : List Term) → (T b → o.plus (value_term o ρ t) (value_term o ρ u) ≡ o.zero) → T (b || has t us)
      → (T (has t us) → o.plus (value_term o ρ t) (value_terms o ρ us) ≡ value_terms o ρ (without t us))
      → o.plus (value_term o ρ t) (value_terms o ρ (u ∷ us)) ≡ value_terms o ρ (cond b us (u ∷ without t us))
  without_pick true t u us opp h rec = sym (l.plus_assoc (value_term o ρ t) (value_term o ρ u) (value_terms o ρ us)) ∙ ap (λ x. o.plus x (value_terms o ρ us)) (opp tt) ∙ zero_plus o l (value_terms o ρ us)
  without_pick false t u us opp h rec = swap_plus o l (value_term o ρ t) (value_term o ρ u) (value_terms o ρ us) ∙ ap (o.plus (value_term o ρ u)) (rec h)

  without_value : (t : Term) (us : List Term) → T (has t us) → o.plus (value_term o ρ t) (value_terms o ρ us) ≡ value_terms o ρ (without t us)
  without_value t [] h = absurd h
  without_value t (u ∷ us) h = without_pick (opposite t u) t u us (opposite_value t u) h (without_value t us)

  cancels_value : (n : ℕ) (ts : List Term) → T (cancels n ts) → value_terms o ρ ts ≡ o.zero
  cancels_value zero [] h = refl
  cancels_value zero (t ∷ ts) h = absurd h
  cancels_value (suc n) [] h = refl
  cancels_value (suc n) (t ∷ ts) h =
      without_value t ts (both_left (has t ts) (cancels n (without t ts)) h) ∙ cancels_value n (without t ts) (both_right (has t ts) (cancels n (without t ts)) h)

  -- two sides that cancel are equal
  pub solve : (a b : Expr) → T (same a b) → value o ρ a ≡ value o ρ b
  solve a b h =
      let ts = normal a ++ map flip (normal b) in
      let z : o.plus (value o ρ a) (o.minus (value o ρ b)) ≡ o.zero
      = sym (append_value (normal a) (map flip (normal b)) ∙ ap (λ x. o.plus x (value_terms o ρ (map flip (normal b)))) (normal_value a)
      ∙ ap (o.plus (value o ρ a)) (flips_value (normal b) ∙ ap o.minus (normal_value b))) ∙ cancels_value (length ts) ts h in
      sym (minus_minus o l (value o ρ a)) ∙ ap o.minus (sym (minus_unique o l (value o ρ a) (o.minus (value o ρ b)) z)) ∙ minus_minus o l (value o ρ b)
