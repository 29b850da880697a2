-- The least number that passes a test: it passes, or none below the bound does. So the inverse is found among candidates. Assumes nothing.
use Rattle.std.specs.Prelude.{◌≡◌, ℕ, zero, suc, ◌<◌, Bool, true, false, cond, T, Some, None, Option, MatchOption, refl}
use Rattle.std.proofs.Common.{subst, sym, ap, ◌∙◌, ⊎_elim, not-suc-le-zero, arith}
use Rattle.std.specs.Option.{option_map}
use Rattle.std.proofs.lemmas.Bool.{cases_eq}
use Rattle.elements.specs.Kind.{Kind, Inverse}
use Rattle.elements.specs.Numbers.{or_else, least}
use Rattle.elements.specs.Operations.{inverse_among}

module _ (passes : ℕ → Bool) where
  -- what a search among the numbers below n found
  abbrev pub Found : ℕ → Option ℕ → Type 0
  Found n o = MatchOption o ((m : ℕ) → m < n → T (passes m) → ⊥) (λ m. (m < n) × T (passes m))

  found_more : (n : ℕ) (o : Option ℕ) (b : Bool) → passes n ≡ b → Found n o → Found (suc n) (or_else o (cond b (Some n) None))
  found_more n (Some m) b e h = (omega (arith, h.0), h.1)
  found_more n None true e h = (omega arith, subst T (sym e) tt)
  found_more n None false e h =
      λ m below t.
      ⊎_elim
      (λ (q : m ≡ n). subst T e (subst (λ (i : ℕ). T (passes i)) q t))
      (λ (q : m ≡ n → ⊥). h m (omega arith) t)
      (cases_eq m n)

  pub least_found : (n : ℕ) → Found n (least passes n)
  least_found zero = λ m below t. not-suc-le-zero below
  least_found (suc n) = found_more n (least passes n) (passes n) refl (least_found n)

-- The candidates below n are all elements, and the test tells 1.
pub record Candidates {R : Type 0} (k : Kind R) (is_one : R → Bool) (candidate : ℕ → R) (n : ℕ) : Type 0 where
  pub one_passes : T (is_one k.one)
  pub passes_one : (x : R) → T (is_one x) → x ≡ k.one
  pub number : R → ℕ
  pub below : (x : R) → number x < n
  pub back : (x : R) → candidate (number x) ≡ x

module _ {R : Type 0} (k : Kind R) (is_one : R → Bool) (candidate : ℕ → R) (n : ℕ) (all : Candidates k is_one candidate n) where
  found_inverse : (v : R) (o : Option ℕ) → Found (λ i. is_one (k.times v (candidate i))) n o → Inverse k v (option_map candidate o)
  found_inverse v None h =
      λ y e. h (all.number y) (all.below y) (subst (λ x. T (is_one x)) (sym (ap (k.times v) (all.back y) ∙ e)) all.one_passes)
  found_inverse v (Some i) h = all.passes_one _ h.1

  pub inverse_among_inverts : (v : R) → Inverse k v (inverse_among is_one k.times candidate n v)
  unfolding inverse_among
  inverse_among_inverts v = found_inverse v _ (least_found (λ i. is_one (k.times v (candidate i))) n)
