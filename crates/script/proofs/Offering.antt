-- The element with given coefficients. Assumes nothing.
use Rattle.std.proofs.Common.{◌≡◌, ℕ, ◌<◌, Bool, true, false, cond, ◌&&◌, eqb, List, [], ◌∷◌, length, Some, None, Option, sym, refl, ap, ◌∙◌, ltb-true, lt-ltb, eq-eqb, eqb-true}
use Rattle.std.specs.List.{All}
use Rattle.std.specs.Option.{ok_or}
use Rattle.std.specs.Result.{result_ok}
use Rattle.std.proofs.lemmas.Bool.{and_parts}
use Rattle.std.proofs.lemmas.List.Elements.{All-nil, All-cons, All-head, All-tail}
use Rattle.elements.specs.Kind.{Kind, Laws, Canonical}
use Rattle.elements.specs.Faults.{Offered}
use Rattle.script.specs.Values.{all_below, offered_element}

below_all : (p : ℕ) (cs : List ℕ) → all_below p cs ≡ true → All (λ c. c < p) cs
below_all p [] e = All-nil (λ c. c < p)
below_all p (c ∷ cs) e =
    All-cons (λ c. c < p) c cs (ltb-true c p (and_parts _ _ e).0) (below_all p cs (and_parts _ _ e).1)

all_are_below : (p : ℕ) (cs : List ℕ) → All (λ c. c < p) cs → all_below p cs ≡ true
all_are_below p [] h = refl
all_are_below p (c ∷ cs) h =
    ap (λ b. b && all_below p cs) (lt-ltb c p (All-head (λ c. c < p) c cs h)) ∙ all_are_below p cs (All-tail (λ c. c < p) c cs h)

module _ {R : Type 0} (k : Kind R) (l : Laws k) (cs : List ℕ) where
  passes : Canonical k cs → eqb (length cs) k.dimension && all_below k.modulus cs ≡ true
  passes h = ap (λ b. b && all_below k.modulus cs) (eq-eqb _ _ h.0) ∙ all_are_below k.modulus cs h.1

  told : eqb (length cs) k.dimension && all_below k.modulus cs ≡ true → Canonical k cs
  told e = (eqb-true _ _ (and_parts _ _ e).0, below_all k.modulus cs (and_parts _ _ e).1)

  refused : (b : Bool) → eqb (length cs) k.dimension && all_below k.modulus cs ≡ b → (Canonical k cs → ⊥) → None ≡ cond b (Some (k.element cs)) None
  refused true e h = absurd (h (told e))
  refused false e h = refl

  -- what a kind answers of offered coefficients is the one element that has them, or nothing
  pub offered_is : (r : Option R) → Offered k cs r → r ≡ offered_element k cs
  offered_is None h = refused _ refl h
  offered_is (Some v) h =
      ap Some (sym (l.coordinates.back v) ∙ ap k.element h.1)
      ∙ ap (λ b. cond b (Some (k.element cs)) None) (sym (passes h.0))

-- an element's own coefficients are those of it
pub offered_back : {R : Type 0} (k : Kind R) → Laws k → (v : R) → offered_element k (k.coefficients v) ≡ Some v
offered_back k l v = sym (offered_is k l (k.coefficients v) (Some v) (l.coordinates.canonical v, refl))

-- what a reason is added to, where there is nothing, is still there where there is
pub ok_again : {X W : Type 0} (o : Option X) (why : W) → result_ok (ok_or o why) ≡ o
ok_again None why = refl
ok_again (Some x) why = refl
