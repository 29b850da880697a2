-- The parts of a text are those that `split` gives, and a comment begins where `position` says. Assumes nothing.
use Rattle.std.proofs.Common.{◌≡◌, ℕ, suc, ◌+◌, ◌≤◌, Bool, true, false, cond, not, eqb, ltb, List, [], ◌∷◌, ◌++◌, length, take, Some, None, Option, sym, refl, ap, ◌∙◌, subst, append_assoc, append-nil, arith}
use Rattle.std.specs.List.{slice_split, onto_first, before_first, position_or_len}
use Rattle.std.specs.Option.{MatchOption}
use Rattle.std.proofs.lemmas.List.{take_all}
use borrow.Author.Tests.{ltb-false}
use Rattle.script.specs.Pieces.{pieces, pieces_after, uncommented}

-- the parts, the first of which has this before it
abbrev behind : List ℕ → List (List ℕ) → List (List ℕ)
behind front [] = front ∷ []
behind front (part ∷ parts) = (front ++ part) ∷ parts

one_more : (front : List ℕ) (b : ℕ) (parts : List (List ℕ)) → behind front (onto_first b parts) ≡ behind (front ++ (b ∷ [])) parts
one_more front b [] = refl
one_more front b (part ∷ parts) = ap (λ p. p ∷ parts) (sym (append_assoc front (b ∷ []) part))

same : (t : Bool) (b : ℕ) (parts : List (List ℕ)) → behind [] (cond t ([] ∷ parts) (onto_first b parts)) ≡ cond t ([] ∷ parts) (onto_first b parts)
same true b parts = refl
same false b [] = refl
same false b (part ∷ parts) = refl

module _ (cuts : ℕ → Bool) where
  none_before : (bs : List ℕ) → behind [] (slice_split cuts bs) ≡ slice_split cuts bs
  none_before [] = refl
  none_before (b ∷ bs) = same (cuts b) b (slice_split cuts bs)

  turn : (t : Bool) (front : List ℕ) (b : ℕ) (bs : List ℕ) → ((f : List ℕ) → behind f (slice_split cuts bs) ≡ pieces_after cuts f bs)
      → behind front (cond t ([] ∷ slice_split cuts bs) (onto_first b (slice_split cuts bs))) ≡ cond t (front ∷ pieces_after cuts [] bs) (pieces_after cuts (front ++ (b ∷ [])) bs)
  turn true front b bs h = ap (λ p. p ∷ slice_split cuts bs) (append-nil front) ∙ ap (λ l. front ∷ l) (sym (none_before bs) ∙ h [])
  turn false front b bs h = one_more front b (slice_split cuts bs) ∙ h (front ++ (b ∷ []))

  pieces_behind : (front bs : List ℕ) → behind front (slice_split cuts bs) ≡ pieces_after cuts front bs
  pieces_behind front [] = ap (λ p. p ∷ []) (append-nil front)
  pieces_behind front (b ∷ bs) = turn (cuts b) front b bs (λ f. pieces_behind f bs)

  pub pieces_split : (bs : List ℕ) → slice_split cuts bs ≡ pieces cuts bs
  pieces_split bs = sym (none_before bs) ∙ pieces_behind [] bs

abbrev pub comment : ℕ → Bool
comment b = eqb b 35

one_before : (t : Bool) (b : ℕ) (bs rest : List ℕ) (n : ℕ) → take n bs ≡ rest → take (cond (not t) (1 + n) 0) (b ∷ bs) ≡ cond t [] (b ∷ rest)
one_before true b bs rest n e = refl
one_before false b bs rest n e = let more : 1 + n ≡ suc n = omega arith in ap (λ m. take m (b ∷ bs)) more ∙ ap (λ l. b ∷ l) e

before_comment : (bs : List ℕ) → before_first comment bs ≡ uncommented bs
before_comment [] = refl
before_comment (b ∷ bs) = one_before (comment b) b bs (uncommented bs) (position_or_len comment bs) (before_comment bs)

found : (bs : List ℕ) (t : Bool) → ltb (position_or_len comment bs) (length bs) ≡ t
    → MatchOption (cond t (Some (position_or_len comment bs)) None) (bs ≡ uncommented bs) (λ i. take i bs ≡ uncommented bs)
found bs true e = before_comment bs
found bs false e = let past : length bs ≤ position_or_len comment bs = omega (arith, ltb-false (position_or_len comment bs) (length bs) e) in sym (take_all (position_or_len comment bs) bs past) ∙ before_comment bs

-- a line is cut at the place that `position` found
pub cut_at : (bs : List ℕ) (r : Option ℕ) → r ≡ cond (ltb (position_or_len comment bs) (length bs)) (Some (position_or_len comment bs)) None
    → MatchOption r (bs ≡ uncommented bs) (λ i. take i bs ≡ uncommented bs)
cut_at bs r e = subst (λ o. MatchOption o (bs ≡ uncommented bs) (λ i. take i bs ≡ uncommented bs)) (sym e) (found bs (ltb (position_or_len comment bs) (length bs)) refl)
