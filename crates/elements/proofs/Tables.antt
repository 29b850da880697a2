-- Tables of inverses and of roots: the rule of each is one test, computed at each entry. Assumes nothing.
use Rattle.std.proofs.Common.{◌≡◌, ℕ, suc, ◌*◌, ◌%◌, ◌<◌, Bool, ◌&&◌, T, eqb, ltb, List, get_or, Some, ap, sym, ◌∙◌, arith, eqb→eq, ltb→lt}
use Rattle.std.proofs.lemmas.Bool.{cond-true, le-leb}
use Rattle.elements.specs.Kind.{Kind, root_of, root_at}
use Rattle.elements.specs.Below.{both_left, both_right, unless_first, unless_first_passes, all_below, below_at}

-- an entry is below 257, and its product with its place is 1, but at place 0
abbrev inverts : List ℕ → ℕ → Bool
inverts table n = unless_first n (eqb (n * get_or table n 0 % 257) 1)

abbrev is_inverse : List ℕ → ℕ → Bool
is_inverse table n = ltb (get_or table n 0) 257 && inverts table n

pub inverse_below : (table : List ℕ) (n : ℕ) → n < 257 → T (all_below (is_inverse table) 257) → get_or table n 0 < 257
inverse_below table n h passes = ltb→lt (get_or table n 0) 257 (both_left _ (inverts table n) (below_at (is_inverse table) 257 n passes h))

pub inverse_entry : (table : List ℕ) (n x : ℕ) → 0 < n → n < 257 → x ≡ get_or table n 0 → T (all_below (is_inverse table) 257) → n * x % 257 ≡ 1
inverse_entry table n x pos h is passes =
    let kept = both_right (ltb (get_or table n 0) 257) (inverts table n) (below_at (is_inverse table) 257 n passes h) in
    ap (λ m. n * m % 257) is ∙ eqb→eq (n * get_or table n 0 % 257) 1 (unless_first_passes n _ kept pos)

module _ {R : Type 0} (k : Kind R) where
  -- the entry is the root
  abbrev is_root : List ℕ → ℕ → Bool
  is_root table n = eqb (get_or table n 0) (k.root n)

  pub root_value : (table : List ℕ) (n : ℕ) → n < suc k.limit → T (all_below (is_root table) (suc k.limit)) → get_or table n 0 ≡ k.root n
  root_value table n h passes = eqb→eq (get_or table n 0) (k.root n) (below_at (is_root table) (suc k.limit) n passes h)

  pub root_entry : (table : List ℕ) (n x : ℕ) → n < suc k.limit → x ≡ get_or table n 0 → T (all_below (is_root table) (suc k.limit))
      → Some (k.embed x) ≡ root_at k n
  root_entry table n x h is passes =
      ap (λ m. Some (k.embed m)) (is ∙ root_value table n h passes)
      ∙ sym (cond-true _ (Some (root_of k n)) _ (le-leb n k.limit (omega arith)))
