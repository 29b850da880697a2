-- How elements are read and written. Assumes nothing.
use Rattle.std.specs.Prelude.{◌≡◌, ℕ, Bool, true, cond, ◌&&◌, List, [], ◌∷◌, ◌++◌, length, Some, None, decimal, Option, ◌==◌, nat_lt}
use Rattle.std.specs.List.{flat_map}
use Rattle.std.specs.Option.{option_map}
use Rattle.elements.specs.Kind.{Kind}
use Rattle.elements.specs.declared.commitment.Commitment.{Commitment}
use Rattle.script.specs.Numerals.{number_of}
use Rattle.script.specs.Pieces.{pieces, cuts_at}
use Rattle.script.specs.declared.text.Separator.TheVariants.{Comma}

-- a text was added at the end, and it reads back as what was written
pub record Wrote (before after text : List ℕ) (ReadsBack : Type 0) : Type 0 where
  pub adds : after ≡ before ++ text
  pub reads_back : ReadsBack

abbrev pub bytes_of : Commitment → List ℕ
bytes_of c = c.bytes

abbrev pub cons_to : {Y : Type 0} → Option Y → Option (List Y) → Option (List Y)
cons_to None ys = None
cons_to (Some y) ys = option_map (λ l. y ∷ l) ys

-- what each of a list is read as, where each can be
abbrev pub all_of : {X Y : Type 0} → (X → Option Y) → List X → Option (List Y)
all_of read [] = Some []
all_of read (x ∷ xs) = cons_to (read x) (all_of read xs)

abbrev pub all_below : ℕ → List ℕ → Bool
all_below p [] = true
all_below p (c ∷ cs) = nat_lt c p && all_below p cs

-- the numbers of a word that is `count` of them joined by commas
abbrev pub coefficients_of : ℕ → List ℕ → Option (List ℕ)
coefficients_of count word = cond (length (pieces (cuts_at Comma) word) == count) (all_of number_of (pieces (cuts_at Comma) word)) None

abbrev pub comma_before : ℕ → List ℕ
comma_before n = 44 ∷ decimal n

-- numbers with commas between
abbrev pub commaed : List ℕ → List ℕ
commaed [] = []
commaed (n ∷ ns) = decimal n ++ flat_map comma_before ns

module _ {R : Type 0} (k : Kind R) where
  -- the element with these coefficients, where there is one
  abbrev pub offered_element : List ℕ → Option R
  offered_element cs = cond (length cs == k.dimension && all_below k.modulus cs) (Some (k.element cs)) None

  -- what a word offers for an element: no offer where it is not D numbers, and a refused one where a number is p or more
  abbrev pub element_of : List ℕ → Option (Option R)
  element_of word = option_map offered_element (coefficients_of k.dimension word)

  abbrev pub written_element : R → List ℕ
  written_element v = commaed (k.coefficients v)
