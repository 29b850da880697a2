-- What is written reads back as itself. Assumes nothing.
use Rattle.std.proofs.Common.{◌≡◌, ℕ, ◌^◌, ◌<◌, ◌≤◌, true, false, cond, eqb, leb, List, [], ◌∷◌, ◌++◌, map, length, Some, None, decimal, sym, refl, ap, ◌∙◌, append_assoc, append-nil, arith, eq-eqb, ne_eqb, leb-true}
use Rattle.std.specs.List.{All, flat_map}
use Rattle.std.specs.Option.{option_map}
use Rattle.std.specs.Char.{is_ascii_digit}
use Rattle.std.specs.Str.{all_ascii_digits}
use Rattle.std.proofs.lemmas.Bool.{and_parts}
use Rattle.std.proofs.lemmas.List.{length-map}
use Rattle.std.proofs.lemmas.List.Elements.{All-head, All-tail, All-weaker}
use Rattle.elements.specs.Kind.{Kind, Laws}
use Rattle.script.specs.Numerals.{number_of}
use Rattle.script.specs.Pieces.{pieces, pieces_after, cuts_at}
use Rattle.script.specs.Values.{cons_to, all_of, coefficients_of, comma_before, commaed, element_of, offered_element, written_element}
use Rattle.script.specs.declared.text.Separator.TheVariants.{Comma}
use Rattle.script.proofs.Numbering.{decimal_digits, decimal_read}
use Rattle.script.proofs.Offering.{offered_back}

no_comma : (c : ℕ) → is_ascii_digit c ≡ true → eqb c 44 ≡ false
no_comma c e = let low : 48 ≤ c = leb-true 48 c (and_parts (leb 48 c) (leb c 57) e).0 in ne_eqb c 44 (λ is. omega arith)

-- digits do not cut
past_digits : (front ds rest : List ℕ) → all_ascii_digits ds ≡ true → pieces_after (cuts_at Comma) front (ds ++ rest) ≡ pieces_after (cuts_at Comma) (front ++ ds) rest
past_digits front [] rest e = ap (λ f. pieces_after (cuts_at Comma) f rest) (sym (append-nil front))
past_digits front (d ∷ ds) rest e =
    ap (λ b. cond b (front ∷ pieces_after (cuts_at Comma) [] (ds ++ rest)) (pieces_after (cuts_at Comma) (front ++ (d ∷ [])) (ds ++ rest))) (no_comma d (and_parts (is_ascii_digit d) (all_ascii_digits ds) e).0)
    ∙ past_digits (front ++ (d ∷ [])) ds rest (and_parts (is_ascii_digit d) (all_ascii_digits ds) e).1
    ∙ ap (λ f. pieces_after (cuts_at Comma) f rest) (append_assoc front (d ∷ []) ds)

-- numbers that a script can hold
abbrev word : ℕ → Type 0
word n = n < 2 ^ 64

cut_again : (front : List ℕ) (ns : List ℕ) → All word ns → pieces_after (cuts_at Comma) front (flat_map comma_before ns) ≡ front ∷ map decimal ns
cut_again front [] h = refl
cut_again front (n ∷ ns) h =
    ap (λ l. front ∷ l)
    (past_digits [] (decimal n) (flat_map comma_before ns) (decimal_digits n (All-head word n ns h)) ∙ cut_again (decimal n) ns (All-tail word n ns h))

cut_back : (ns : List ℕ) → 0 < length ns → All word ns → pieces (cuts_at Comma) (commaed ns) ≡ map decimal ns
cut_back [] some h = absurd (omega arith)
cut_back (n ∷ ns) some h =
    past_digits [] (decimal n) (flat_map comma_before ns) (decimal_digits n (All-head word n ns h)) ∙ cut_again (decimal n) ns (All-tail word n ns h)

all_back : (ns : List ℕ) → All word ns → all_of number_of (map decimal ns) ≡ Some ns
all_back [] h = refl
all_back (n ∷ ns) h =
    ap (λ o. cons_to o (all_of number_of (map decimal ns))) (decimal_read n (All-head word n ns h))
    ∙ ap (option_map (λ l. n ∷ l)) (all_back ns (All-tail word n ns h))

coefficients_back : (count : ℕ) (ns : List ℕ) → 0 < count → length ns ≡ count → All word ns → coefficients_of count (commaed ns) ≡ Some ns
coefficients_back count ns some many h =
    let e = cut_back ns (omega arith) h in
    ap (λ ps. cond (eqb (length ps) count) (all_of number_of ps) None) e
    ∙ ap (λ b. cond b (all_of number_of (map decimal ns)) None) (eq-eqb _ _ (length-map ns decimal ∙ many)) ∙ all_back ns h

wider : (p : ℕ) → p < 2 ^ 31 → (ns : List ℕ) → All (λ n. n < p) ns → All word ns
wider p h ns all = All-weaker (λ n. n < p) word (λ n low. omega arith) ns all

pub element_back : {R : Type 0} (k : Kind R) → Laws k → (v : R) → element_of k (written_element k v) ≡ Some (Some v)
element_back k l v =
    let own = l.coordinates.canonical v in
    ap (option_map (offered_element k)) (coefficients_back k.dimension (k.coefficients v) l.ranges.dimension_least own.0 (wider k.modulus l.ranges.modulus_most (k.coefficients v) own.1))
    ∙ ap Some (offered_back k l v)
