-- Reading digits one after the other. Assumes nothing.
use Rattle.std.proofs.Common.{◌≡◌, ℕ, ◌+◌, ◌-◌, ◌*◌, ◌^◌, ◌<◌, ◌≤◌, Bool, true, false, cond, ◌&&◌, ltb, List, [], ◌∷◌}
use Rattle.std.proofs.Common.{length, Some, None, decimal, Option, sym, refl, ap, ◌∙◌, arith, rules, ltb-false, ltb-true, le-ltb, lt-ltb}
use Rattle.std.specs.Char.{is_ascii_digit}
use Rattle.std.specs.Str.{all_ascii_digits}
use Rattle.std.proofs.Math.Bool.{and-false}
use Rattle.std.proofs.lemmas.Str.Parse.{IsNumeralModel, numerals_by_fold}
use Rattle.std.proofs.lemmas.Fmt.{digits_decimal, digits_value-decimal, decimal_nonempty}
use Rattle.script.specs.Numerals.{value_after, number_of}

-- a front of value n has been read
abbrev pub read_after : ℕ → List ℕ → Option ℕ
read_after n [] = Some n
read_after n (c ∷ cs) = cond (is_ascii_digit c && ltb (n * 10 + (c - 48)) (2 ^ 64)) (read_after (n * 10 + (c - 48)) cs) None

-- what is to be read where a front of value n has been
abbrev whole : ℕ → List ℕ → Option ℕ
whole n bs = cond (all_ascii_digits bs && ltb (value_after n bs) (2 ^ 64)) (Some (value_after n bs)) None

grows : (n : ℕ) (bs : List ℕ) → n ≤ value_after n bs
grows n [] = omega arith
grows n (c ∷ cs) = omega (arith, grows (n * 10 + (c - 48)) cs)

step : (n c : ℕ) (cs : List ℕ) (d t : Bool) → is_ascii_digit c ≡ d → ltb (n * 10 + (c - 48)) (2 ^ 64) ≡ t
    → (n * 10 + (c - 48) < 2 ^ 64 → read_after (n * 10 + (c - 48)) cs ≡ whole (n * 10 + (c - 48)) cs) → read_after n (c ∷ cs) ≡ whole n (c ∷ cs)
step n c cs false t d e rest = simp d
step n c cs true true d e rest = simp (d, e) (rest (ltb-true _ _ e))
step n c cs true false d e rest =
    let far : ltb (value_after (n * 10 + (c - 48)) cs) (2 ^ 64) ≡ false = le-ltb _ _ (omega (arith, ltb-false _ _ e, grows (n * 10 + (c - 48)) cs)) in
    simp (d, e, far, and-false)

read_whole : (n : ℕ) (bs : List ℕ) → n < 2 ^ 64 → read_after n bs ≡ whole n bs
read_whole n [] h = sym (ap (λ b. cond b (Some n) None) (lt-ltb n (2 ^ 64) h))
read_whole n (c ∷ cs) h = step n c cs (is_ascii_digit c) (ltb (n * 10 + (c - 48)) (2 ^ 64)) refl refl (read_whole (n * 10 + (c - 48)) cs)

pub number_read : (bs : List ℕ) → 0 < length bs → read_after 0 bs ≡ number_of bs
number_read bs h = read_whole 0 bs (omega arith) ∙ simp (lt-ltb 0 (length bs) h)

own : IsNumeralModel (λ ds. all_ascii_digits ds ≡ true) (value_after 0)
own = numerals_by_fold _ (search rules) value_after (search rules)

pub decimal_digits : (n : ℕ) → n < 2 ^ 64 → all_ascii_digits (decimal n) ≡ true
decimal_digits n h = digits_decimal own n h

-- a number that is written reads back as itself
pub decimal_read : (n : ℕ) → n < 2 ^ 64 → number_of (decimal n) ≡ Some n
decimal_read n h =
    let ds : all_ascii_digits (decimal n) ≡ true = digits_decimal own n h in
    let v : value_after 0 (decimal n) ≡ n = digits_value-decimal own n h in
    let s : ltb 0 (length (decimal n)) ≡ true = lt-ltb _ _ (decimal_nonempty n h) in
    let t : ltb n (2 ^ 64) ≡ true = lt-ltb _ _ h in
    simp (s, ds, v, t)
