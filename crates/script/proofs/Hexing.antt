-- Hexadecimal digits, two by two. Assumes nothing.
use Rattle.std.proofs.Common.{◌≡◌, ℕ, ◌+◌, ◌*◌, ◌/◌, ◌%◌, ◌<◌, ◌≤◌, true, cond, ltb, leb, List, [], ◌∷◌, ◌++◌}
use Rattle.std.proofs.Common.{length, get_or, drop, replicate, Some, None, Ok, Err, Option, Result, sym, refl, ap, ◌∙◌, append-nil, inl, inr, arith, lt-ltb, ltb→lt, le-leb, eqb, eqb→eq}
use Rattle.std.specs.Prelude.{MatchResult, slice_index}
use Rattle.std.specs.Option.{option_map}
use Rattle.std.specs.Result.{result_ok}
use Rattle.std.specs.Char.{digit_value, digit_char}
use Rattle.std.specs.List.{All}
use Rattle.std.proofs.lemmas.Bool.{cases_eq}
use Rattle.std.proofs.lemmas.Grind.{common_steps}
use Rattle.std.proofs.lemmas.List.{drop-replicate}
use Rattle.std.proofs.lemmas.List.Elements.{All-head, All-tail, All-from_get_or}
use Rattle.std.proofs.lemmas.Str.{digit_value-digit_char, IsUtf8-from_ascii}
use Rattle.std.proofs.lemmas.Str.Ascii.{IsAscii-from_all}
use Rattle.std.specs.Str.{IsUtf8}
use Rattle.hex.proofs.HexLemmas.{IsAscii-encode_with}
use Rattle.hex.specs.Hex.{lower_digits, encode_with, encode_lower, decode_pairs, decode_sized, hex_digit_value, pair_value, ◌>>=◌}
use Rattle.hex.specs.declared.error.FromHexError.{FromHexError}
use Rattle.hex.specs.declared.error.FromHexError.TheVariants.{OddLength}
use Rattle.hex.proofs.Pairs.{decode_sized-pairs}
use Rattle.elements.specs.Below.{below_at}
use Rattle.script.specs.Values.{cons_to}
use Rattle.script.specs.Hexadecimal.{hexadecimal, pair_of, pairs_of, commitment_of, hex_of}

-- the library reads digits as the specs do
digit_read : (c : ℕ) → hex_digit_value c ≡ cond (hexadecimal c) (Some (digit_value c)) None
digit_read c = grind (arith, common_steps)

pair_read : (x y i : ℕ) → result_ok (pair_value x y i) ≡ pair_of x y
pair_read x y i = simp (digit_read x, digit_read y) (grind (arith, common_steps))

-- a byte and the bytes behind it
joined : (p : Result ℕ FromHexError) (ps : Result (List ℕ) FromHexError) → result_ok (p >>= (λ b. ps >>= (λ bs. Ok (b ∷ bs)))) ≡ cons_to (result_ok p) (result_ok ps)
joined (Ok b) (Ok bs) = refl
joined (Ok b) (Err e) = refl
joined (Err e) ps = refl

pairs_read : (i : ℕ) (w : List ℕ) → result_ok (decode_pairs i w) ≡ pairs_of w
unfolding decode_pairs
pairs_read i [] = refl
pairs_read i (x ∷ []) = refl
pairs_read i (x ∷ y ∷ rest) =
    joined (pair_value x y i) (decode_pairs (i + 2) rest) ∙ ap (λ o. cons_to o (result_ok (decode_pairs (i + 2) rest))) (pair_read x y i)
    ∙ ap (cons_to (pair_of x y)) (pairs_read (i + 2) rest)

none_behind : (o : Option ℕ) (ps : Option (List ℕ)) → ps ≡ None → cons_to o ps ≡ None
none_behind o ps e = grind (arith, common_steps)

-- an odd number of digits writes no bytes
odd_none : (w : List ℕ) → length w % 2 ≡ 1 → pairs_of w ≡ None
odd_none [] h = absurd (omega arith)
odd_none (x ∷ []) h = refl
odd_none (x ∷ y ∷ rest) h = let e : pairs_of rest ≡ None = odd_none rest (omega arith) in none_behind (pair_of x y) (pairs_of rest) e

-- the bytes that the library wrote are those that it read, where it read any
told : (o : Result (List ℕ) FromHexError) (new : List ℕ) (r : Result (Unit {0}) FromHexError) → MatchResult o (λ bs. (r ≡ Ok tt) × (new ≡ bs)) (λ e. r ≡ Err e)
    → result_ok o ≡ option_map (λ _. new) (result_ok r)
told (Ok bs) new r h = grind (arith, common_steps)
told (Err e) new r h = grind (arith, common_steps)

-- what the library answers of a word, with room for half as many bytes
sized : (w : List ℕ) (n : ℕ) → n ≡ length w / 2 → result_ok (decode_sized w n) ≡ pairs_of w
sized w n half =
    elim (cases_eq (length w % 2) 1) [
      | inl odd ↦ ap result_ok (let e : decode_sized w n ≡ Err OddLength = grind (arith) in e) ∙ sym (odd_none w odd)
      | inr even ↦ ap result_ok (decode_sized-pairs w n (omega arith) (sym half)) ∙ pairs_read 0 w
    ]

pub decoded : (w : List ℕ) (n : ℕ) → n ≡ length w / 2 → (new : List ℕ) (r : Result (Unit {0}) FromHexError)
    → MatchResult (decode_sized w n) (λ bs. (r ≡ Ok tt) × (new ≡ bs)) (λ e. r ≡ Err e) → pairs_of w ≡ option_map (λ _. new) (result_ok r)
decoded w n half new r answered = sym (sized w n half) ∙ told (decode_sized w n) new r answered

-- the bytes that are written, and zeros behind them
pub filled : (w new : List ℕ) → length w ≤ 64 → length new ≡ length w / 2 → pairs_of w ≡ Some new → Some (new ++ drop (length w / 2) (replicate 32 0)) ≡ commitment_of w
filled w new short full e = simp (drop-replicate, e, le-leb (length w) 64 short, full)

-- the library writes digits as the specs do
nibble : (d : ℕ) → d < 16 → slice_index lower_digits d ≡ digit_char d
nibble d h = eqb→eq _ _ (below_at (λ i. eqb (slice_index lower_digits i) (digit_char i)) 16 d tt h)

pub encoded : (bs : List ℕ) → All (λ b. b < 256) bs → encode_lower bs ≡ hex_of bs
unfolding encode_with
encoded [] h = refl
encoded (b ∷ bs) h =
    let small : b < 256 = All-head (λ b. b < 256) b bs h in
    simp (nibble (b / 16) (omega arith), nibble (b % 16) (omega arith), encoded bs (All-tail (λ b. b < 256) b bs h))

-- bytes that are written read back as themselves
pair_back : (b : ℕ) → b < 256 → pair_of (digit_char (b / 16)) (digit_char (b % 16)) ≡ Some b
pair_back b h =
    let high : digit_value (digit_char (b / 16)) ≡ b / 16 = digit_value-digit_char (b / 16) (omega arith) in
    let low : digit_value (digit_char (b % 16)) ≡ b % 16 = digit_value-digit_char (b % 16) (omega arith) in
    let s : ltb (b / 16) 16 ≡ true = lt-ltb _ _ (omega arith) in
    let t : ltb (b % 16) 16 ≡ true = lt-ltb _ _ (omega arith) in
    let e : b / 16 * 16 + b % 16 ≡ b = omega arith in
    simp (high, low, s, t, e)

pairs_back : (bs : List ℕ) → All (λ b. b < 256) bs → pairs_of (hex_of bs) ≡ Some bs
pairs_back [] h = refl
pairs_back (b ∷ bs) h = ap (λ o. cons_to o (pairs_of (hex_of bs))) (pair_back b (All-head (λ b. b < 256) b bs h)) ∙ ap (option_map (λ cs. b ∷ cs)) (pairs_back bs (All-tail (λ b. b < 256) b bs h))

pub all_bytes : (bs : List ℕ) → ((i : ℕ) → get_or bs i 0 < 256) → All (λ b. b < 256) bs
all_bytes bs small = All-from_get_or (λ b. b < 256) bs 0 (λ i within. small i)

length_hex : (bs : List ℕ) → length (hex_of bs) ≡ 2 * length bs
length_hex [] = refl
length_hex (b ∷ bs) = omega (arith, length_hex bs)

pub bytes_back : (bs : List ℕ) → ((i : ℕ) → get_or bs i 0 < 256) → length bs ≡ 32 → commitment_of (hex_of bs) ≡ Some bs
bytes_back bs small full =
    let back = pairs_back bs (all_bytes bs small) in
    let short : leb (length (hex_of bs)) 64 ≡ true = le-leb (length (hex_of bs)) 64 (omega (arith, length_hex bs)) in
    simp (short, back, full, append-nil)

-- the digits that the library writes are text
pub digits_text : (bs : List ℕ) → IsUtf8 (encode_lower bs)
digits_text bs =
    let below = All-from_get_or (λ b. b < 128) lower_digits 0 (λ i within. ltb→lt _ _ (below_at (λ n. ltb (get_or lower_digits n 0) 128) 16 i tt within)) in
    IsUtf8-from_ascii (encode_lower bs) (IsAscii-encode_with lower_digits bs (IsAscii-from_all lower_digits below))
