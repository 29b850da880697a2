-- How a commitment is read and written. Assumes nothing.
use Rattle.std.specs.Prelude.{ℕ, ◌+◌, ◌-◌, ◌*◌, ◌/◌, ◌%◌, Bool, cond, ◌&&◌, List, [], ◌∷◌, ◌++◌, length, replicate, Some, None, Option, nat_le, nat_lt}
use Rattle.std.specs.List.{flat_map}
use Rattle.std.specs.Option.{option_map}
use Rattle.std.specs.Char.{digit_value, digit_char}
use Rattle.script.specs.Values.{cons_to}

-- a hexadecimal digit, of either case
abbrev pub hexadecimal : ℕ → Bool
hexadecimal c = nat_lt (digit_value c) 16

-- the byte that two digits write
abbrev pub pair_of : ℕ → ℕ → Option ℕ
pair_of x y = cond (hexadecimal x && hexadecimal y) (Some (digit_value x * 16 + digit_value y)) None

-- the bytes that an even number of digits write
abbrev pub pairs_of : List ℕ → Option (List ℕ)
pairs_of [] = Some []
pairs_of (x ∷ []) = None
pairs_of (x ∷ y ∷ rest) = cons_to (pair_of x y) (pairs_of rest)

-- at most 32 bytes, filled up with zeros at the end
abbrev pub commitment_of : List ℕ → Option (List ℕ)
commitment_of word = cond (nat_le (length word) 64) (option_map (λ bs. bs ++ replicate (32 - length bs) 0) (pairs_of word)) None

-- two digits a byte
abbrev pub hex_byte : ℕ → List ℕ
hex_byte b = digit_char (b / 16) ∷ digit_char (b % 16) ∷ []

abbrev pub hex_of : List ℕ → List ℕ
hex_of bytes = flat_map hex_byte bytes
