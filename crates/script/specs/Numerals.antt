-- How a number is read. Assumes nothing.
use Rattle.std.specs.Prelude.{ℕ, ◌+◌, ◌-◌, ◌*◌, ◌^◌, cond, ◌&&◌, List, [], ◌∷◌, length, Some, None, Option, nat_lt}
use Rattle.std.specs.Str.{all_ascii_digits}

-- the number that decimal digits write, after those of n
abbrev pub value_after : ℕ → List ℕ → ℕ
value_after n [] = n
value_after n (c ∷ cs) = value_after (n * 10 + (c - 48)) cs

-- one decimal digit or more and nothing else, with a value below 2^64
abbrev pub number_of : List ℕ → Option ℕ
number_of word = cond (nat_lt 0 (length word) && (all_ascii_digits word && nat_lt (value_after 0 word) (2 ^ 64))) (Some (value_after 0 word)) None
