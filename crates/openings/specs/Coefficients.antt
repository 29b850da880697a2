-- Tables published as coefficients, and their values at a point. Assumes nothing.
use Rattle.std.specs.Prelude.{ℕ, ◌+◌, ◌*◌, ◌^◌, Bool, cond, ◌&&◌, List, [], ◌∷◌, ◌++◌, map, length, find, take, drop, Some, None, Option, ◌==◌, nat_lt}
use Rattle.std.specs.List.{range_with_len}
use Rattle.std.specs.Str.{bytes_eq}
use Rattle.elements.specs.Kind.{Kind, evaluated}
use Rattle.openings.specs.declared.clear.ClearEntry.{ClearEntry}
use Rattle.openings.specs.declared.clear.MatrixId.{MatrixId}

-- A matrix of some columns, 2^bits coefficients each, one column after the other from a place in the list of numbers.
pub record EntryV : Type 0 where
  pub commitment : List ℕ
  pub matrix : ℕ
  pub bits : ℕ
  pub start : ℕ
  pub columns : ℕ

pub record ClearV : Type 0 where
  pub zk : Bool
  pub smallest : ℕ
  pub largest : ℕ
  pub entries : List EntryV
  pub numbers : List ℕ

abbrev pub entry_view : ClearEntry → EntryV
entry_view e = record { commitment = e.id.commitment.bytes; matrix = e.id.matrix; bits = e.id.bits; start = e.start; columns = e.columns }

-- a store that holds nothing yet
abbrev pub empty_clear : Bool → ℕ → ℕ → ClearV
empty_clear zk smallest largest = record { zk = zk; smallest = smallest; largest = largest; entries = []; numbers = [] }

abbrev pub with_entry : ClearV → EntryV → ClearV
with_entry c e = record { zk = c.zk; smallest = c.smallest; largest = c.largest; entries = c.entries ++ (e ∷ []); numbers = c.numbers }

abbrev pub with_number : ClearV → ℕ → ClearV
with_number c n = record { zk = c.zk; smallest = c.smallest; largest = c.largest; entries = c.entries; numbers = c.numbers ++ (n ∷ []) }

-- the entry is of this commitment, matrix and degree bits
abbrev pub matches : List ℕ → ℕ → ℕ → EntryV → Bool
matches commitment matrix bits e = bytes_eq e.commitment commitment && (e.matrix == matrix && e.bits == bits)

-- the entry is of this id
abbrev pub of_id : MatrixId → EntryV → Bool
of_id id = matches id.commitment.bytes id.matrix id.bits

-- one past the last place that the entry takes
abbrev pub reach : EntryV → ℕ
reach e = e.start + e.columns * 2 ^ e.bits

-- the coefficients of column c, lowest first
abbrev pub column_of : List ℕ → EntryV → ℕ → List ℕ
column_of numbers e c = take (2 ^ e.bits) (drop (e.start + c * 2 ^ e.bits) numbers)

module _ {R : Type 0} (k : Kind R) where
  -- each column's polynomial at the point, its coefficients read modulo p
  abbrev pub columns_at : List ℕ → EntryV → R → List R
  columns_at numbers e point = map (λ c. evaluated k point (map k.embed (column_of numbers e c))) (range_with_len 0 e.columns)

  -- nothing where the entry reaches past the list
  abbrev pub held_by : List ℕ → R → Option EntryV → Option (List R)
  held_by numbers point None = None
  held_by numbers point (Some e) = cond (nat_lt (length numbers) (reach e)) None (Some (columns_at numbers e point))

  -- the values that the first entry with this commitment, matrix and degree bits has at the point
  abbrev pub held_at : ClearV → List ℕ → ℕ → ℕ → R → Option (List R)
  held_at clear commitment matrix bits point = held_by clear.numbers point (find (matches commitment matrix bits) clear.entries)
