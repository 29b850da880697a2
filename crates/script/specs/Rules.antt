-- The lines of a script, and what each of them does. Assumes nothing.
use Rattle.std.specs.Prelude.{ℕ, zero, suc, ◌^◌, Bool, true, false, cond, List, [], ◌∷◌, ◌++◌, length, drop, Some, None, Ok, Err, codes, Option, Result, ◌==◌, nat_lt, slice_index_or}
use Rattle.std.specs.Option.{ok_or}
use Rattle.std.specs.Result.{result_ok}
use Rattle.std.specs.Str.{bytes_eq}
use Rattle.elements.specs.Kind.{Kind}
use Rattle.openings.specs.declared.clear.MatrixId.{MatrixId}
use Rattle.openings.specs.Coefficients.{EntryV, ClearV, empty_clear, with_entry}
use Rattle.script.specs.Hexadecimal.{commitment_of}
use Rattle.script.specs.Numerals.{number_of}
use Rattle.script.specs.Values.{all_of, element_of}
use Rattle.script.specs.declared.statement.FieldName.{FieldName}
use Rattle.script.specs.declared.statement.FieldName.TheVariants.{F257}
use Rattle.script.specs.declared.statement.OpenLine.{OpenLine}
use Rattle.script.specs.declared.statement.Statement.{Statement}
use Rattle.script.specs.declared.statement.Statement.TheVariants.{Clear, Open}
use Rattle.script.specs.declared.statement.What.{What}
use Rattle.script.specs.declared.statement.What.TheVariants.{FieldFirst, UnknownWord, WordCount, NoScheme, FieldName as NoSuchField, Number as NoNumber, SmallNumber as NoSmallNumber}
use Rattle.script.specs.declared.statement.What.TheVariants.{Flag as NoFlag, Commitment as NoCommitment, Element as NoElement}

-- a step that is made where the one before went well; else its reason stays
abbrev pub then : {X Y : Type 0} → Result X What → (X → Result Y What) → Result Y What
then (Ok x) f = f x
then (Err why) f = Err why

abbrev pub on_ok : {X Y W : Type 0} → (X → Y) → Result X W → Result Y W
on_ok f (Ok x) = Ok (f x)
on_ok f (Err why) = Err why

-- Which matrix of a commitment, and its degree bits.
pub record IdV : Type 0 where
  pub commitment : List ℕ
  pub matrix : ℕ
  pub bits : ℕ

-- A question: the values at a point, which is absent where its coefficients were refused.
pub record OpenV (R : Type 0) : Type 0 where
  pub commitment : List ℕ
  pub matrix : ℕ
  pub bits : ℕ
  pub point : Option R

pub data StatementV (R : Type 0) : Type 0 where
  clear : ClearV → StatementV R
  open_at : OpenV R → StatementV R

-- How far a script is read: the field that it named, whether a scheme stands, the block that is open, and what was said.
pub record StateV (R : Type 0) : Type 0 where
  pub field : Option FieldName
  pub scheme : Bool
  pub block : Option ClearV
  pub statements : List (StatementV R)

abbrev pub id_view : MatrixId → IdV
id_view id = record { commitment = id.commitment.bytes; matrix = id.matrix; bits = id.bits }

abbrev pub open_view : {R : Type 0} → OpenLine R → OpenV R
open_view o = record { commitment = o.id.commitment.bytes; matrix = o.id.matrix; bits = o.id.bits; point = result_ok o.point }

abbrev pub statement_view : {R : Type 0} → Statement R → StatementV R
statement_view (Clear c) = clear c
statement_view (Open o) = open_at (open_view o)

-- before the first line
abbrev pub begun : {R : Type 0} → StateV R
begun = record { field = None; scheme = false; block = None; statements = [] }

abbrev pub field_named : List ℕ → Result FieldName What
field_named w = cond (bytes_eq w (codes "f257")) (Ok F257) (Err NoSuchField)

abbrev pub number_of_word : List ℕ → Result ℕ What
number_of_word w = ok_or (number_of w) NoNumber

abbrev pub commitment_of_word : List ℕ → Result (List ℕ) What
commitment_of_word w = ok_or (commitment_of w) NoCommitment

abbrev pub bit_of : Option ℕ → Result Bool What
bit_of None = Err NoFlag
bit_of (Some zero) = Ok false
bit_of (Some (suc zero)) = Ok true
bit_of (Some (suc (suc n))) = Err NoFlag

-- 0 or 1
abbrev pub flag_of : List ℕ → Result Bool What
flag_of w = bit_of (number_of w)

abbrev pub small : Option ℕ → Option ℕ
small None = None
small (Some n) = cond (nat_lt n (2 ^ 32)) (Some n) None

-- a number below 2^32
abbrev pub small_of : List ℕ → Option ℕ
small_of w = small (number_of w)

-- the i-th word of a line
abbrev pub word : List (List ℕ) → ℕ → List ℕ
word ws i = slice_index_or ws i []

-- `clear ZK SMALLEST LARGEST`
abbrev pub clear_rule : List (List ℕ) → Result ClearV What
clear_rule ws =
    cond (length ws == 4)
    (then (flag_of (word ws 1)) (λ zk. then (number_of_word (word ws 2)) (λ low. then (number_of_word (word ws 3)) (λ high. Ok (empty_clear zk low high)))))
    (Err WordCount)

-- `COMMIT MATRIX B`, three words of a line
unfoldable pub id_rule : List ℕ → List ℕ → List ℕ → Result IdV What
id_rule commitment matrix bits =
    then (commitment_of_word commitment) (λ c. then (number_of_word matrix) (λ m. then (number_of_word bits) (λ b.
    Ok (record { commitment = c; matrix = m; bits = b }))))

-- `entry COMMIT MATRIX B START COLUMNS`
abbrev pub entry_rule : List (List ℕ) → Result EntryV What
entry_rule ws =
    cond (length ws == 6)
    (then (id_rule (word ws 1) (word ws 2) (word ws 3)) (λ id. then (number_of_word (word ws 4)) (λ s. then (number_of_word (word ws 5)) (λ n.
    Ok (record { commitment = id.commitment; matrix = id.matrix; bits = id.bits; start = s; columns = n })))))
    (Err WordCount)

-- `numbers N N ..`
abbrev pub numbers_rule : List (List ℕ) → Result (List ℕ) What
numbers_rule ws = ok_or (all_of small_of ws) NoSmallNumber

abbrev pub with_numbers : ClearV → List ℕ → ClearV
with_numbers c ns = record { zk = c.zk; smallest = c.smallest; largest = c.largest; entries = c.entries; numbers = c.numbers ++ ns }

-- `field NAME`
abbrev pub field_rule : List (List ℕ) → Result FieldName What
field_rule ws = cond (bytes_eq (word ws 0) (codes "field")) (cond (length ws == 2) (field_named (word ws 1)) (Err WordCount)) (Err FieldFirst)

-- a line of a clear block adds numbers or an entry, or ends the block
pub data ClearLineV : Type 0 where
  goes_on : ClearV → ClearLineV
  ends : ClearV → ClearLineV

abbrev pub block_rule : ClearV → List (List ℕ) → Result ClearLineV What
block_rule c ws =
    cond (bytes_eq (word ws 0) (codes "numbers")) (on_ok goes_on (on_ok (with_numbers c) (numbers_rule (drop 1 ws))))
    (cond (bytes_eq (word ws 0) (codes "entry")) (on_ok goes_on (on_ok (with_entry c) (entry_rule ws)))
    (cond (bytes_eq (word ws 0) (codes "end")) (cond (length ws == 1) (Ok (ends c)) (Err WordCount)) (Err UnknownWord)))

pub data OuterV (R : Type 0) : Type 0 where
  begins_clear : ClearV → OuterV R
  asks : OpenV R → OuterV R

module _ {R : Type 0} (k : Kind R) where
  -- `open COMMIT MATRIX B ELEMENT`
  abbrev pub open_rule : List (List ℕ) → Result (OpenV R) What
  open_rule ws =
      cond (length ws == 5)
      (then (id_rule (word ws 1) (word ws 2) (word ws 3)) (λ id. then (ok_or (element_of k (word ws 4)) NoElement) (λ p.
      Ok (record { commitment = id.commitment; matrix = id.matrix; bits = id.bits; point = p }))))
      (Err WordCount)

  -- a line between blocks begins one, or asks the scheme that stands
  abbrev pub outer_rule : Bool → List (List ℕ) → Result (OuterV R) What
  outer_rule scheme ws =
      cond (bytes_eq (word ws 0) (codes "clear")) (on_ok begins_clear (clear_rule ws))
      (cond (bytes_eq (word ws 0) (codes "open")) (cond scheme (on_ok asks (open_rule ws)) (Err NoScheme)) (Err UnknownWord))

  abbrev pub after_outer : StateV R → OuterV R → StateV R
  after_outer s (begins_clear c) = record { field = s.field; scheme = s.scheme; block = Some c; statements = s.statements }
  after_outer s (asks o) = record { field = s.field; scheme = s.scheme; block = None; statements = s.statements ++ (open_at o ∷ []) }

  -- a block that ends is a statement, and its scheme stands
  abbrev pub after_clear : StateV R → ClearLineV → StateV R
  after_clear s (goes_on c) = record { field = s.field; scheme = s.scheme; block = Some c; statements = s.statements }
  after_clear s (ends c) = record { field = s.field; scheme = true; block = None; statements = s.statements ++ (clear c ∷ []) }

  abbrev pub by_block : StateV R → Option ClearV → List (List ℕ) → Result (StateV R) What
  by_block s None ws = on_ok (after_outer s) (outer_rule s.scheme ws)
  by_block s (Some c) ws = on_ok (after_clear s) (block_rule c ws)

  -- the line that names the field comes first
  abbrev pub by_field : StateV R → Option FieldName → List (List ℕ) → Result (StateV R) What
  by_field s None ws = on_ok (λ f. record { field = Some f; scheme = s.scheme; block = s.block; statements = s.statements }) (field_rule ws)
  by_field s (Some f) ws = by_block s s.block ws

  -- What a line with these words does, or why no rule takes it; a line with none does nothing.
  abbrev pub rule_of : StateV R → List (List ℕ) → Result (StateV R) What
  rule_of s [] = Ok s
  rule_of s (w ∷ ws) = by_field s s.field (w ∷ ws)
