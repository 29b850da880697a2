-- What is printed for each statement, and for a script that cannot be read on. Assumes nothing.
use Rattle.std.specs.Prelude.{◌≡◌, ℕ, List, [], ◌∷◌, ◌++◌, map, Some, None, codes, decimal, Option}
use Rattle.std.specs.Borrow.{Bor}
use Rattle.std.specs.List.{flat_map}
use Rattle.elements.specs.Faults.{element_fault, fault_text_of}
use Rattle.elements.specs.Kind.{Kind}
use Rattle.elements.specs.declared.fault.ElementError.TheVariants.{Canonical}
use Rattle.openings.specs.Coefficients.{ClearV, held_at}
use Rattle.script.specs.Reading.{ScriptRead}
use Rattle.script.specs.Rules.{OpenV, StatementV, clear, open_at, statement_view}
use Rattle.script.specs.Values.{written_element}
use Rattle.script.specs.declared.statement.ScriptError.{ScriptError}
use Rattle.script.specs.declared.statement.Statement.{Statement}
use Rattle.script.specs.declared.statement.What.{What}
use Rattle.script.specs.declared.statement.What.TheVariants.{FieldFirst, FieldName, UnknownWord, WordCount, Flag, Number, SmallNumber, Commitment, Element, NoScheme, NoEnd}

-- the scheme that stands
abbrev pub standing : Option (Bor ClearV) → Option ClearV
standing None = None
standing (Some c) = Some c.now

abbrev pub what_text_of : What → List ℕ
what_text_of FieldFirst = codes "the script begins with a line `field NAME`"
what_text_of FieldName = codes "no such field"
what_text_of UnknownWord = codes "no line begins with this word here"
what_text_of WordCount = codes "too few or too many words"
what_text_of Flag = codes "0 or 1 is wanted"
what_text_of Number = codes "a number below 2^64 is wanted"
what_text_of SmallNumber = codes "a number below 2^32 is wanted"
what_text_of Commitment = codes "up to 64 hexadecimal digits, an even number"
what_text_of Element = codes "an element is wanted, its numbers joined by commas"
what_text_of NoScheme = codes "no scheme stands before this line"
what_text_of NoEnd = codes "the last block has no `end`"

abbrev pub error_text_of : ScriptError → List ℕ
error_text_of e = codes "script error: line " ++ (decimal e.line ++ (codes ": " ++ what_text_of e.what))

-- a line and its newline
abbrev pub ended : List ℕ → List ℕ
ended line = line ++ (10 ∷ [])

-- the lines that are printed, and then why the script could not be read on
abbrev pub answers_text_of : List (List ℕ) → Option ScriptError → List ℕ
answers_text_of lines None = flat_map ended lines
answers_text_of lines (Some e) = flat_map ended lines ++ ended (error_text_of e)

module _ {R : Type 0} (k : Kind R) where
  abbrev pub after_blank : R → List ℕ
  after_blank v = 32 ∷ written_element k v

  -- the values that are held, or that there are none
  abbrev pub held_text_of : Option (List R) → List ℕ
  held_text_of None = codes "open none"
  held_text_of (Some vs) = codes "open" ++ flat_map (after_blank) vs

  -- what the scheme that stands holds; without one there is nothing
  abbrev pub held_in : Option ClearV → OpenV R → R → Option (List R)
  held_in None o point = None
  held_in (Some c) o point = held_at k c o.commitment o.matrix o.bits point

  abbrev pub asked_text_of : Option ClearV → OpenV R → Option R → List ℕ
  asked_text_of scheme o None = codes "open refused " ++ fault_text_of (element_fault Canonical)
  asked_text_of scheme o (Some point) = held_text_of (held_in scheme o point)

  -- a line for each question, asked of the scheme that stands
  abbrev pub replies_of : Option ClearV → List (StatementV R) → List (List ℕ)
  replies_of scheme [] = []
  replies_of scheme (clear c ∷ rest) = replies_of (Some c) rest
  replies_of scheme (open_at o ∷ rest) = asked_text_of scheme o o.point ∷ replies_of scheme rest

  -- The lines of a script were read, as far as rules take them, and what they say was answered.
  pub record Answered (script : List (List (List ℕ))) (printed : List (List ℕ)) (error : Option ScriptError) : Type 0 where
    pub said : List (Statement R)
    pub reads : ScriptRead k script said error
    pub answers : printed ≡ replies_of None (map statement_view said)
