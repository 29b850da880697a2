-- What reading a line, and a whole script, gives. Assumes nothing.
use Rattle.std.specs.Prelude.{◌≡◌, ℕ, ◌+◌, true, false, cond, ◌⊎◌, List, [], ◌∷◌, ◌++◌, map, length, is_some, Some, None, Ok, Err, Option, Result}
use Rattle.elements.specs.Kind.{Kind}
use Rattle.script.specs.Rules.{StateV, then, statement_view, rule_of, begun}
use Rattle.script.specs.declared.statement.FieldName.{FieldName}
use Rattle.script.specs.declared.statement.LineError.{LineError}
use Rattle.script.specs.declared.statement.LineError.TheVariants.{Refused, Memory}
use Rattle.script.specs.declared.statement.ScriptError.{ScriptError}
use Rattle.script.specs.declared.statement.Statement.{Statement}
use Rattle.script.specs.declared.statement.What.{What}
use Rattle.script.specs.declared.statement.What.TheVariants.{NoEnd, FieldFirst}

-- what a line should be read as, or why it cannot be, and what it was read as; nothing is said where memory ran out
abbrev pub LineRead : {X Y : Type 0} → Result Y What → (X → Y) → Result X LineError → Type 0
LineRead wanted view (Ok x) = Ok (view x) ≡ wanted
LineRead wanted view (Err (Refused why)) = Err why ≡ wanted
LineRead wanted view (Err Memory) = Unit {0}

-- what a script lacks that ends too early: an open block its `end`, or the script its field
abbrev pub lacking : Option FieldName → What
lacking f = cond (is_some f) NoEnd FieldFirst

module _ {R : Type 0} where
  -- a line was taken as its rule says, or no rule takes it and nothing was said
  abbrev pub Stepped : Result (StateV R) What → StateV R → StateV R → Result (Unit {0}) LineError → Type 0
  Stepped rule old new (Ok _) = Ok new ≡ rule
  Stepped rule old new (Err (Refused why)) = (Err why ≡ rule) × (new.statements ≡ old.statements)
  Stepped rule old new (Err Memory) = Unit {0}

  -- a script may end here: its field is named, and no block is open
  abbrev pub Complete : StateV R → Type 0
  Complete s = (is_some s.field ≡ true) × (is_some s.block ≡ false)

  -- a script ends here, or what is wrong with that
  abbrev pub Ending : StateV R → ℕ → Option ScriptError → Type 0
  Ending s line None = Complete s
  Ending s line (Some e) = (Complete s → ⊥) × (e.line ≡ line) × (e.what ≡ lacking s.field)

module _ {R : Type 0} (k : Kind R) where
  -- the state that lines lead to, each taken by its rule
  abbrev pub taken : StateV R → List (List (List ℕ)) → Result (StateV R) What
  taken s [] = Ok s
  taken s (ws ∷ rest) = then (rule_of k s ws) (λ t. taken t rest)

  -- Every line is taken, and the script is complete.
  pub record Whole (lines : List (List (List ℕ))) (said : List (Statement R)) : Type 0 where
    pub end : StateV R
    pub taken_all : taken begun lines ≡ Ok end
    pub complete : Complete end
    pub says : map statement_view said ≡ end.statements

  -- Every line before the one that is named is taken, and no rule takes that one, for the reason that is named: it is the first such line.
  pub record Broken (lines : List (List (List ℕ))) (said : List (Statement R)) (error : ScriptError) : Type 0 where
    pub front : List (List (List ℕ))
    pub bad : List (List ℕ)
    pub rest : List (List (List ℕ))
    pub cut : lines ≡ front ++ (bad ∷ rest)
    pub reached : StateV R
    pub taken_front : taken begun front ≡ Ok reached
    pub not_taken : rule_of k reached bad ≡ Err error.what
    pub counted : error.line ≡ length front + 1
    pub says : map statement_view said ≡ reached.statements

  -- Every line is taken, but the script ends within a block, or before its field is named; its last line is named.
  pub record Unended (lines : List (List (List ℕ))) (said : List (Statement R)) (error : ScriptError) : Type 0 where
    pub reached : StateV R
    pub taken_all : taken begun lines ≡ Ok reached
    pub incomplete : Complete reached → ⊥
    pub reason : error.what ≡ lacking reached.field
    pub counted : error.line ≡ length lines
    pub says : map statement_view said ≡ reached.statements

  abbrev pub ScriptRead : List (List (List ℕ)) → List (Statement R) → Option ScriptError → Type 0
  ScriptRead lines said None = Whole lines said
  ScriptRead lines said (Some e) = Broken lines said e ⊎ Unended lines said e
