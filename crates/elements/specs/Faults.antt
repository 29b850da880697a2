-- A fault as users know it: its number, its word and its fields. Assumes nothing.
use Rattle.std.specs.Prelude.{◌≡◌, ℕ, List, [], ◌∷◌, ◌++◌, Some, None, Ok, Err, codes, decimal, Option, Result}
use Rattle.elements.specs.Kind.{Kind, Canonical}
use Rattle.elements.specs.declared.fault.FaultValue.{FaultValue}
use Rattle.elements.specs.declared.fault.FaultField.{FaultField}
use Rattle.elements.specs.declared.fault.ElementError.{ElementError}
use Rattle.elements.specs.declared.fault.ElementError.TheVariants.{Canonical as NotCanonical}

-- A value of a field says what it is: a table's number is `FaultValue::Table`, and nothing else is.
pub record FaultV : Type 0 where
  pub number : ℕ
  pub word : List ℕ
  pub fields : List (List ℕ × FaultValue)

abbrev pub field_view : FaultField → List ℕ × FaultValue
field_view f = (f.name.now, f.value)

-- a fault's number and its word
abbrev pub fault_text_of : FaultV → List ℕ
fault_text_of f = decimal f.number ++ (32 ∷ f.word)

-- the fault of an answer, where it is one
abbrev pub refusal : {T E : Type 0} → (E → FaultV) → Result T E → Option FaultV
refusal view (Ok x) = None
refusal view (Err e) = Some (view e)

-- what a caller offered for an element is not D base numbers
abbrev pub element_fault : ElementError → FaultV
element_fault NotCanonical = record { number = 12; word = codes "Canonical"; fields = [] }

module _ {R : Type 0} (k : Kind R) where
  -- the element with the coefficients cs, where there is one
  abbrev pub Offered : List ℕ → Option R → Type 0
  Offered cs None = Canonical k cs → ⊥
  Offered cs (Some v) = Canonical k cs × (k.coefficients v ≡ cs)

  -- a place is set from offered coefficients, or refuses them and keeps what it held
  abbrev pub Placed : List ℕ → R → R → Option FaultV → Type 0
  Placed cs before after None = Canonical k cs × (k.coefficients after ≡ cs)
  Placed cs before after (Some f) = (Canonical k cs → ⊥) × (f ≡ element_fault NotCanonical) × (after ≡ before)
