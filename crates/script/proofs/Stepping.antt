-- A rule by the state that it finds, from which the open block was taken out. Assumes nothing.
use Rattle.std.proofs.Common.{◌≡◌, ℕ, true, false, eqb, List, [], ◌∷◌, length, is_some, Some, None, Ok, Err, Option, Result, sym, refl, ap, ◌∙◌, subst}
use Rattle.elements.specs.Kind.{Kind}
use Rattle.openings.specs.Coefficients.{ClearV}
use Rattle.script.specs.Reading.{Stepped}
use Rattle.script.specs.Rules.{StateV, ClearLineV, goes_on, ends, on_ok, outer_rule, after_outer, block_rule, after_clear, by_block, by_field, rule_of}
use Rattle.script.specs.declared.statement.FieldName.{FieldName}
use Rattle.script.specs.declared.statement.LineError.{LineError}
use Rattle.script.specs.declared.statement.What.{What}

-- the state with this in the place of its block
abbrev pub placed : {R : Type 0} → StateV R → Option ClearV → StateV R
placed s b = record { field = s.field; scheme = s.scheme; block = b; statements = s.statements }

module _ {R : Type 0} (k : Kind R) where
  -- what a line of a block does does not depend on the block that stands there
  same_after : (s : StateV R) (b : Option ClearV) (line : Result ClearLineV What) → on_ok (after_clear k (placed s b)) line ≡ on_ok (after_clear k s) line
  same_after s b (Ok (goes_on c)) = refl
  same_after s b (Ok (ends c)) = refl
  same_after s b (Err why) = refl

  named : (s : StateV R) (f : Option FieldName) (ws : List (List ℕ)) → is_some f ≡ true → by_field k s f ws ≡ by_block k s s.block ws
  named s None ws e = cc
  named s (Some f) ws e = refl

  by_its_block : (s : StateV R) (ws : List (List ℕ)) → eqb (length ws) 0 ≡ false → is_some s.field ≡ true → (b : Option ClearV) → s.block ≡ b → rule_of k s ws ≡ by_block k s b ws
  by_its_block s [] some field b e = cc
  by_its_block s (w ∷ ws) some field b e = named s s.field (w ∷ ws) field ∙ ap (λ o. by_block k s o (w ∷ ws)) e

  module _ (s : StateV R) (b : Option ClearV) (ws : List (List ℕ)) (new : StateV R) (r : Result (Unit {0}) LineError) (some : eqb (length ws) 0 ≡ false) (field : is_some s.field ≡ true) where
    pub between : s.block ≡ None → b ≡ None → Stepped (on_ok (after_outer k (placed s b)) (outer_rule k s.scheme ws)) (placed s b) new r → Stepped (rule_of k s ws) s new r
    between e d told =
        let old : placed s b ≡ s = ap (placed s) (d ∙ sym e) in
        let rule = ap (λ t. on_ok (after_outer k t) (outer_rule k s.scheme ws)) old ∙ sym (by_its_block s ws some field None e) in
        subst (λ o. Stepped o s new r) rule told

    pub within : (c : ClearV) → s.block ≡ Some c → Stepped (on_ok (after_clear k (placed s b)) (block_rule c ws)) (placed s b) new r → Stepped (rule_of k s ws) s new r
    within c e told =
        let rule = same_after s b (block_rule c ws) ∙ sym (by_its_block s ws some field (Some c) e) in
        subst (λ o. Stepped o s new r) rule told
