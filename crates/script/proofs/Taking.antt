-- Lines taken one after the other. Assumes nothing.
use Rattle.std.proofs.Common.{◌≡◌, ℕ, ◌+◌, ◌<◌, ◌≤◌, List, [], ◌∷◌, ◌++◌, map, length, get_or, take, drop, Some, None, Ok, Err, Option, Result, sym, refl, ap, ◌∙◌, inr, arith, Bor}
use Rattle.std.proofs.lemmas.List.{take_all, map_more, drop_more, take-append-drop, map-append, length-map, length-take-le}
use Rattle.elements.specs.Kind.{Kind}
use Rattle.script.specs.Pieces.{seen, words_of, line_of}
use Rattle.script.specs.Reading.{taken, Broken, Ending, ScriptRead}
use Rattle.script.specs.Rules.{StateV, then, rule_of, begun, statement_view}
use Rattle.script.specs.declared.statement.ScriptError.{ScriptError}
use Rattle.script.specs.declared.statement.Statement.{Statement}
use Rattle.script.specs.declared.statement.What.{What}

then_itself : {X : Type 0} (o : Result X What) → then o Ok ≡ o
then_itself (Ok x) = refl
then_itself (Err why) = refl

module _ {R : Type 0} (k : Kind R) where
  pass : (o : Result (StateV R) What) (xs : List (List (List ℕ))) (w : List (List ℕ)) → ((t : StateV R) → taken k t (xs ++ (w ∷ [])) ≡ then (taken k t xs) (λ u. rule_of k u w))
      → then o (λ t. taken k t (xs ++ (w ∷ []))) ≡ then (then o (λ t. taken k t xs)) (λ u. rule_of k u w)
  pass (Ok t) xs w h = h t
  pass (Err why) xs w h = refl

  taken_push : (s : StateV R) (xs : List (List (List ℕ))) (w : List (List ℕ)) → taken k s (xs ++ (w ∷ [])) ≡ then (taken k s xs) (λ t. rule_of k t w)
  taken_push s [] w = then_itself (rule_of k s w)
  taken_push s (x ∷ xs) w = pass (rule_of k s x) xs w (λ t. taken_push t xs w)

  -- where a loop over the lines stands
  module _ {X : Type 0} (view : X → List (List ℕ)) (xs : List X) (i : ℕ) (s : StateV R) (so_far : taken k begun (map view (take i xs)) ≡ Ok s) where
    pub line_taken : (d : X) (t : StateV R) → i < length xs → Ok t ≡ rule_of k s (view (get_or xs i d)) → taken k begun (map view (take (i + 1) xs)) ≡ Ok t
    line_taken d t h e =
        ap (taken k begun) (map_more view xs i d h) ∙ taken_push begun (map view (take i xs)) (view (get_or xs i d))
        ∙ ap (λ o. then o (λ u. rule_of k u (view (get_or xs i d)))) so_far ∙ sym e

    pub line_refused : (d : X) (said : List (Statement R)) (why : What) → i < length xs → Err why ≡ rule_of k s (view (get_or xs i d)) → map statement_view said ≡ s.statements
        → Broken k (map view xs) said (record { line = i + 1; what = why })
    line_refused d said why h e m =
        let cut : xs ≡ take i xs ++ (get_or xs i d ∷ drop (i + 1) xs) = sym (take-append-drop i xs) ∙ ap (λ l. take i xs ++ l) (drop_more xs i d h) in
        let n : length (map view (take i xs)) ≡ i = length-map (take i xs) view ∙ length-take-le i xs (omega arith) in
        record {
          front = map view (take i xs);
          bad = view (get_or xs i d);
          rest = map view (drop (i + 1) xs);
          cut = ap (map view) cut ∙ map-append view (take i xs) (get_or xs i d ∷ drop (i + 1) xs);
          reached = s;
          taken_front = so_far;
          not_taken = sym e;
          counted = ap (λ j. j + 1) (sym n);
          says = m;
        }

    all_taken : length xs ≤ i → taken k begun (map view xs) ≡ Ok s
    all_taken h = ap (λ l. taken k begun (map view l)) (sym (take_all i xs h)) ∙ so_far

  pub lines_end : {X : Type 0} (view : X → List (List ℕ)) (xs : List X) (i : ℕ) (s : StateV R) (said : List (Statement R)) → taken k begun (map view (take i xs)) ≡ Ok s
      → length xs ≤ i → map statement_view said ≡ s.statements → (e : Option ScriptError) → Ending s (length xs) e → ScriptRead k (map view xs) said e
  lines_end view xs i s said so_far h m None done =
      record { end = s; taken_all = all_taken view xs i s so_far h; complete = done; says = m }
  lines_end view xs i s said so_far h m (Some e) left =
      inr (record {
        reached = s;
        taken_all = all_taken view xs i s so_far h;
        incomplete = left.0;
        counted = left.1 ∙ sym (length-map xs view);
        reason = left.2;
        says = m;
      })

pub map-line_of : (xs : List (Bor (List ℕ))) → map line_of xs ≡ map words_of (map seen xs)
map-line_of [] = refl
map-line_of (x ∷ xs) = ap (λ l. words_of (seen x) ∷ l) (map-line_of xs)
