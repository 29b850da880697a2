-- The first element that passes a test of its view. Assumes nothing.
use Rattle.std.proofs.Common.{◌≡◌, Bool, true, false, List, [], ◌∷◌, map, find, refl, sym, ap, ◌∙◌}
use Rattle.std.specs.Option.{option_map}
use Rattle.std.specs.Prelude.{cond, Some, Option}

kept : {X Y : Type 0} (view : X → Y) (b : Bool) (x : X) (o : Option X) → cond b (Some (view x)) (option_map view o) ≡ option_map view (cond b (Some x) o)
kept view true x o = refl
kept view false x o = refl

pub find-map : {X Y : Type 0} (passes : Y → Bool) (view : X → Y) (xs : List X) → option_map view (find (λ x. passes (view x)) xs) ≡ find passes (map view xs)
find-map passes view [] = refl
find-map passes view (x ∷ xs) = sym (kept view (passes (view x)) x (find (λ y. passes (view y)) xs)) ∙ ap (cond (passes (view x)) (Some (view x))) (find-map passes view xs)
