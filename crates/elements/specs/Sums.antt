-- Sums, products and folds of lists of elements. Assumes nothing.
use Rattle.std.specs.Prelude.{List, [], ◌∷◌}
use Rattle.std.specs.List as list
use Rattle.elements.specs.Kind.{Kind, evaluated}

module _ {R : Type 0} (k : Kind R) where
  abbrev pub product : List R → R
  product [] = k.one
  product (v ∷ vs) = k.times v (product vs)

  -- acc·alpha + c over the list, first to last
  abbrev pub fold : R → R → List R → R
  fold alpha acc cs = list.fold (λ a c. k.plus (k.times a alpha) c) acc cs

  -- the values of the coordinates put together: the sum of x^i·v_i
  abbrev pub recomposed : List R → R
  recomposed vs = evaluated k k.x vs
