-- The kind F257 keeps the laws of a field kind. Assumes nothing.
use Rattle.std.specs.Prelude.{◌≡◌, ℕ, ◌+◌, ◌-◌, ◌*◌, ◌%◌, ◌^◌, ◌<◌, ◌≤◌, Bool, T, List, [], ◌∷◌, length, is_some, Some, None, Option, ◌==◌, slice_index, refl}
use Rattle.std.proofs.Common.{ap, sym, subst, ◌∙◌, mod-eq_of_lt, arith, eqb→eq, lit<, lit≤}
use Rattle.std.proofs.Math.Dec.{eqb_refl}
use Rattle.std.proofs.lemmas.List.Elements.{All-nil, All-cons, All-head}
use Rattle.std.specs.Option.{option_map}
use Rattle.elements.specs.Kind.{Laws, Ranges, Embeds, Coordinates, Roots, Canonical, Inverse, Invertible, less, pow, root_of}
use Rattle.elements.specs.Mod257.{of, f257}
use Rattle.elements.specs.Modulo.{residues}
use Rattle.elements.specs.Operations.{CommutativeRing, operations}
use Rattle.elements.specs.KindRing.{ring_kept}
use Rattle.elements.specs.declared.residue.Residue.{Residue}
use Rattle.elements.specs.Below.{all_below, below_at, unless_first, unless_first_passes}
use Rattle.elements.specs.Inverse.{invertible}
use Rattle.elements.specs.Least.{Found, least_found}
use Rattle.elements.specs.ModLemmas.{mul_mod_mod}
use Rattle.elements.specs.ResidueRing.{same, of_value, of_mod, of_one_to_one, of_plus, of_times, residue_ring}
use Rattle.elements.specs.RingFacts.{one_times}
use Rattle.elements.specs.Squares.{squared_is_onward, root_below, root_square}

ranges : Ranges f257
ranges = record {
  modulus_least = lit≤ tt;
  modulus_most = lit< tt;
  dimension_least = lit≤ tt;
  dimension_most = lit≤ tt;
  limit_least = lit≤ tt;
  limit_most = lit≤ tt;
}

pub ring : CommutativeRing (operations f257)
unfolding residues
ring = residue_ring 257 tt

pub embeds : Embeds f257
embeds = record {
  modulo = of_mod 257 tt;
  one_to_one = of_one_to_one 257 tt;
  sums = λ m n hm hn. of_mod 257 tt (m + n) ∙ of_plus 257 tt m n;
  products = λ m n hm hn. of_mod 257 tt (m * n) ∙ of_times 257 tt m n;
}

pub head_below : (cs : List ℕ) → Canonical f257 cs → slice_index cs 0 < 257
head_below [] h = absurd (omega (arith, h.0))
head_below (c ∷ cs) h = All-head (λ n. n < 257) c cs h.1

pub single : (cs : List ℕ) → length cs ≡ 1 → slice_index cs 0 < 257 → Canonical f257 cs × (slice_index cs 0 ∷ [] ≡ cs)
single [] e h = absurd (omega (arith, e))
single (c ∷ []) e h = ((refl, All-cons (λ n. n < 257) c [] h (All-nil (λ n. n < 257))), refl)
single (c ∷ d ∷ cs) e h = absurd (omega (arith, e))

coordinates : Coordinates f257
coordinates = record {
  canonical = λ v. (refl, All-cons (λ n. n < 257) v.value [] v.below (All-nil (λ n. n < 257)));
  back = of_value 257 tt;
  forth = λ cs h. ap (λ n. n ∷ []) (mod-eq_of_lt (head_below cs h)) ∙ (single cs h.0 (head_below cs h)).1;
  powers = λ v. sym (ring.plus_zero (f257.times f257.one (of v.value)) ∙ one_times (operations f257) ring (of v.value) ∙ of_value 257 tt v);
}

abbrev inverts : Residue 257 → ℕ → Bool
inverts v n = (v.value * n) % 257 == 1

found_inverse : (v : Residue 257) (o : Option ℕ) → Found (inverts v) 257 o → Inverse f257 v (option_map of o)
unfolding residues
found_inverse v None h = λ y e. h y.value y.below (subst (λ (n : ℕ). T (n == 1)) (sym (ap (λ x. x.value) e)) (eqb_refl 1))
found_inverse v (Some n) h = same _ _ (mul_mod_mod v.value n 257 ∙ eqb→eq ((v.value * n) % 257) 1 h.1)

inverses : (v : Residue 257) → Inverse f257 v (f257.inverse v)
inverses v = found_inverse v _ (least_found (inverts v) 257)

-- w(n)^i - 1
abbrev apart : ℕ → ℕ → Residue 257
apart n i = less f257 (pow f257 (root_of f257 n) i) f257.one

-- it has an inverse, but at 0
abbrev is_apart : ℕ → ℕ → Bool
is_apart n i = unless_first i (is_some (f257.inverse (apart n i)))

abbrev row_apart : ℕ → Bool
row_apart n = all_below (is_apart n) (2 ^ n)

all_apart : T (all_below row_apart 6)
unfolding residues
all_apart = tt

root_apart : (n i : ℕ) → n ≤ 5 → 0 < i → i < 2 ^ n → Invertible f257 (apart n i)
root_apart n i h pos top =
    invertible f257 (apart n i) (f257.inverse (apart n i)) (inverses (apart n i))
    (unless_first_passes i _ (below_at (is_apart n) (2 ^ n) i (below_at row_apart 6 n all_apart (omega arith)) top) pos)

roots : Roots f257
unfolding residues
roots = record {
  shift_below = lit< tt;
  shift_invertible = (of 86, same _ _ refl);
  root_below = λ n h. root_below f257 9 (lit< tt) (λ m. squared_is_onward 257 9 (7 - m)) n;
  root_first = same _ _ refl;
  root_square = root_square f257 9 (lit< tt) (λ m. squared_is_onward 257 9 (7 - m)) embeds;
  root_apart = root_apart;
}

pub f257_laws : Laws f257
f257_laws = record {
  ranges = ranges;
  ring = ring_kept f257 ring;
  embeds = embeds;
  coordinates = coordinates;
  inverses = inverses;
  roots = roots;
}
