-- The kind BabyBear keeps the laws of a field kind. Assumes nothing.
use Rattle.std.specs.Prelude.{◌≡◌, ℕ, All, ◌+◌, ◌*◌, ◌/◌, ◌%◌, ◌^◌, ◌<◌, ◌&&◌, T, List, [], ◌∷◌, map, length, nat_eq, slice_index, refl}
use Rattle.std.proofs.Common.{ap, sym, subst, ◌∙◌, mod-eq_of_lt, arith, eqb→eq, lit<, lit≤}
use Rattle.std.proofs.lemmas.List.Elements.{All-nil, All-cons, All-get_or}
use Rattle.elements.specs.Bear.{p, of, base, bear, times, coordinates, is_one, numbered, babybear}
use Rattle.elements.specs.Kind.{Laws, Ranges, Embeds, Coordinates, Roots, Canonical, Invertible, less, root_of, evaluated}
use Rattle.elements.specs.Modulo.{residues}
use Rattle.elements.specs.Operations.{Operations, CommutativeRing, operations}
use Rattle.elements.specs.declared.babybear.BabyBear.{BabyBear}
use Rattle.elements.specs.declared.residue.Residue.{Residue}
use Rattle.elements.specs.BearProduct.{base_ring, bear_ring, joined, times_is}
use Rattle.elements.specs.Below.{both_left, both_right}
use Rattle.elements.specs.Digits.{low_digit, high_digit, digits_below}
use Rattle.elements.specs.Folds.{evaluated_cons}
use Rattle.elements.specs.FourRing.{four_ring, alone_times, horner4}
use Rattle.elements.specs.KindRing.{ring_kept}
use Rattle.elements.specs.Least.{Candidates, inverse_among_inverts}
use Rattle.elements.specs.ResidueRing.{same, of_mod, of_one_to_one, of_plus, of_times}
use Rattle.elements.specs.Squares.{squared_roots}

-- two elements with the same coefficients are equal
pub alike : (a b : BabyBear) → a.c0.value ≡ b.c0.value → a.c1.value ≡ b.c1.value → a.c2.value ≡ b.c2.value → a.c3.value ≡ b.c3.value → a ≡ b
alike a b e f g h = λ i. record { c0 = same a.c0 b.c0 e i; c1 = same a.c1 b.c1 f i; c2 = same a.c2 b.c2 g i; c3 = same a.c3 b.c3 h i }

-- the operations, with another product
abbrev with_times : (BabyBear → BabyBear → BabyBear) → Operations BabyBear
with_times t = record { zero = babybear.zero; one = babybear.one; plus = babybear.plus; times = t; minus = babybear.minus }

abbrev joined_times : BabyBear → BabyBear → BabyBear
joined_times a b = joined (bear_ring.times (coordinates a) (coordinates b))

times_path : times ≡ joined_times
times_path = λ i a b. times_is a b i

L : CommutativeRing bear_ring
L = four_ring base base_ring (of 11)

joined_ring : CommutativeRing (with_times joined_times)
unfolding residues
joined_ring = record {
  plus_comm = λ a b. ap joined (L.plus_comm (coordinates a) (coordinates b));
  plus_assoc = λ a b c. ap joined (L.plus_assoc (coordinates a) (coordinates b) (coordinates c));
  plus_zero = λ a. ap joined (L.plus_zero (coordinates a));
  plus_minus = λ a. ap joined (L.plus_minus (coordinates a));
  times_comm = λ a b. ap joined (L.times_comm (coordinates a) (coordinates b));
  times_assoc = λ a b c. ap joined (L.times_assoc (coordinates a) (coordinates b) (coordinates c));
  times_one = λ a. ap joined (L.times_one (coordinates a));
  times_plus = λ a b c. ap joined (L.times_plus (coordinates a) (coordinates b) (coordinates c));
}

pub ring : CommutativeRing (operations babybear)
ring = subst (λ t. CommutativeRing (with_times t)) (sym times_path) joined_ring

ranges : Ranges babybear
ranges = record {
  modulus_least = lit≤ tt;
  modulus_most = lit< tt;
  dimension_least = lit≤ tt;
  dimension_most = lit≤ tt;
  limit_least = lit≤ tt;
  limit_most = lit≤ tt;
}

-- the element of a base number
abbrev alone' : Residue p → BabyBear
alone' x = record { c0 = x; c1 = of 0; c2 = of 0; c3 = of 0 }

embeds : Embeds babybear
unfolding residues
embeds = record {
  modulo = λ n. ap alone' (of_mod p tt n);
  one_to_one = λ m n hm hn e. of_one_to_one p tt m n hm hn (ap (λ (v : BabyBear). v.c0) e);
  sums = λ m n hm hn. ap alone' (of_mod p tt (m + n) ∙ of_plus p tt m n);
  products = λ m n hm hn.
      ap alone' (of_mod p tt (m * n) ∙ of_times p tt m n)
      ∙ sym (times_is (bear m 0 0 0) (bear n 0 0 0) ∙ ap joined (alone_times base base_ring (of 11) (of m) (of n)));
}

value_back : (v : BabyBear) → bear v.c0.value v.c1.value v.c2.value v.c3.value ≡ v
value_back v = alike _ v (mod-eq_of_lt v.c0.below) (mod-eq_of_lt v.c1.below) (mod-eq_of_lt v.c2.below) (mod-eq_of_lt v.c3.below)

pub four_of : (cs : List ℕ) → length cs ≡ 4 → slice_index cs 0 ∷ slice_index cs 1 ∷ slice_index cs 2 ∷ slice_index cs 3 ∷ [] ≡ cs
four_of [] e = absurd (omega (arith, e))
four_of (a ∷ []) e = absurd (omega (arith, e))
four_of (a ∷ b ∷ []) e = absurd (omega (arith, e))
four_of (a ∷ b ∷ c ∷ []) e = absurd (omega (arith, e))
four_of (a ∷ b ∷ c ∷ d ∷ []) e = refl
four_of (a ∷ b ∷ c ∷ d ∷ f ∷ cs) e = absurd (omega (arith, e))

pub entry_below : (cs : List ℕ) (i : ℕ) → i < 4 → Canonical babybear cs → slice_index cs i < p
entry_below cs i h c = All-get_or (λ n. n < p) cs i 0 (subst (λ n. i < n) (sym c.0) h) c.1

-- numbers below p that are read modulo p stay
pub kept_numbers : (cs : List ℕ) → length cs ≡ 4 → slice_index cs 0 < p → slice_index cs 1 < p → slice_index cs 2 < p → slice_index cs 3 < p
    → babybear.coefficients (babybear.element cs) ≡ cs
kept_numbers cs e h0 h1 h2 h3 =
    (λ i. mod-eq_of_lt h0 i ∷ mod-eq_of_lt h1 i ∷ mod-eq_of_lt h2 i ∷ mod-eq_of_lt h3 i ∷ []) ∙ four_of cs e

-- c + x·d, with any product
abbrev onto : (BabyBear → BabyBear → BabyBear) → ℕ → BabyBear → BabyBear
onto t n d = babybear.plus (babybear.embed n) (t babybear.x d)

abbrev nested : BabyBear → (BabyBear → BabyBear → BabyBear) → BabyBear
nested v t = onto t v.c0.value (onto t v.c1.value (onto t v.c2.value (onto t v.c3.value babybear.zero)))

nested_is : (v : BabyBear) → nested v joined_times ≡ v
unfolding residues
nested_is v = ap joined (horner4 base base_ring (of 11) (of v.c0.value) (of v.c1.value) (of v.c2.value) (of v.c3.value)) ∙ value_back v

powers : (v : BabyBear) → evaluated babybear babybear.x (map babybear.embed (babybear.coefficients v)) ≡ v
powers v =
    let e = babybear.embed in
    let n0 = v.c0.value in
    let n1 = v.c1.value in
    let n2 = v.c2.value in
    let n3 = v.c3.value in
    let cons = evaluated_cons babybear ring babybear.x in
    cons (e n0) (e n1 ∷ e n2 ∷ e n3 ∷ [])
    ∙ ap (onto times n0) (cons (e n1) (e n2 ∷ e n3 ∷ []))
    ∙ ap (λ z. onto times n0 (onto times n1 z)) (cons (e n2) (e n3 ∷ []))
    ∙ ap (λ z. onto times n0 (onto times n1 (onto times n2 z))) (cons (e n3) [])
    ∙ ap (nested v) times_path ∙ nested_is v

below_all : (v : BabyBear) → All (λ n. n < p) (babybear.coefficients v)
below_all v =
    let more = All-cons (λ n. n < p) in
    let nil = All-nil (λ n. n < p) in
    more v.c0.value (v.c1.value ∷ v.c2.value ∷ v.c3.value ∷ []) v.c0.below
    (more v.c1.value (v.c2.value ∷ v.c3.value ∷ []) v.c1.below (more v.c2.value (v.c3.value ∷ []) v.c2.below (more v.c3.value [] v.c3.below nil)))

coordinate_laws : Coordinates babybear
coordinate_laws = record {
  canonical = λ v. (refl, below_all v);
  back = value_back;
  forth = λ cs h.
      kept_numbers cs h.0 (entry_below cs 0 (lit< tt) h) (entry_below cs 1 (lit< tt) h) (entry_below cs 2 (lit< tt) h) (entry_below cs 3 (lit< tt) h);
  powers = λ v. sym (powers v);
}

-- the number whose digits to the base p are the coefficients
module _ (v : BabyBear) where
  abbrev n2 : ℕ
  n2 = v.c2.value + p * v.c3.value

  abbrev n1 : ℕ
  n1 = v.c1.value + p * n2

  abbrev n0 : ℕ
  n0 = v.c0.value + p * n1

  rest1 : n0 / p ≡ n1
  rest1 = high_digit p v.c0.value n1 v.c0.below

  rest2 : n0 / p / p ≡ n2
  rest2 = ap (λ n. n / p) rest1 ∙ high_digit p v.c1.value n2 v.c1.below

  rest3 : n0 / p / p / p ≡ v.c3.value
  rest3 = ap (λ n. n / p) rest2 ∙ high_digit p v.c2.value v.c3.value v.c2.below

  numbered_back : numbered n0 ≡ v
  numbered_back =
      alike _ v
      (low_digit p v.c0.value n1 v.c0.below)
      (ap (λ n. n % p) rest1 ∙ low_digit p v.c1.value n2 v.c1.below)
      (ap (λ n. n % p) rest2 ∙ low_digit p v.c2.value v.c3.value v.c2.below)
      (ap (λ n. n % p) rest3 ∙ mod-eq_of_lt v.c3.below)

  numbered_below : n0 < p ^ 4
  numbered_below =
      digits_below p v.c0.value n1 v.c0.below (p ^ 3)
      (digits_below p v.c1.value n2 v.c1.below (p ^ 2)
      (digits_below p v.c2.value v.c3.value v.c2.below p v.c3.below))

  one_told : T (is_one v) → v ≡ babybear.one
  one_told t =
      let a = nat_eq v.c0.value 1 in
      let b = nat_eq v.c1.value 0 in
      let c = nat_eq v.c2.value 0 in
      let d = nat_eq v.c3.value 0 in
      let t1 = both_right a (b && (c && d)) t in
      let t2 = both_right b (c && d) t1 in
      alike v babybear.one (eqb→eq v.c0.value 1 (both_left a (b && (c && d)) t)) (eqb→eq v.c1.value 0 (both_left b (c && d) t1))
      (eqb→eq v.c2.value 0 (both_left c d t2)) (eqb→eq v.c3.value 0 (both_right c d t2))

candidates : Candidates babybear is_one numbered (p ^ 4)
candidates = record { one_passes = tt; passes_one = one_told; number = n0; below = numbered_below; back = numbered_back }

-- w(1) - 1 is -2, and -2·1006632960 is 1
apart : Invertible babybear (less babybear (root_of babybear 1) babybear.one)
unfolding residues
apart = (bear 1006632960 0 0 0, alike _ _ refl refl refl refl)

-- 31·64944062 is 1
roots : Roots babybear
roots =
    squared_roots babybear (31 ^ 15 % p) (lit< tt) (λ n. refl) ring embeds ranges (alike _ _ refl refl refl refl) apart
    (lit< tt) (bear 64944062 0 0 0, alike _ _ refl refl refl refl)

pub babybear_laws : Laws babybear
babybear_laws = record {
  ranges = ranges;
  ring = ring_kept babybear ring;
  embeds = embeds;
  coordinates = coordinate_laws;
  inverses = inverse_among_inverts babybear is_one numbered (p ^ 4) candidates;
  roots = roots;
}
