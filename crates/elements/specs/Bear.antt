-- The kind BabyBear: four numbers modulo p, the coefficients of 1, x, x^2 and x^3, with x^4 = 11. Assumes nothing.
use Rattle.std.specs.Prelude.{ℕ, ◌+◌, ◌-◌, ◌*◌, ◌/◌, ◌%◌, ◌^◌, Bool, ◌&&◌, [], ◌∷◌, ◌==◌, slice_index}
use Rattle.elements.specs.Extension.{Four, mul4}
use Rattle.elements.specs.Kind.{Kind}
use Rattle.elements.specs.Modulo.{residue, residues}
use Rattle.elements.specs.Numbers.{squared_onward}
use Rattle.elements.specs.Operations.{Operations, inverse_among}
use Rattle.elements.specs.declared.babybear.BabyBear.{BabyBear}
use Rattle.elements.specs.declared.residue.Residue.{Residue}

-- 15·2^27 + 1
abbrev pub p : ℕ
p = 2013265921

-- a number read modulo p
abbrev pub of : ℕ → Residue p
of = residue p tt

-- the ring of base numbers
abbrev pub base : Operations (Residue p)
base = residues p tt

-- the element with these coefficients, each read modulo p
abbrev pub bear : ℕ → ℕ → ℕ → ℕ → BabyBear
bear a b c d = record { c0 = of a; c1 = of b; c2 = of c; c3 = of d }

abbrev pub bear_of : Four ℕ → BabyBear
bear_of a = bear a.c0 a.c1 a.c2 a.c3

abbrev pub numbers : BabyBear → Four ℕ
numbers a = record { c0 = a.c0.value; c1 = a.c1.value; c2 = a.c2.value; c3 = a.c3.value }

abbrev pub coordinates : BabyBear → Four (Residue p)
coordinates a = record { c0 = a.c0; c1 = a.c1; c2 = a.c2; c3 = a.c3 }

abbrev pub times : BabyBear → BabyBear → BabyBear
times a b = bear_of (mul4 ◌+◌ ◌*◌ 11 (numbers a) (numbers b))

abbrev pub is_one : BabyBear → Bool
is_one a = a.c0.value == 1 && (a.c1.value == 0 && (a.c2.value == 0 && a.c3.value == 0))

-- the element whose coefficients are the digits of n to the base p: each element has one such n below p^4
abbrev pub numbered : ℕ → BabyBear
numbered n = bear n (n / p) (n / p / p) (n / p / p / p)

abbrev pub babybear : Kind BabyBear
babybear = record {
  modulus = p;
  dimension = 4;
  limit = 27;
  zero = bear 0 0 0 0;
  one = bear 1 0 0 0;
  plus = λ a b. record { c0 = base.plus a.c0 b.c0; c1 = base.plus a.c1 b.c1; c2 = base.plus a.c2 b.c2; c3 = base.plus a.c3 b.c3 };
  times = times;
  minus = λ a. record { c0 = base.minus a.c0; c1 = base.minus a.c1; c2 = base.minus a.c2; c3 = base.minus a.c3 };
  inverse = inverse_among is_one times numbered (p ^ 4);
  embed = λ n. bear n 0 0 0;
  x = bear 0 1 0 0;
  coefficients = λ a. a.c0.value ∷ a.c1.value ∷ a.c2.value ∷ a.c3.value ∷ [];
  element = λ cs. bear (slice_index cs 0) (slice_index cs 1) (slice_index cs 2) (slice_index cs 3);
  shift = 31;
  root = λ n. squared_onward p (31 ^ 15 % p) (27 - n);
}
