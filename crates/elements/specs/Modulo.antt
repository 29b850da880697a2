-- Whole numbers modulo p, with sums and products. Assumes nothing.
use Rattle.std.specs.Prelude.{ℕ, zero, suc, ◌+◌, ◌-◌, ◌*◌, ◌%◌, ◌<◌}
use Rattle.std.proofs.Common.{mod-lt, not-suc-le-zero, suc-le-suc, zero-le}
use Rattle.elements.specs.Operations.{Operations}
use Rattle.elements.specs.declared.residue.Residue.{Residue}

-- there are numbers below p
abbrev pub Positive : ℕ → Type 0
Positive zero = ⊥
Positive (suc n) = Unit {0}

pub above_zero : (p : ℕ) → Positive p → 0 < p
above_zero zero h = absurd h
above_zero (suc n) h = suc-le-suc zero-le

-- a number read modulo p
abbrev pub residue : (p : ℕ) → Positive p → ℕ → Residue p
residue p h n = record { value = n % p; below = mod-lt n (above_zero p h) }

-- the ring of the numbers modulo p
unfoldable pub residues : (p : ℕ) → Positive p → Operations (Residue p)
residues p h = record {
  zero = residue p h 0;
  one = residue p h 1;
  plus = λ x y. residue p h (x.value + y.value);
  times = λ x y. residue p h (x.value * y.value);
  minus = λ x. residue p h (p - x.value);
}

-- there are numbers below p, since x is one
abbrev pub positive : (p : ℕ) → Residue p → Positive p
positive zero x = absurd (not-suc-le-zero x.below)
positive (suc n) x = tt

-- the ring that x is in
abbrev pub residues_of : {p : ℕ} → Residue p → Operations (Residue p)
residues_of {p} x = residues p (positive p x)
