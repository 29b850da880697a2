-- The numbers modulo p are a commutative ring: they represent themselves. Assumes nothing.
use Rattle.std.specs.Prelude.{◌≡◌, ℕ, ◌+◌, ◌*◌, ◌%◌, ◌<◌, refl}
use Rattle.std.proofs.Math.Bridge.{le_prop}
use mathlib.Core.HLevel.{is_prop→PathP}
use Rattle.elements.specs.Operations.{CommutativeRing}
use Rattle.elements.specs.Modulo.{Positive, residue, residues}
use Rattle.elements.specs.Residues.{Represents}
use Rattle.elements.specs.Residues.{of_value as value_back, of_cong as cong_of, of_mod as mod_of, of_one_to_one as one_to_one_of}
use Rattle.elements.specs.Residues.{of_plus as plus_of, of_times as times_of, residue_ring as ring_of}
use Rattle.elements.specs.declared.residue.Residue.{Residue, below-type}

-- two with one value are equal
pub same : {p : ℕ} (x y : Residue p) → x.value ≡ y.value → x ≡ y
same {p} x y e = λ i. record { value = e i; below = is_prop→PathP (λ j. below-type p (e j)) (λ j. le_prop) x.below y.below i }

abbrev pub number : {p : ℕ} → Residue p → ℕ
number x = x.value

module _ (p : ℕ) (h : Positive p) where
  abbrev of : ℕ → Residue p
  of = residue p h

  pub represents : Represents p number of
  represents = record { value_of = λ n. refl; below = λ x. x.below; same = same }

  pub of_value : (x : Residue p) → of x.value ≡ x
  of_value = value_back p number of represents

  -- numbers with one remainder stand for one element
  pub of_cong : (m n : ℕ) → m % p ≡ n % p → of m ≡ of n
  of_cong = cong_of p number of represents

  pub of_mod : (n : ℕ) → of (n % p) ≡ of n
  of_mod = mod_of p number of represents

  pub of_one_to_one : (m n : ℕ) → m < p → n < p → of m ≡ of n → m ≡ n
  of_one_to_one = one_to_one_of p number of represents

  pub of_plus : (m n : ℕ) → of (m + n) ≡ (residues p h).plus (of m) (of n)
  unfolding residues
  of_plus = plus_of p number of represents

  pub of_times : (m n : ℕ) → of (m * n) ≡ (residues p h).times (of m) (of n)
  unfolding residues
  of_times = times_of p number of represents

  pub residue_ring : CommutativeRing (residues p h)
  unfolding residues
  residue_ring = ring_of p number of represents
