-- Numbers modulo p: a type whose values are the numbers below p is a commutative ring. Assumes nothing.
use Rattle.std.specs.Prelude.{◌≡◌, ℕ, ◌+◌, ◌-◌, ◌*◌, ◌%◌, ◌<◌}
use Rattle.std.proofs.Common.{ap, sym, ◌∙◌, mod-eq_of_lt, add_comm, add_assoc, mul_comm, mul_assoc, mul-add, mul-one, add-zero, arith}
use Rattle.std.proofs.Math.Nat.{mod-mod, mod_self, zero-mod, mod-add-mod, add-mod-mod}
use Rattle.elements.specs.Operations.{Operations, CommutativeRing}
use Rattle.elements.specs.ModLemmas.{mod_mul_mod, mul_mod_mod}

module _ {R : Type 0} (p : ℕ) (value : R → ℕ) (of : ℕ → R) where
  abbrev pub residues : Operations R
  residues = record {
    zero = of 0;
    one = of 1;
    plus = λ x y. of (value x + value y);
    times = λ x y. of (value x * value y);
    minus = λ x. of (p - value x);
  }

-- Values are numbers below p, one for each, and a number stands for its remainder.
pub record Represents {R : Type 0} (p : ℕ) (value : R → ℕ) (of : ℕ → R) : Type 0 where
  pub value_of : (n : ℕ) → value (of n) ≡ n % p
  pub below : (x : R) → value x < p
  pub same : (x y : R) → value x ≡ value y → x ≡ y

module _ {R : Type 0} (p : ℕ) (value : R → ℕ) (of : ℕ → R) (r : Represents p value of) where
  abbrev o : Operations R
  o = residues p value of

  pub of_value : (x : R) → of (value x) ≡ x
  of_value x = r.same _ _ (r.value_of (value x) ∙ mod-eq_of_lt (r.below x))

  -- numbers with one remainder stand for one element
  pub of_cong : (m n : ℕ) → m % p ≡ n % p → of m ≡ of n
  of_cong m n e = r.same _ _ (r.value_of m ∙ e ∙ sym (r.value_of n))

  pub of_mod : (n : ℕ) → of (n % p) ≡ of n
  of_mod n = of_cong (n % p) n (mod-mod n p)

  pub of_one_to_one : (m n : ℕ) → m < p → n < p → of m ≡ of n → m ≡ n
  of_one_to_one m n hm hn e = sym (mod-eq_of_lt hm) ∙ sym (r.value_of m) ∙ ap value e ∙ r.value_of n ∙ mod-eq_of_lt hn

  of_plus_left : (m : ℕ) (x : R) → o.plus (of m) x ≡ of (m + value x)
  of_plus_left m x = ap (λ n. of (n + value x)) (r.value_of m) ∙ of_cong _ _ (mod-add-mod m p (value x))

  of_plus_right : (x : R) (n : ℕ) → o.plus x (of n) ≡ of (value x + n)
  of_plus_right x n = ap (λ m. of (value x + m)) (r.value_of n) ∙ of_cong _ _ (add-mod-mod (value x) n p)

  pub of_plus : (m n : ℕ) → of (m + n) ≡ o.plus (of m) (of n)
  of_plus m n = sym (of_plus_left m (of n) ∙ ap (λ i. of (m + i)) (r.value_of n) ∙ of_cong _ _ (add-mod-mod m n p))

  of_times_left : (m : ℕ) (x : R) → o.times (of m) x ≡ of (m * value x)
  of_times_left m x = ap (λ n. of (n * value x)) (r.value_of m) ∙ of_cong _ _ (mod_mul_mod m (value x) p)

  of_times_right : (x : R) (n : ℕ) → o.times x (of n) ≡ of (value x * n)
  of_times_right x n = ap (λ m. of (value x * m)) (r.value_of n) ∙ of_cong _ _ (mul_mod_mod (value x) n p)

  pub of_times : (m n : ℕ) → of (m * n) ≡ o.times (of m) (of n)
  of_times m n = sym (of_times_left m (of n) ∙ ap (λ i. of (m * i)) (r.value_of n) ∙ of_cong _ _ (mul_mod_mod m n p))

  pub residue_ring : CommutativeRing o
  residue_ring = record {
    plus_comm = λ x y. ap of (add_comm (value x) (value y));
    plus_assoc = λ x y z.
        of_plus_left (value x + value y) z ∙ ap of (add_assoc (value x) (value y) (value z)) ∙ sym (of_plus_right x (value y + value z));
    plus_zero = λ x. of_plus_right x 0 ∙ ap of (add-zero (value x)) ∙ of_value x;
    plus_minus = λ x.
        let h = r.below x in
        let e : value x + (p - value x) ≡ p = omega arith in
        of_plus_right x (p - value x) ∙ ap of e ∙ of_cong p 0 (mod_self p ∙ sym (zero-mod p));
    times_comm = λ x y. ap of (mul_comm (value x) (value y));
    times_assoc = λ x y z.
        of_times_left (value x * value y) z ∙ ap of (mul_assoc (value x) (value y) (value z)) ∙ sym (of_times_right x (value y * value z));
    times_one = λ x. of_times_right x 1 ∙ ap of (mul-one (value x)) ∙ of_value x;
    times_plus = λ x y z.
        of_times_right x (value y + value z) ∙ ap of (mul-add (value x) (value y) (value z)) ∙ of_plus (value x * value y) (value x * value z);
  }
