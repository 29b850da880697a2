-- Roots of unity, in any kind: their order, and that their powers lie apart. Assumes nothing.
use Rattle.std.specs.Prelude.{◌≡◌, ℕ, zero, suc, ◌+◌, ◌/◌, ◌%◌, ◌^◌, ◌<◌, ◌≤◌, [], ◌∷◌, refl}
use Rattle.std.proofs.Common.{sym, ap, ◌∙◌, zero-add, add-zero, arith, pow_pos}
use Rattle.std.proofs.Math.Nat.{two-pow-succ}
use Rattle.elements.specs.Facts.{MinusOne, TwoInvertible, RootPower, RootsApart}
use Rattle.elements.specs.Kind.{Kind, Laws, pow, less, Invertible, root_of}
use Rattle.elements.specs.Operations.{CommutativeRing, operations}
use Rattle.elements.specs.Inverse.{moved, base_invertible}
use Rattle.elements.specs.KindRing.{ring_of}
use Rattle.elements.specs.Powers.{pow_once, pow_one, pow_swap, pow_square, pow_even, pow_odd}
use Rattle.elements.specs.RingFacts.{minus_unique}
use Rattle.elements.specs.Solver.{var, nought, unit, sum, product, negated, difference, solve}

-- What everything below follows from: each root is the square of the next, from 1 on, and w(1) - 1 has an inverse.
pub record Chain {R : Type 0} (k : Kind R) : Type 0 where
  pub one_at_least : 1 ≤ k.limit
  pub first : root_of k 0 ≡ k.one
  pub square : (n : ℕ) → n < k.limit → k.times (root_of k (suc n)) (root_of k (suc n)) ≡ root_of k n
  pub apart : Invertible k (less k (root_of k 1) k.one)

pub chain : {R : Type 0} (k : Kind R) → Laws k → Chain k
chain k laws =
    let five = laws.ranges.limit_least in
    record {
      one_at_least = omega arith;
      first = laws.roots.root_first;
      square = laws.roots.root_square;
      apart = moved k _ _ (ap (λ w. less k w k.one) (sym (pow_once k (ring_of k laws.ring) (root_of k 1))))
          (laws.roots.root_apart 1 1 (omega arith) (omega arith) (omega arith));
    }

module _ {R : Type 0} (k : Kind R) (l : CommutativeRing (operations k)) (c : Chain k) where
  square_one : k.times (root_of k 1) (root_of k 1) ≡ k.one
  square_one = c.square 0 c.one_at_least ∙ c.first

  -- (1 + w)·(w - 1) is w² - 1, which is 0
  pub minus_one : MinusOne k
  minus_one =
      let w = root_of k 1 in
      let y = c.apart.0 in
      minus_unique (operations k) l k.one w
      (sym (l.times_one (k.plus k.one w)) ∙ ap (k.times (k.plus k.one w)) (sym c.apart.1)
      ∙ solve (operations k) l (w ∷ y ∷ [])
      (product (sum unit (var 0)) (product (difference (var 0) unit) (var 1)))
      (product (difference (product (var 0) (var 0)) unit) (var 1)) tt
      ∙ ap (λ z. k.times (less k z k.one) y) square_one
      ∙ solve (operations k) l (y ∷ []) (product (difference unit unit) (var 0)) nought tt)

  pub two_invertible : TwoInvertible k
  two_invertible =
      let y = c.apart.0 in (
        k.minus y,
        solve (operations k) l (y ∷ [])
            (product (sum unit unit) (negated (var 0)))
            (product (difference (negated unit) unit) (var 0)) tt
            ∙ ap (λ z. k.times (less k z k.one) y) (sym minus_one) ∙ c.apart.1,
      )

  -- w(m+n)^(2^n) is w(m)
  pub root_down : (m n : ℕ) → m + n ≤ k.limit → pow k (root_of k (m + n)) (2 ^ n) ≡ root_of k m
  root_down m zero h = pow_once k l (root_of k (m + 0)) ∙ ap (root_of k) (add-zero m)
  root_down m (suc n) h =
      let s : m + suc n ≡ suc (m + n) = omega arith in
      let x = root_of k (suc (m + n)) in
      ap (λ i. pow k (root_of k i) (2 ^ suc n)) s ∙ ap (pow k x) (two-pow-succ n) ∙ sym (pow_square k l x (2 ^ n))
      ∙ ap (λ z. pow k z (2 ^ n)) (c.square (m + n) (omega arith)) ∙ root_down m n (omega arith)

  pub root_power : RootPower k
  root_power n h =
      ap (λ i. pow k (root_of k i) (2 ^ n)) (sym (zero-add n)) ∙ root_down 0 n (omega (arith, zero-add n)) ∙ c.first

  pub root_invertible : (n : ℕ) → n ≤ k.limit → Invertible k (root_of k n)
  root_invertible n h = go (2 ^ n) (omega (arith, pow_pos n)) (root_power n h)
    where
      go : (e : ℕ) → 0 < e → pow k (root_of k n) e ≡ k.one → Invertible k (root_of k n)
      go zero p q = absurd (omega arith)
      go (suc e) p q = (pow k (root_of k n) e, q)

  odd_power : (i : ℕ) → i % 2 ≡ 1 → pow k (root_of k 1) i ≡ root_of k 1
  odd_power i h =
      sym (pow_odd k l (root_of k 1) i h) ∙ ap (λ z. k.times (root_of k 1) (pow k z (i / 2))) square_one
      ∙ ap (k.times (root_of k 1)) (pow_one k l (i / 2)) ∙ l.times_one (root_of k 1)

  -- w(n+1)^i - 1: at an even i it is a power of w(n) less 1; at an odd one it divides w(1) - 1
  apart_more : (n i : ℕ) → suc n ≤ k.limit → 0 < i → i < 2 ^ suc n
      → ((j : ℕ) → 0 < j → j < 2 ^ n → Invertible k (less k (pow k (root_of k n) j) k.one))
      → (rest : ℕ) → i % 2 ≡ rest → Invertible k (less k (pow k (root_of k (suc n)) i) k.one)
  apart_more n i h pos top before zero e =
      let x = root_of k (suc n) in
      moved k _ _ (ap (λ z. less k z k.one) (sym (pow_even k l x i e) ∙ ap (λ z. pow k z (i / 2)) (c.square n h)))
      (before (i / 2) (omega arith) (omega (arith, two-pow-succ n)))
  apart_more n i h pos top before (suc zero) e =
      let x = root_of k (suc n) in
      let s : 1 + n ≡ suc n = omega arith in
      let down : pow k x (2 ^ n) ≡ root_of k 1 = ap (λ m. pow k (root_of k m) (2 ^ n)) (sym s) ∙ root_down 1 n (omega arith) in
      base_invertible k l (pow k x i) k.one (2 ^ n)
      (moved k _ (less k (root_of k 1) k.one)
      (ap (less k (pow k (pow k x i) (2 ^ n))) (pow_one k l (2 ^ n))
      ∙ ap (λ z. less k z k.one) (pow_swap k l x i (2 ^ n) ∙ ap (λ z. pow k z i) down ∙ odd_power i e))
      c.apart)
  apart_more n i h pos top before (suc (suc rest)) e = absurd (omega arith)

  pub roots_apart : RootsApart k
  roots_apart zero i h pos top = absurd (omega arith)
  roots_apart (suc n) i h pos top = apart_more n i h pos top (λ j p q. roots_apart n j (omega arith) p q) (i % 2) refl
