-- What follows from the laws of a kind: divisors, inverses, roots. Assumes nothing.
use Rattle.std.specs.Prelude.{◌≡◌, ℕ, ◌^◌, ◌<◌, ◌≤◌, true, is_some, Option}
use Rattle.elements.specs.Kind.{Kind, pow, less, Inverse, Invertible, root_of}

module _ {R : Type 0} (k : Kind R) where
  -- 0 and 1 as base numbers are 0 and 1 as elements
  abbrev pub EmbeddedUnits : Type 0
  EmbeddedUnits = (k.embed 0 ≡ k.zero) × (k.embed 1 ≡ k.one)

  -- x - y divides x^n - y^n
  abbrev pub DividesPowers : Type 0
  DividesPowers = (x y : R) (n : ℕ) → (q : R) × (k.times (less k x y) q ≡ less k (pow k x n) (pow k y n))

  -- a divisor of an element with an inverse has one
  abbrev pub DivisorInvertible : Type 0
  DivisorInvertible = (x q : R) → Invertible k (k.times x q) → Invertible k x

  -- an offered inverse of an element that has one is present
  abbrev pub InversePresent : Type 0
  InversePresent = (x : R) (offered : Option R) → Invertible k x → Inverse k x offered → is_some offered ≡ true

  abbrev pub InverseUnique : Type 0
  InverseUnique = (x y z : R) → k.times x y ≡ k.one → k.times x z ≡ k.one → y ≡ z

  -- w(1) is -1
  abbrev pub MinusOne : Type 0
  MinusOne = root_of k 1 ≡ k.minus k.one

  abbrev pub TwoInvertible : Type 0
  TwoInvertible = Invertible k (k.plus k.one k.one)

  -- w(n)^(2^n) is 1
  abbrev pub RootPower : Type 0
  RootPower = (n : ℕ) → n ≤ k.limit → pow k (root_of k n) (2 ^ n) ≡ k.one

  -- for every root there is, its powers lie apart from 1 until 2^n: the difference has an inverse
  abbrev pub RootsApart : Type 0
  RootsApart = (n i : ℕ) → n ≤ k.limit → 0 < i → i < 2 ^ n → Invertible k (less k (pow k (root_of k n) i) k.one)
