-- A field kind over the elements R: its numbers, its operations, and the laws that they keep. Assumes nothing.
use Rattle.std.specs.Prelude.{◌≡◌, ℕ, All, zero, suc, ◌+◌, ◌*◌, ◌%◌, ◌^◌, ◌<◌, ◌≤◌, cond, List, [], ◌∷◌, map, length, Some, None, Option, ◌≢◌, nat_le}

pub record Kind (R : Type 0) : Type 0 where
  pub modulus : ℕ  -- p: a base number is a whole number below it
  pub dimension : ℕ  -- D: an element is D base numbers
  pub limit : ℕ  -- K: the last of the roots
  pub zero : R
  pub one : R
  pub plus : R → R → R
  pub times : R → R → R
  pub minus : R → R
  pub inverse : R → Option R
  pub embed : ℕ → R  -- the element of a base number; a larger number is read modulo p
  pub x : R  -- an element has the coefficients of 1, x, .., x^(D-1)
  pub coefficients : R → List ℕ
  pub element : List ℕ → R  -- out of D coefficients
  pub shift : ℕ  -- g
  pub root : ℕ → ℕ  -- w(0) to w(K)

module _ {R : Type 0} (k : Kind R) where
  -- x times itself, n times
  abbrev pub pow : R → ℕ → R
  pow x zero = k.one
  pow x (suc n) = k.times x (pow x n)

  abbrev pub less : R → R → R
  less x y = k.plus x (k.minus y)

  -- some product with x is 1
  abbrev pub Invertible : R → Type 0
  Invertible x = (y : R) × (k.times x y ≡ k.one)

  -- what an offered inverse has to be
  abbrev pub Inverse : R → Option R → Type 0
  Inverse x None = (y : R) → k.times x y ≢ k.one
  Inverse x (Some y) = k.times x y ≡ k.one

  -- w(n) as an element
  abbrev pub root_of : ℕ → R
  root_of n = k.embed (k.root n)

  -- w(n) where there is one
  abbrev pub root_at : ℕ → Option R
  root_at n = cond (nat_le n k.limit) (Some (root_of n)) None

  -- y^i·c, y^(i+1)·d, .. of the values c, d, ..
  abbrev pub terms : R → ℕ → List R → List R
  terms y i [] = []
  terms y i (c ∷ cs) = k.times (pow y i) c ∷ terms y (suc i) cs

  abbrev pub total : List R → R
  total [] = k.zero
  total (v ∷ vs) = k.plus v (total vs)

  -- the polynomial with the coefficients cs, lowest first, at y
  abbrev pub evaluated : R → List R → R
  evaluated y cs = total (terms y 0 cs)

-- D base numbers, and nothing else
abbrev pub Canonical : {R : Type 0} → Kind R → List ℕ → Type 0
Canonical k cs = (length cs ≡ k.dimension) × All (λ c. c < k.modulus) cs

-- The ranges of a kind's numbers.
pub record Ranges {R : Type 0} (k : Kind R) : Type 0 where
  pub modulus_least : 257 ≤ k.modulus
  pub modulus_most : k.modulus < 2 ^ 31
  pub dimension_least : 1 ≤ k.dimension
  pub dimension_most : k.dimension ≤ 4
  pub limit_least : 5 ≤ k.limit
  pub limit_most : k.limit ≤ 27

-- Elements form a commutative ring.
pub record Ring {R : Type 0} (k : Kind R) : Type 0 where
  pub plus_comm : (x y : R) → k.plus x y ≡ k.plus y x
  pub plus_assoc : (x y z : R) → k.plus (k.plus x y) z ≡ k.plus x (k.plus y z)
  pub plus_zero : (x : R) → k.plus x k.zero ≡ x
  pub plus_minus : (x : R) → k.plus x (k.minus x) ≡ k.zero
  pub times_comm : (x y : R) → k.times x y ≡ k.times y x
  pub times_assoc : (x y z : R) → k.times (k.times x y) z ≡ k.times x (k.times y z)
  pub times_one : (x : R) → k.times x k.one ≡ x
  pub times_plus : (x y z : R) → k.times x (k.plus y z) ≡ k.plus (k.times x y) (k.times x z)

-- The element of a base number.
pub record Embeds {R : Type 0} (k : Kind R) : Type 0 where
  pub modulo : (n : ℕ) → k.embed (n % k.modulus) ≡ k.embed n
  pub one_to_one : (m n : ℕ) → m < k.modulus → n < k.modulus → k.embed m ≡ k.embed n → m ≡ n
  pub sums : (m n : ℕ) → m < k.modulus → n < k.modulus → k.embed ((m + n) % k.modulus) ≡ k.plus (k.embed m) (k.embed n)
  pub products : (m n : ℕ) → m < k.modulus → n < k.modulus → k.embed ((m * n) % k.modulus) ≡ k.times (k.embed m) (k.embed n)

-- An element is D base numbers, the coefficients of the powers of x.
pub record Coordinates {R : Type 0} (k : Kind R) : Type 0 where
  pub canonical : (v : R) → Canonical k (k.coefficients v)
  pub back : (v : R) → k.element (k.coefficients v) ≡ v
  pub forth : (cs : List ℕ) → Canonical k cs → k.coefficients (k.element cs) ≡ cs
  pub powers : (v : R) → v ≡ evaluated k k.x (map k.embed (k.coefficients v))

-- The shift has an inverse; the roots are square roots of one another, down to 1, and their powers lie apart.
pub record Roots {R : Type 0} (k : Kind R) : Type 0 where
  pub shift_below : k.shift < k.modulus
  pub shift_invertible : Invertible k (k.embed k.shift)
  pub root_below : (n : ℕ) → n ≤ k.limit → k.root n < k.modulus
  pub root_first : root_of k 0 ≡ k.one
  pub root_square : (n : ℕ) → n < k.limit → k.times (root_of k (suc n)) (root_of k (suc n)) ≡ root_of k n
  pub root_apart : (n i : ℕ) → n ≤ 5 → 0 < i → i < 2 ^ n → Invertible k (less k (pow k (root_of k n) i) k.one)

-- The laws of a field kind.
pub record Laws {R : Type 0} (k : Kind R) : Type 0 where
  pub ranges : Ranges k
  pub ring : Ring k
  pub embeds : Embeds k
  pub coordinates : Coordinates k
  -- a present inverse times its element is 1; it is absent exactly when no product with the element is 1
  pub inverses : (v : R) → Inverse k v (k.inverse v)
  pub roots : Roots k
