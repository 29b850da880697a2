-- The steps of the Euclidean algorithm. Assumes nothing.
use Rattle.std.proofs.Common.{◌≡◌, ℕ, ◌+◌, ◌*◌, ◌/◌, ◌%◌, List, [], ◌∷◌, sym, ap, ◌∙◌, subst}
use native.Mathlib.Nat.{div-add-mod, dvd-mod_iff, dvd-add_iff_right, dvd-mul_right_of_dvd, eq-one_of_dvd-one}
use Rattle.elements.specs.Bear.{p, of, base}
use Rattle.elements.specs.declared.residue.Residue.{Residue}
use Rattle.elements.specs.BearProduct.{base_ring}
use Rattle.elements.specs.ResidueRing.{of_plus, of_times}
use Rattle.elements.specs.Solver.{var, sum, product, difference, solve}

-- a divides b
abbrev pub Divides : ℕ → ℕ → Type 0
Divides a b = ∥ ((c : ℕ) × (b ≡ a * c)) ∥₁

-- one turn keeps n·t = b
pub turn : (n a b : ℕ) (s t : Residue p) → base.times (of n) s ≡ of a → base.times (of n) t ≡ of b
    → base.times (of n) (base.plus s (base.minus (base.times (of (a / b)) t))) ≡ of (a % b)
turn n a b s t e f =
    let q = a / b in
    let ρ : List (Residue p) = of n ∷ s ∷ of q ∷ t ∷ of b ∷ of (a % b) ∷ [] in
    let split : of a ≡ base.plus (base.times (of b) (of q)) (of (a % b))
    = ap of (sym (div-add-mod a b)) ∙ of_plus p tt (b * q) (a % b) ∙ ap (λ x. base.plus x (of (a % b))) (of_times p tt b q) in
    solve base base_ring ρ
    (product (var 0) (difference (var 1) (product (var 2) (var 3))))
    (difference (product (var 0) (var 1)) (product (var 2) (product (var 0) (var 3)))) tt
    ∙ ap (λ x. base.plus x (base.minus (base.times (of q) (base.times (of n) t)))) (e ∙ split)
    ∙ ap (λ x. base.plus (base.plus (base.times (of b) (of q)) (of (a % b))) (base.minus (base.times (of q) x))) f
    ∙ solve base base_ring ρ (difference (sum (product (var 4) (var 2)) (var 5)) (product (var 2) (var 4))) (var 5) tt

pub divides : (d a b : ℕ) → Divides d b → Divides d (a % b) → Divides d a
divides d a b h g = (dvd-mod_iff d h).0 g

-- no product is 1 where a number but 1 divides both
pub no_inverse : (a n y : ℕ) → Divides a n → Divides a p → (a ≡ 1 → ⊥) → n * y % p ≡ 1 → ⊥
no_inverse a n y h g ne e =
    let m = p * (n * y / p) in
    let whole : m + 1 ≡ n * y = ap (λ z. m + z) (sym e) ∙ div-add-mod (n * y) p in
    let next : Divides a (m + 1) = subst (λ z. Divides a z) (sym whole) (dvd-mul_right_of_dvd a h y) in
    let o : Divides a 1 = (dvd-add_iff_right a (dvd-mul_right_of_dvd a g (n * y / p))).1 next in
    ne (eq-one_of_dvd-one o)
