-- Products and remainders. Assumes nothing.
use Rattle.std.specs.Prelude.{◌≡◌, ℕ, ◌+◌, ◌*◌, ◌/◌, ◌%◌}
use Rattle.std.proofs.Common.{ap, sym, ◌∙◌, add-mul, mul_assoc, mul_comm}
use Rattle.std.proofs.Math.Nat.{mod-add-div, add-mul-mod_self_left}

pub mod_mul_mod : (a b m : ℕ) → ((a % m) * b) % m ≡ (a * b) % m
mod_mul_mod a b m =
    let e : a * b ≡ (a % m) * b + m * ((a / m) * b)
    = ap (λ n. n * b) (sym (mod-add-div a m)) ∙ add-mul (a % m) (m * (a / m)) b ∙ ap (λ n. (a % m) * b + n) (mul_assoc m (a / m) b) in
    sym (ap (λ n. n % m) e ∙ add-mul-mod_self_left ((a % m) * b) m ((a / m) * b))

pub mul_mod_mod : (a b m : ℕ) → (a * (b % m)) % m ≡ (a * b) % m
mul_mod_mod a b m = ap (λ n. n % m) (mul_comm a (b % m)) ∙ mod_mul_mod b a m ∙ ap (λ n. n % m) (mul_comm b a)
