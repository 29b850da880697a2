-- Numbers written with two digits to the base p, where the high one may itself be such a number. Assumes nothing.
use Rattle.std.specs.Prelude.{◌≡◌, ℕ, suc, ◌+◌, ◌*◌, ◌/◌, ◌%◌, ◌<◌, ◌≤◌}
use Rattle.std.proofs.Common.{ap, ◌∙◌, mod-eq_of_lt, zero-add, mul-suc, mul-le-mul_left, arith}
use Rattle.std.proofs.Math.Nat.{add-mul-mod_self_left, add-mul-div_left, div-eq_of_lt}

module _ (p low high : ℕ) (h : low < p) where
  pub low_digit : (low + p * high) % p ≡ low
  low_digit = add-mul-mod_self_left low p high ∙ mod-eq_of_lt h

  pub high_digit : (low + p * high) / p ≡ high
  high_digit = add-mul-div_left low high (omega arith) ∙ ap (λ n. n + high) (div-eq_of_lt h) ∙ zero-add high

  pub digits_below : (n : ℕ) → high < n → low + p * high < p * n
  digits_below n g =
      let most : p * suc high ≤ p * n = mul-le-mul_left p g in
      let more = mul-suc p high in
      omega arith
