-- Searches and powers among whole numbers. Assumes nothing.
use Rattle.std.specs.Prelude.{ℕ, zero, suc, ◌*◌, ◌%◌, Bool, cond, Some, None, Option}

abbrev pub or_else : {X : Type 0} → Option X → Option X → Option X
or_else None y = y
or_else (Some x) y = Some x

-- the least number below n that passes
abbrev pub least : (ℕ → Bool) → ℕ → Option ℕ
least passes zero = None
least passes (suc n) = or_else (least passes n) (cond (passes n) (Some n) None)

-- y squared n times modulo p
abbrev pub squared : ℕ → ℕ → ℕ → ℕ
squared p y zero = y
squared p y (suc n) = (squared p y n * squared p y n) % p

-- the same number, squared first and counted down after: it is computed in n steps
abbrev pub squared_onward : ℕ → ℕ → ℕ → ℕ
squared_onward p y zero = y
squared_onward p y (suc n) = squared_onward p ((y * y) % p) n
