-- A test that passes at each number below a bound, computed at once. Assumes nothing.
use Rattle.std.specs.Prelude.{◌≡◌, ℕ, zero, suc, ◌<◌, Bool, true, false, ◌&&◌, T}
use Rattle.std.proofs.Common.{subst, sym, ⊎_elim, not-suc-le-zero, arith}
use Rattle.std.proofs.lemmas.Bool.{cases_eq}

pub both_left : (a b : Bool) → T (a && b) → T a
both_left true b t = tt
both_left false b t = t

pub both_right : (a b : Bool) → T (a && b) → T b
both_right true b t = t
both_right false b t = absurd t

-- passes, or the number is 0
abbrev pub unless_first : ℕ → Bool → Bool
unless_first zero b = true
unless_first (suc n) b = b

pub unless_first_passes : (n : ℕ) (b : Bool) → T (unless_first n b) → 0 < n → T b
unless_first_passes zero b t h = absurd (not-suc-le-zero h)
unless_first_passes (suc n) b t h = t

-- the test passes at each number below n
abbrev pub all_below : (ℕ → Bool) → ℕ → Bool
all_below passes zero = true
all_below passes (suc n) = passes n && all_below passes n

pub below_at : (passes : ℕ → Bool) (n m : ℕ) → T (all_below passes n) → m < n → T (passes m)
below_at passes zero m t h = absurd (not-suc-le-zero h)
below_at passes (suc n) m t h =
    ⊎_elim
    (λ (e : m ≡ n). subst (λ (i : ℕ). T (passes i)) (sym e) (both_left (passes n) (all_below passes n) t))
    (λ (ne : m ≡ n → ⊥). below_at passes n m (both_right (passes n) (all_below passes n) t) (omega arith))
    (cases_eq m n)
