-- Entries and the ends of their lists. Assumes nothing.
use Rattle.std.proofs.Common.{ℕ, ◌^◌, ◌<◌, ◌≤◌, mul-le-mul_right, one-mul, arith, pow_mono}
use Rattle.openings.specs.Coefficients.{EntryV, reach}

-- an entry of some columns of 2^bits numbers reaches past a list of fewer than 2^w
pub column_past : (e : EntryV) (len w : ℕ) → len < 2 ^ w → w ≤ e.bits → 0 < e.columns → len < reach e
column_past e len w short wide some = omega (arith, pow_mono wide, mul-le-mul_right (2 ^ e.bits) some, one-mul (2 ^ e.bits))
