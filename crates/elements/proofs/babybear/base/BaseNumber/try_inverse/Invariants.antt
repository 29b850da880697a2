use Rattle.std.proofs.Common.{◌≡◌, ℕ}
use Rattle.elements.specs.Bear.{base, of}
use Rattle.elements.proofs.Euclid.{Divides}
use Rattle.elements.proofs.babybear.base.BaseNumber.try_inverse.Given as goal

-- a and b are n·s and n·t, and what divides both divides n and the modulus
abbrev pub invariant-loop-b : goal.invariant-loop-b
invariant-loop-b l =
    (base.times (of l.initial.b) l.s ≡ of l.a) × (base.times (of l.initial.b) l.t ≡ of l.b)
    × ((d : ℕ) → Divides d l.a → Divides d l.b → Divides d l.initial.b × Divides d 2013265921)

abbrev pub decreases-loop-b : goal.decreases-loop-b
decreases-loop-b l = l.b
