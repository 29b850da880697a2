use Rattle.std.proofs.Common.{◌≡◌}
use Rattle.elements.specs.Kind.{pow}
use Rattle.elements.proofs.lists.exp_u64.Given as goal

-- the power so far, times what is left of it, is the power asked for
abbrev pub invariant-loop-left : goal.invariant-loop-left
invariant-loop-left g l = let k = g.E.Field.kind in k.times l.power (pow k l.base l.left) ≡ pow k l.initial.base l.initial.left

abbrev pub decreases-loop-left : goal.decreases-loop-left
decreases-loop-left g l = l.left
