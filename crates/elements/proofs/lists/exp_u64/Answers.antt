use Rattle.std.proofs.Common.{ap, ◌∙◌, arith}
use Rattle.elements.specs.Kind.{pow}
use Rattle.elements.specs.Operations.{operations}
use Rattle.elements.specs.KindRing.{ring_of}
use Rattle.elements.specs.Powers.{turn_odd, pow_even}
use Rattle.elements.specs.RingFacts.{one_times}
use Rattle.elements.proofs.lists.exp_u64.Goals as goal
use Rattle.elements.proofs.lists.exp_u64.Goals.{then-left-eq1, else-left-eq1}

pub loop-left-preserved : goal.loop-left-preserved
loop-left-preserved g c =
    let k = g.E.Field.kind in
    let r = ring_of k g.met.E.Field.lawful.ring in
    let b = c.loop-left.base in
    let n = c.loop-left.left in
    elim c.if-left-eq1.branch [
      | then-left-eq1 w ↦
          let e = turn_odd k r c.loop-left.power b n (omega arith) in cc
      | else-left-eq1 w ↦ let e = pow_even k r b n (omega arith) in cc
    ]

pub loop-left-init : goal.loop-left-init
loop-left-init g c =
    let k = g.E.Field.kind in
    let p = pow k c.args.x c.args.n in
    ap (λ a. k.times a p) c.one-power.ensures ∙ one_times (operations k) (ring_of k g.met.E.Field.lawful.ring) p
