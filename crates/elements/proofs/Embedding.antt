-- The elements of 0 and 1. Assumes nothing.
use Rattle.std.proofs.Common.{◌≡◌, ◌%◌, sym, ap, ◌∙◌, mod-eq_of_lt, one-mul, arith}
use Rattle.elements.specs.Kind.{Kind, Laws}
use Rattle.elements.specs.Operations.{operations}
use Rattle.elements.specs.KindRing.{ring_of}
use Rattle.elements.specs.RingFacts.{minus_plus_cancel}

module _ {R : Type 0} (k : Kind R) (laws : Laws k) where
  -- e(0) + e(0) is e(0)
  pub embed_zero : k.embed 0 ≡ k.zero
  embed_zero =
      let p = laws.ranges.modulus_least in
      let z = k.embed 0 in
      let l = ring_of k laws.ring in
      let twice : z ≡ k.plus z z = ap k.embed (sym (mod-eq_of_lt {n = 0} (omega arith))) ∙ laws.embeds.sums 0 0 (omega arith) (omega arith) in
      sym (minus_plus_cancel (operations k) l z z) ∙ ap (k.plus (k.minus z)) (sym twice) ∙ l.plus_comm (k.minus z) z ∙ l.plus_minus z

  -- e(1)·e(w(0)) is e(w(0)), and that is 1
  pub embed_one : k.embed 1 ≡ k.one
  embed_one =
      let p = laws.ranges.modulus_least in
      let w = k.root 0 in
      let below = laws.roots.root_below 0 (omega arith) in
      let first = laws.roots.root_first in
      sym (laws.ring.times_one (k.embed 1)) ∙ ap (k.times (k.embed 1)) (sym first)
      ∙ sym (laws.embeds.products 1 w (omega arith) below)
      ∙ ap k.embed (ap (λ n. n % k.modulus) (one-mul w) ∙ mod-eq_of_lt below) ∙ first
