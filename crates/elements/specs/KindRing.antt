-- The ring of a kind and the ring of its operations keep the same laws. Assumes nothing.
use Rattle.elements.specs.Kind.{Kind, Ring}
use Rattle.elements.specs.Operations.{CommutativeRing, operations}

module _ {R : Type 0} (k : Kind R) where
  pub ring_of : Ring k → CommutativeRing (operations k)
  ring_of l = record {
    plus_comm = l.plus_comm;
    plus_assoc = l.plus_assoc;
    plus_zero = l.plus_zero;
    plus_minus = l.plus_minus;
    times_comm = l.times_comm;
    times_assoc = l.times_assoc;
    times_one = l.times_one;
    times_plus = l.times_plus;
  }

  pub ring_kept : CommutativeRing (operations k) → Ring k
  ring_kept l = record {
    plus_comm = l.plus_comm;
    plus_assoc = l.plus_assoc;
    plus_zero = l.plus_zero;
    plus_minus = l.plus_minus;
    times_comm = l.times_comm;
    times_assoc = l.times_assoc;
    times_one = l.times_one;
    times_plus = l.times_plus;
  }
