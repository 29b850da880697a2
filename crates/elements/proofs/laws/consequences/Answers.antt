use Rattle.elements.proofs.Embedding.{embed_zero, embed_one}
use Rattle.elements.specs.Inverse.{divides_powers, divisor_invertible, inverse_present, inverse_unique}
use Rattle.elements.specs.KindRing.{ring_of}
use Rattle.elements.specs.RootFacts.{chain, minus_one, two_invertible, root_power, roots_apart}
use Rattle.elements.proofs.laws.consequences.Goals as goal

pub returns : goal.returns
returns g c =
    let k = g.E.Field.kind in
    let laws = g.met.E.Field.lawful in
    let l = ring_of k laws.ring in
    let roots = chain k laws in
    record {
      units = (embed_zero k laws, embed_one k laws);
      powers = divides_powers k l;
      divisor = divisor_invertible k l;
      present = inverse_present k;
      unique = inverse_unique k l;
      minus = minus_one k l roots;
      two = two_invertible k l roots;
      order = root_power k l roots;
      apart = roots_apart k l roots;
    }
