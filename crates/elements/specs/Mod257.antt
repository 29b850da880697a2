-- The kind F257: whole numbers below 257. Assumes nothing.
use Rattle.std.specs.Prelude.{ℕ, ◌-◌, ◌*◌, ◌%◌, [], ◌∷◌, nat_eq, slice_index}
use Rattle.std.specs.Option.{option_map}
use Rattle.elements.specs.Kind.{Kind}
use Rattle.elements.specs.Modulo.{residue, residues}
use Rattle.elements.specs.Numbers.{least, squared}
use Rattle.elements.specs.declared.residue.Residue.{Residue}

abbrev pub of : ℕ → Residue 257
of = residue 257 tt

abbrev pub f257 : Kind (Residue 257)
f257 = record {
  modulus = 257;
  dimension = 1;
  limit = 7;
  zero = of 0;
  one = of 1;
  plus = (residues 257 tt).plus;
  times = (residues 257 tt).times;
  minus = (residues 257 tt).minus;
  inverse = λ x. option_map of (least (λ n. nat_eq ((x.value * n) % 257) 1) 257);
  embed = of;
  x = of 1;
  coefficients = λ x. x.value ∷ [];
  element = λ cs. of (slice_index cs 0);
  shift = 3;
  root = λ n. squared 257 9 (7 - n);
}
