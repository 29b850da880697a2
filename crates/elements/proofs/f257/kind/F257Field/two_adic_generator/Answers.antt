use Rattle.std.proofs.Common.{Some, ap, ◌∙◌}
use Rattle.elements.specs.Mod257.{of, f257}
use Rattle.elements.specs.ResidueRing.{same}
use Rattle.elements.specs.declared.f257.kind.TheConstants.{ROOTS}
use Rattle.elements.proofs.Tables.{root_entry}
use Rattle.elements.proofs.f257.kind.F257Field.two_adic_generator.Goals as goal

pub returns : goal.returns
returns c =
    let found = c.in_ok-root.ensures.lookup.3 in
    ap Some (same c.reduced.result (of c.from.result) c.reduced.ensures)
    ∙ root_entry f257 ROOTS c.args.bits c.from.result found.0 (c.from.ensures ∙ found.1 0) tt
