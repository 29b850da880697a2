use Rattle.std.proofs.Common.{Some, ap, ◌∙◌}
use Rattle.elements.specs.Bear.{babybear}
use Rattle.elements.specs.declared.babybear.kind.TheConstants.{ROOTS}
use Rattle.elements.proofs.Tables.{root_entry}
use Rattle.elements.proofs.babybear.kind.BabyBearField.two_adic_generator.Goals as goal

pub returns : goal.returns
returns c =
    let found = c.in_ok-root.ensures.lookup.3 in
    ap Some c.element.ensures ∙ root_entry babybear ROOTS c.args.bits c.from.result found.0 (c.from.ensures ∙ found.1 0) tt
