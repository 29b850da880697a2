use Rattle.std.proofs.Common.{ap, ◌∙◌, rules}
use Rattle.elements.specs.Bear.{babybear}
use Rattle.elements.specs.Kind.{Canonical}
use Rattle.elements.specs.BearLaws.{babybear_laws}
use Rattle.elements.proofs.babybear.kind.BabyBearField.from_coefficients.Goals as goal

pub returns-in-len4 : goal.returns-in-len4
returns-in-len4 c =
    let cs = c.args.offered.now in
    let canonical : Canonical babybear cs = search rules in
    (canonical, ap babybear.coefficients c.element.ensures ∙ babybear_laws.coordinates.forth cs canonical)
