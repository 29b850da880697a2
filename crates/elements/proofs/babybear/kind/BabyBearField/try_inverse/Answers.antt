use Rattle.elements.specs.Bear.{babybear}
use Rattle.elements.specs.BearLaws.{babybear_laws}
use Rattle.elements.specs.Inverse.{same_inverse}
use Rattle.elements.specs.KindRing.{ring_of}
use Rattle.elements.proofs.babybear.kind.BabyBearField.try_inverse.Goals as goal

pub returns : goal.returns
returns c =
    let a = c.args.self in
    same_inverse babybear (ring_of babybear babybear_laws.ring) a _ _ c.inverse.ensures (babybear_laws.inverses a)
