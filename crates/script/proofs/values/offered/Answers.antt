use Rattle.std.proofs.Common.{◌∙◌, ap}
use Rattle.std.specs.Result.{result_ok}
use Rattle.script.proofs.Offering.{offered_is, ok_again}
use Rattle.script.proofs.values.offered.Goals as goal

pub returns : goal.returns
returns g c = ap result_ok c.ok_or.ensures.value ∙ ok_again _ _ ∙ offered_is g.E.Field.kind g.met.E.Field.lawful _ _ c.from_coefficients.ensures
