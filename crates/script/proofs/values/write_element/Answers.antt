use Rattle.script.proofs.ReadBack.{wrote}
use Rattle.script.proofs.Back.{element_back}
use Rattle.script.proofs.values.write_element.Goals as goal

pub returns-clause-wrote : goal.returns-clause-wrote
returns-clause-wrote g c =
    wrote c.add.result _ _ _ _ c.add.ensures.added (element_back g.E.Field.kind g.met.E.Field.lawful c.args.element)
