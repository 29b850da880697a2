use Rattle.std.proofs.Common.{◌≡◌, ℕ, List, [], Option, Some, None, ap, subst}
use Rattle.script.specs.Values.{element_of}
use Rattle.script.proofs.Back.{element_back}
use Rattle.script.proofs.values.written_reads_back.Goals as goal

-- the text of an output, where there is one
abbrev shown : Option (List ℕ) → List ℕ
shown None = []
shown (Some text) = text

pub returns : goal.returns
returns g c e text is =
    let k = g.E.Field.kind in
    subst (λ t. element_of k t ≡ Some (Some e)) (ap shown is) (element_back k g.met.E.Field.lawful e)
