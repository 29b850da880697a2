use Rattle.std.proofs.Common.{map, vec_items, ap, ◌∙◌}
use Rattle.script.specs.Pieces.{line_of, words_of}
use Rattle.script.proofs.Taking.{map-line_of}
use Rattle.script.proofs.whole.read.Goals as goal

pub returns : goal.returns
returns g c =
    let lines = ap (map line_of) c.as_slice.ensures.value ∙ map-line_of (vec_items c.in_ok-lines.lines) ∙ ap (map words_of) c.in_ok-lines.ensures in
    rw (← lines) c.read_lines.ensures
