use Rattle.std.proofs.Common.{ap, ◌∙◌, inl}
use Rattle.script.specs.Pieces.{line_of}
use Rattle.script.specs.Rules.{rule_of}
use Rattle.script.proofs.Taking.{line_taken, line_refused}
use Rattle.script.proofs.whole.read_lines.Goals as goal

pub returns-in-Err-Refused : goal.returns-in-Err-Refused
returns-in-Err-Refused g c =
    let told = rw c.in-Err-Refused.field-0-is at c.in-Err-Refused.ensures in
    rw (c.script.ensures.error, c.in-Err-Refused.what-is)
    (inl (line_refused g.E.Field.kind line_of c.args.lines.now c.loop-i.i c.loop-i.reader c.loop-i.invariant _ _ _ c.loop-i-test.true
    (told.0 ∙ ap (rule_of g.E.Field.kind c.loop-i.reader) c.in_ok-words.ensures) (c.script.ensures.said ∙ told.1)))

pub loop-i-preserved : goal.loop-i-preserved
loop-i-preserved g c =
    line_taken g.E.Field.kind line_of c.args.lines.now c.loop-i.i c.loop-i.reader c.loop-i.invariant _ _ c.loop-i-test.true
    (c.in-Ok.ensures ∙ ap (rule_of g.E.Field.kind c.loop-i.reader) c.in_ok-words.ensures)
