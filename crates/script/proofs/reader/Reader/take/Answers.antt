use Rattle.std.proofs.Common.{sym, ◌∙◌}
use Rattle.script.proofs.Stepping.{between, within}
use Rattle.script.proofs.reader.Reader.take.Goals as goal

pub returns-in-None : goal.returns-in-None
returns-in-None g c =
    rw (← c.self.view_is)
    (between g.E.Field.kind _ c.take.new.self c.args.words.now _ _ (sym c.is_empty.ensures ∙ c.if-is_empty.false) c.if-is_none.ensures
    (sym c.take.ensures.value ∙ c.in-None.is) c.take.ensures.after c.outer_line.ensures)

pub returns-in-Some : goal.returns-in-Some
returns-in-Some g c =
    rw (← c.self.view_is)
    (within g.E.Field.kind _ c.take.new.self c.args.words.now _ _ (sym c.is_empty.ensures ∙ c.if-is_empty.false) c.if-is_none.ensures
    c.in-Some.clear (sym c.take.ensures.value ∙ c.in-Some.is) c.block_line.ensures)
