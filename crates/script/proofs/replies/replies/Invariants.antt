use Rattle.std.proofs.Common.{◌≡◌, ◌++◌, map, drop, None, vec_items, string_bytes}
use Rattle.script.specs.Replies.{replies_of, standing}
use Rattle.script.specs.Rules.{statement_view}
use Rattle.script.proofs.replies.replies.Given as goal

abbrev pub invariant-loop-statement : goal.invariant-loop-statement
invariant-loop-statement g l =
    map string_bytes (vec_items l.lines) ++ replies_of g.E.Field.kind (standing l.scheme) (map statement_view (drop l.statement-index l.statements))
    ≡ replies_of g.E.Field.kind None (map statement_view l.statements)
