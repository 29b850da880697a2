use Rattle.std.proofs.Common.{arith}
use Rattle.std.proofs.lemmas.Grind.{common_steps}
use Rattle.script.proofs.replies.replies.Goals as goal
use Rattle.script.proofs.replies.replies.Goals.{in-Clear, in-Open+in_ok-reply-in-Open+in_ok-push-in-Open}

pub loop-statement-preserved : goal.loop-statement-preserved
loop-statement-preserved g c =
    elim c.match-statement.branch [
      | in-Clear w ↦ grind (arith, common_steps)
      | in-Open+in_ok-reply-in-Open+in_ok-push-in-Open w ↦ grind (arith, common_steps)
    ]
