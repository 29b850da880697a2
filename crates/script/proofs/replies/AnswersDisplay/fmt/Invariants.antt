use Rattle.std.proofs.Common.{map, take, None, string_bytes}
use Rattle.std.specs.Fmt.{HasWritten, IsPlainFormatter}
use Rattle.script.specs.Replies.{answers_text_of}
use Rattle.script.proofs.replies.AnswersDisplay.fmt.Given as goal

abbrev pub invariant-loop-line : goal.invariant-loop-line
invariant-loop-line g l =
    IsPlainFormatter l.fn.f → HasWritten g.W.Write.write_str_gives l.fn.f (answers_text_of (map string_bytes (take l.line-index l.line-items)) None) l.f
