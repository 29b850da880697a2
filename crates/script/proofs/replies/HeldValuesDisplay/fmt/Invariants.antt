use Rattle.std.proofs.Common.{take, Some}
use Rattle.std.specs.Fmt.{HasWritten, IsPlainFormatter}
use Rattle.script.specs.Replies.{held_text_of}
use Rattle.script.proofs.replies.HeldValuesDisplay.fmt.Given as goal

abbrev pub invariant-loop-value : goal.invariant-loop-value
invariant-loop-value g l =
    IsPlainFormatter l.fn.f → HasWritten g.W.Write.write_str_gives l.fn.f (held_text_of g.E.Field.kind (Some (take l.value-index l.value-items))) l.f
