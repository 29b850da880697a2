use Rattle.std.proofs.Common.{◌≡◌, drop}
use Rattle.script.proofs.Numbering.{read_after}
use Rattle.script.proofs.numbers.read_number.Given as goal

abbrev pub invariant-loop-byte : goal.invariant-loop-byte
invariant-loop-byte l = read_after l.number (drop l.byte-index l.word) ≡ read_after 0 l.word
