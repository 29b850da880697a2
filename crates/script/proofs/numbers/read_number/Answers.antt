use Rattle.std.proofs.Common.{◌*◌, ◌^◌, ◌≤◌, arith}
use Rattle.std.proofs.lemmas.Grind.{common_steps}
use Rattle.script.proofs.Numbering.{number_read}
use Rattle.script.proofs.numbers.read_number.Goals as goal

pub returns-then-not-is_ascii_digit : goal.returns-then-not-is_ascii_digit
returns-then-not-is_ascii_digit c = grind (arith, common_steps, number_read)

pub returns-in_err-checked_mul : goal.returns-in_err-checked_mul
returns-in_err-checked_mul c =
    let far : 2 ^ 64 ≤ c.loop-byte.number * 10 = omega (arith, c.in_err-checked_mul.ensures) in
    grind (arith, common_steps, number_read)

pub returns-in_err-number : goal.returns-in_err-number
returns-in_err-number c = grind (arith, common_steps, number_read)

pub returns : goal.returns
returns c = grind (arith, common_steps, number_read)
