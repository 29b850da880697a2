use Rattle.std.proofs.Common.{sym, ap, ◌∙◌, arith}
use Rattle.std.specs.Option.{option_map}
use Rattle.std.proofs.lemmas.Grind.{common_steps}
use Rattle.std.proofs.lemmas.List.{length-take-le}
use Rattle.script.proofs.Hexing.{decoded, filled}
use Rattle.script.proofs.hexadecimal.hex_bytes.Goals as goal

pub returns-in_err-ok : goal.returns-in_err-ok
returns-in_err-ok c =
    let read = decoded c.args.word.now _ (length-take-le _ _ (omega arith)) c.decode_to_slice.new.out c.decode_to_slice.result c.decode_to_slice.ensures.value in
    grind (arith, common_steps, read)

pub returns : goal.returns
returns c =
    let new = c.decode_to_slice.new.out in
    let read = decoded c.args.word.now _ (length-take-le _ _ (omega arith)) new c.decode_to_slice.result c.decode_to_slice.ensures.value in
    filled c.args.word.now new (omega arith) (c.decode_to_slice.auto.out ∙ length-take-le _ _ (omega arith))
    (read ∙ ap (option_map (λ _. new)) (sym c.ok.ensures.value ∙ c.in_ok-ok.was))
