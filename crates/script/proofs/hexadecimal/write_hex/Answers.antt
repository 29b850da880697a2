use Rattle.std.proofs.Common.{◌≡◌, ◌++◌, arith, ◌∙◌, subst}
use Rattle.std.proofs.lemmas.Grind.{common_steps}
use Rattle.std.specs.Prelude.{OnOk, string_bytes}
use Rattle.hex.specs.Hex.{encode_lower}
use Rattle.script.specs.Hexadecimal.{hex_of}
use Rattle.script.proofs.Hexing.{all_bytes, bytes_back, digits_text, encoded}
use Rattle.script.proofs.ReadBack.{wrote}
use Rattle.script.proofs.hexadecimal.write_hex.Goals as goal

pub unwrap-text-requires : goal.unwrap-text-requires
unwrap-text-requires c =
    let written = subst (λ r. OnOk r (c.encode_to_slice.new.output ≡ encode_lower c.args.bytes.now)) c.unwrap.ensures c.encode_to_slice.ensures.written in
    let text = digits_text c.args.bytes.now in
    let cases = c.from_utf8.ensures.cases in
    grind (arith, common_steps)

pub returns-clause-wrote : goal.returns-clause-wrote
returns-clause-wrote c =
    let bytes = c.args.bytes.now in
    let written = subst (λ r. OnOk r (c.encode_to_slice.new.output ≡ encode_lower bytes)) c.unwrap.ensures c.encode_to_slice.ensures.written in
    let cases = c.from_utf8.ensures.cases in
    let shown : c.unwrap-text.result.now ≡ encode_lower bytes = grind (arith, common_steps) in
    let added : OnOk c.push_str.result (string_bytes c.push_str.new.self ≡ string_bytes c.args.out.now ++ c.unwrap-text.result.now)
    = grind (arith, common_steps) in
    let digits = shown ∙ encoded bytes (all_bytes bytes c.fits-bytes) in
    wrote c.push_str.result _ _ _ _
    (subst (λ text. OnOk c.push_str.result (string_bytes c.push_str.new.self ≡ string_bytes c.args.out.now ++ text)) digits added)
    (bytes_back bytes c.fits-bytes c.told-bytes)
