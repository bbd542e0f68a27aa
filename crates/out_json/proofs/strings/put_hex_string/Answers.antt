use Rattle.std.proofs.Common.{◌≡◌, [], ◌∷◌, ◌++◌, arith, sym, subst}
use Rattle.std.specs.Prelude.{OnOk}
use Rattle.std.proofs.lemmas.Grind.{common_steps}
use Rattle.pk_text.specs.Digits.{hex_shown}
use Rattle.out_json.proofs.Texts.{hex_string}
use Rattle.out_json.proofs.strings.put_hex_string.Goals as goal

pub returns : goal.returns
returns c =
    let written : OnOk c.put_byte-2.result (c.put_byte-2.new.self ≡ c.args.line.now ++ (34 ∷ (hex_shown c.args.bytes.now ++ 34 ∷ []))) = grind (arith, common_steps) in
    subst (λ s. OnOk c.put_byte-2.result (c.put_byte-2.new.self ≡ c.args.line.now ++ s)) (sym (hex_string c.args.bytes.now)) written
