use Rattle.std.proofs.Common.{◌≡◌, ◌++◌, codes, arith, sym, subst}
use Rattle.std.proofs.lemmas.Grind.{common_steps}
use Rattle.std.specs.Prelude.{OnOk}
use Rattle.serde_json.specs.Written.{compact_text}
use Rattle.out_json.specs.Heads.{made_head}
use Rattle.out_json.specs.Lines.{value_json}
use Rattle.out_json.proofs.Texts.{made_text}
use Rattle.out_json.proofs.writer.JsonWriter.put_made.Goals as goal

pub returns : goal.returns
returns c =
    let item = c.args.item.now in
    let written : OnOk c.put_byte.result (c.put_byte.new.self ≡ c.args.self.now.line ++ (made_head c.args.item.now.field ++ (compact_text (value_json item.field item.value) ++ codes "}"))) = grind (arith, common_steps) in
    subst (λ s. OnOk c.put_byte.result (c.put_byte.new.self ≡ c.args.self.now.line ++ s)) (sym (made_text c.args.item.now)) written
