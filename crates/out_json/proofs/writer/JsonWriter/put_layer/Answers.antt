use Rattle.std.proofs.Common.{◌≡◌, false, ◌++◌, map, arith, sym, subst}
use Rattle.std.proofs.lemmas.Grind.{common_steps}
use Rattle.std.specs.Prelude.{OnOk}
use Rattle.serde_json.specs.View.{items_of}
use Rattle.serde_json.specs.Written.{items_text}
use Rattle.out_json.specs.Heads.{layer_head, layer_tail}
use Rattle.out_json.specs.Lines.{item_json}
use Rattle.out_json.proofs.Texts.{layer_text}
use Rattle.out_json.proofs.writer.JsonWriter.put_layer.Goals as goal

pub returns : goal.returns
returns c =
    let layer = c.args.layer.now in
    let items : c.put_items.new.self.line ≡ c.put_short.new.self ++ items_text false (items_of (map item_json layer.items)) =
    subst (λ items. c.put_items.new.self.line ≡ c.put_short.new.self ++ items_text false (items_of (map item_json items))) c.slice.ensures c.in_ok-put_items.ensures in
    let written : OnOk c.put_short-2.result (c.put_short-2.new.self ≡ c.args.self.now.line ++ (layer_head layer.span.buffer ++ (items_text false (items_of (map item_json layer.items)) ++ layer_tail layer.nth layer.span layer.proto))) = grind (arith, common_steps) in
    subst (λ s. OnOk c.put_short-2.result (c.put_short-2.new.self ≡ c.args.self.now.line ++ s)) (sym (layer_text layer)) written
