use Rattle.std.proofs.Common.{◌≡◌, ◌++◌, true, drop, map}
use Rattle.serde_json.specs.View.{items_of}
use Rattle.serde_json.specs.Written.{items_text}
use Rattle.out_json.specs.Lines.{item_json}
use Rattle.out_json.proofs.writer.JsonWriter.put_further_items.Given as goal

abbrev pub invariant-loop-item : goal.invariant-loop-item
invariant-loop-item l =
    l.self.line ++ items_text true (items_of (map item_json (drop l.item-index l.items)))
    ≡ l.initial.self.line ++ items_text true (items_of (map item_json l.items))
