use Rattle.std.proofs.Common.{◌≡◌, ◌++◌, true, drop, map}
use Rattle.serde_json.specs.View.{items_of}
use Rattle.serde_json.specs.Written.{items_text}
use Rattle.out_json.specs.Lines.{layer_json}
use Rattle.out_json.proofs.writer.JsonWriter.put_further_layers.Given as goal

abbrev pub invariant-loop-layer : goal.invariant-loop-layer
invariant-loop-layer l =
    l.self.line ++ items_text true (items_of (map layer_json (drop l.layer-index l.layers)))
    ≡ l.initial.self.line ++ items_text true (items_of (map layer_json l.layers))
