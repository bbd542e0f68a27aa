use Rattle.std.proofs.Common.{◌≡◌, ◌++◌, true, drop, map}
use Rattle.serde_json.specs.View.{items_of}
use Rattle.serde_json.specs.Written.{items_text}
use Rattle.out_json.specs.Lines.{buffer_json}
use Rattle.out_json.proofs.writer.put_buffers.Given as goal

abbrev pub invariant-loop-number : goal.invariant-loop-number
invariant-loop-number l =
    l.line ++ items_text true (items_of (map buffer_json (drop l.number l.buffers)))
    ≡ l.initial.line ++ items_text true (items_of (map buffer_json (drop 1 l.buffers)))
