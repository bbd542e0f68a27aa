use Rattle.std.proofs.Common.{◌≡◌, List, length}
use Rattle.second_pass.specs.declared.messages.Message.{Message}
use Rattle.second_pass.specs.Messages.{layers_on}
use Rattle.second_pass.specs.Stands.{HasMessages}
use Rattle.second_pass.proofs.exchanges.Exchanges.note_layers.Given as goal

abbrev pub invariant-loop-left : goal.invariant-loop-left
invariant-loop-left l =
    (ms : List Message) → HasMessages ms l.initial.self
    → (now : List Message) × HasMessages now l.self × (layers_on l.frame l.at l.left now ≡ layers_on l.frame l.at l.initial.left ms)

abbrev pub decreases-loop-left : goal.decreases-loop-left
decreases-loop-left l = length l.left
