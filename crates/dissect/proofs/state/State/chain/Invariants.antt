use Rattle.std.specs.Prelude.{ℕ}
use Rattle.dissect.specs.declared.state.State.{State}
use Rattle.dissect.specs.Stands.{HasRoom, HasSpace, AddsOneThenEnds}
use Rattle.dissect.specs.Walks.{IsTodoInside}
use Rattle.dissect.proofs.Chains.{Goes}
use Rattle.dissect.proofs.state.State.chain.Given as goal

-- the headers that are left lead where all of them do, and there is room for them
abbrev pub invariant-loop-todo : goal.invariant-loop-todo
invariant-loop-todo l = record {
  goes : Goes l.rules l.frame l.fn.most l.initial.self l.initial.tree l.fn.first l.left l.self l.tree l.todo;
  inside : IsTodoInside l.tree.buffers l.todo;
  adds : (before : State) (bytes : ℕ) → AddsOneThenEnds bytes before l.initial.self l.fn.first → AddsOneThenEnds bytes before l.self l.todo;
  room : HasRoom l.self l.todo;
  space : HasSpace l.left l.tree l.todo;
}

abbrev pub decreases-loop-todo : goal.decreases-loop-todo
decreases-loop-todo l = l.left
