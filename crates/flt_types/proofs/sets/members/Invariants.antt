use Rattle.std.proofs.Common.{List, ◌++◌, drop}
use Rattle.flt_syntax.specs.declared.fault.FilterError.{FilterError}
use Rattle.flt_typing.specs.Typing.{AreMembers}
use Rattle.flt_typed.specs.declared.typed.Member.{Member}
use Rattle.flt_types.specs.Faults.{IsAnswer, elements_faults}
use Rattle.flt_types.proofs.sets.members.Given as goal

abbrev pub invariant-loop-element : goal.invariant-loop-element
invariant-loop-element l = record {
  members : (ms : List Member) → AreMembers l.kind (drop l.element-index l.elements) ms → AreMembers l.kind l.elements (l.members.items ++ ms);
  rest : (e : FilterError) → IsAnswer (elements_faults l.kind (drop l.element-index l.elements)) e → IsAnswer (elements_faults l.kind l.elements) e;
}
