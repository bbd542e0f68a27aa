use Rattle.std.proofs.Common.{◌≤◌, List, None, ap, length, replicate, subst, ◌∙◌}
use Rattle.std.proofs.lemmas.Option.{IfSome_then}
use Rattle.std.proofs.lemmas.Result.{IfOk-weaker}
use Rattle.flt_vm.proofs.RunLemmas.{from_start, runs_from_start}
use Rattle.flt_vm.specs.Programs.{Ready}
use Rattle.flt_program.specs.declared.instr.Instr.{Instr}
use Rattle.flt_vm.proofs.machine.Machine.answer.Goals as goal

pub run_code-requires-clause-run : goal.run_code-requires-clause-run
run_code-requires-clause-run c = λ known.
    let ready = c.args.self.now in
    let size = ap length c.as_mut_slice-slots.ensures.value ∙ c.self.invariant ∙ ap (λ (m : Ready). m.code.registers) c.self.view_is in
    let by_code = c.code.ensures.code ∙ ap (λ (m : Ready). m.code.items) c.self.view_is in
    let by_patterns = c.deref_mut.ensures.value ∙ ap (λ (m : Ready). m.patterns) c.self.view_is in
    runs_from_start ready.code.items c.code.result.now ready.patterns c.deref_mut.result.now c.args.source.now c.unset.new.slots ready.code.registers by_code by_patterns
    (c.unset.ensures.unset c.args.source.now ∙ ap (λ n. replicate n None) size) (c.requires known)

pub returns-clause-verdict : goal.returns-clause-verdict
returns-clause-verdict c =
    let tree = c.args.source.now in
    let ready = c.args.self.now in
    let size = ap length c.as_mut_slice-slots.ensures.value ∙ c.self.invariant ∙ ap (λ (m : Ready). m.code.registers) c.self.view_is in
    let by_code = c.code.ensures.code ∙ ap (λ (m : Ready). m.code.items) c.self.view_is in
    let by_patterns = c.deref_mut.ensures.value ∙ ap (λ (m : Ready). m.patterns) c.self.view_is in
    IfOk-weaker c.run_code.result _ _ (λ answer is. IfSome_then answer is (λ v each steps flag run. each steps flag
    (from_start ready.code.items c.code.result.now ready.patterns c.deref_mut.result.now tree c.unset.new.slots ready.code.registers steps flag by_code by_patterns
    (c.unset.ensures.unset tree ∙ ap (λ n. replicate n None) size) run))) c.run_code.ensures.verdict

pub returns-clause-few : goal.returns-clause-few
returns-clause-few c =
    let by_code = c.code.ensures.code ∙ ap (λ (m : Ready). m.code.items) c.self.view_is in
    IfOk-weaker c.run_code.result _ _ (λ answer few. IfSome_then answer few (λ v n. subst (λ (xs : List Instr). v.steps ≤ length xs) by_code n)) c.run_code.ensures.few

pub returns-clause-answers : goal.returns-clause-answers
returns-clause-answers c = λ run.
    let ready = c.args.self.now in
    let size = ap length c.as_mut_slice-slots.ensures.value ∙ c.self.invariant ∙ ap (λ (m : Ready). m.code.registers) c.self.view_is in
    let by_code = c.code.ensures.code ∙ ap (λ (m : Ready). m.code.items) c.self.view_is in
    let by_patterns = c.deref_mut.ensures.value ∙ ap (λ (m : Ready). m.patterns) c.self.view_is in
    c.run_code.ensures.answers
    (runs_from_start ready.code.items c.code.result.now ready.patterns c.deref_mut.result.now c.args.source.now c.unset.new.slots ready.code.registers by_code by_patterns
    (c.unset.ensures.unset c.args.source.now ∙ ap (λ n. replicate n None) size) run)
