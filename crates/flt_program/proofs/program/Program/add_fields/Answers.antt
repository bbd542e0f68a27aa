use Rattle.std.proofs.Common.{◌≡◌, ◌||◌, List, Some, ap, slice_get, subst, sym, ◌∙◌}
use Rattle.flt_program.specs.Programs.{Code}
use Rattle.flt_program.specs.Asked.{HasCode, asks_in}
use Rattle.flt_program.specs.declared.instr.Instr.{Instr}
use Rattle.pk_fields.specs.FieldSets.{is_in}
use Rattle.flt_program.proofs.program.Program.add_fields.Goals as goal

pub returns-clause-fields : goal.returns-clause-fields
unfolding HasCode
returns-clause-fields c = λ at i found.
    let same = c.as_slice.ensures.value ∙ ap (λ (code : Code). code.items) c.self.view_is in
    c.add_asked.ensures.fields at i (subst (λ (xs : List Instr). slice_get xs at ≡ Some i) (sym same) found)

pub returns-clause-added : goal.returns-clause-added
returns-clause-added c = λ f.
    let same = c.as_slice.ensures.value ∙ ap (λ (code : Code). code.items) c.self.view_is in
    c.add_asked.ensures.added f ∙ ap (λ (xs : List Instr). asks_in xs f || is_in c.args.set.now f) same
