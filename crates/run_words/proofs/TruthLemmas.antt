-- The programs of a filter's text let the trees through that satisfy it.
use Rattle.std.proofs.Common.{◌≡◌, ℕ, List, length, Option, None, Some, option_map, refl, sym, ◌∙◌, ap}
use Rattle.pk_tree.specs.Trees.{TreeShown}
use Rattle.flt_code.specs.Decides.{Agrees}
use Rattle.flt_typed.specs.declared.typed.Typed.{Typed}
use Rattle.flt_types.proofs.OneMeaning.{one_meaning}
use Rattle.flt_mean.specs.Meaning.{meaning}
use Rattle.flt_vm.proofs.VerdictLemmas.{computed_run}
use Rattle.flt_vm.specs.Machine.{start}
use Rattle.flt_vm.specs.Programs.{job_of as job_for}
use Rattle.flt_vm.specs.Verdicts.{verdict_of}
use Rattle.flt_vm.specs.declared.run.Verdict.{Verdict}
use Rattle.run_frames.specs.Compiled.{CompiledShown}
use Rattle.run_frames.specs.Satisfied.{decided, judged, satisfies}
use Rattle.run_words.specs.Laws.{LetsByMeaning}
use Rattle.run_words.specs.Plan.{IsFilterAsked, IsPlan}

-- where a program agrees with its filter, the filter's truth is decided
decides_meaning : (compiled : CompiledShown) (tree : TreeShown) (answer : Option Verdict) → verdict_of compiled.program compiled.filter tree ≡ answer
    → Agrees compiled.program compiled.filter → (decided answer (meaning compiled.filter tree)).holds ≡ meaning compiled.filter tree
unfolding verdict_of Agrees
decides_meaning compiled tree None is agrees = refl
decides_meaning compiled tree (Some verdict) is agrees =
    agrees tree verdict.steps verdict.holds
    (computed_run (job_for compiled.program compiled.filter tree) (start compiled.program.registers) (length compiled.program.items) verdict is)

satisfies_meaning : (compiled : CompiledShown) (tree : TreeShown) → Agrees compiled.program compiled.filter
    → satisfies (Some compiled) tree ≡ meaning compiled.filter tree
unfolding judged
satisfies_meaning compiled tree agrees =
    decides_meaning compiled tree (verdict_of compiled.program compiled.filter tree) refl agrees

-- the programs of a text let the same trees through
pub same_truth : (text : Option (List ℕ)) (one other : Option CompiledShown) (tree : TreeShown) → IsFilterAsked text one → IsFilterAsked text other
    → satisfies one tree ≡ satisfies other tree
same_truth None None None tree is also = refl
same_truth (Some text) (Some one) (Some other) tree is also =
    satisfies_meaning one tree is.2
    ∙ one_meaning text one.filter other.filter tree is.0 also.0
    ∙ sym (satisfies_meaning other tree also.2)
same_truth None (Some one) other tree is also = absurd is
same_truth None None (Some other) tree is also = absurd also
same_truth (Some text) None other tree is also = absurd is
same_truth (Some text) (Some one) None tree is also = absurd also

-- the programs of words let the trees through that satisfy their filter
let_by_meaning : (text : Option (List ℕ)) (chosen : Option CompiledShown) (filter : Typed) (tree : TreeShown) → IsFilterAsked text chosen
    → option_map (λ (compiled : CompiledShown). compiled.filter) chosen ≡ Some filter → satisfies chosen tree ≡ meaning filter tree
let_by_meaning text None filter tree asked is = absurd (cc is)
let_by_meaning None (Some compiled) filter tree asked is = absurd asked
let_by_meaning (Some text) (Some compiled) filter tree asked is =
    let same : compiled.filter ≡ filter = cc is in
    satisfies_meaning compiled tree asked.2 ∙ ap (λ (f : Typed). meaning f tree) same

pub lets_by_meaning : LetsByMeaning
unfolding IsPlan
lets_by_meaning words plan filter asked is tree = let_by_meaning asked.0.filter plan.chosen filter tree asked.2.chosen is
