use Rattle.std.proofs.Common.{inl, inr, arith, refl, sym, subst}
use Rattle.shark_words.specs.Words.{texts}
use Rattle.run_frames.specs.declared.plan.Plan.{Plan}
use Rattle.run_words.specs.declared.refused.Refused.{Refused}
use Rattle.shark_run.specs.Told.{IsNone, IsSame}
use Rattle.run_words.specs.Plan.{IsPlan, IsRefusal}
use Rattle.run_words.proofs.PlanLemmas.{reason_given, refused_not_planned}
use Rattle.shark_run.proofs.AnswerLemmas.{complete_refused, refused_or_none}
use Rattle.shark_run.proofs.HeadlineLemmas.{not_both, planned, refused_so, starved}
use Rattle.shark_run.proofs.CalmLemmas.{tells_still}
use Rattle.shark_run.proofs.LawLemmas.{complete_planned}
use Rattle.shark_run.proofs.OutcomeLemmas.{IsNoRun, no_run, no_run_ended, refusing_by, when_more}
use Rattle.shark_run.proofs.ToldLemmas.{told_more, whole_more, told_nothing, whole_nothing}
use Rattle.shark_run.proofs.top.run.Goals as goal

-- `refusing`, `unread`, `write_fault` and `full` are left to the tactic, so that a body which always gives one answer is refused by them
pub returns-in-Ok-clause-headline : goal.returns-in-Ok-clause-headline
returns-in-Ok-clause-headline g c =
    planned (texts c.args.words.now) c.in-Ok.plan (g.C.Capture.file c.args.capture.now) c.run_plan.result _ _ _ _
    c.in-Ok.ensures.ok c.run_plan.ensures.no_refusal c.run_plan.ensures.ended c.run_plan.ensures.part
    (told_more (IsSame c.in-Ok.plan) (IsPlan (texts c.args.words.now)) IsNone (IsRefusal (texts c.args.words.now)) _ _ _ _
    (λ plan same. subst (λ (p : Plan). IsPlan (texts c.args.words.now) p) (sym same) c.in-Ok.ensures.ok) (λ reason none. absurd none) c.run_plan.ensures.told)

pub returns-in-Ok-clause-untouched : goal.returns-in-Ok-clause-untouched
returns-in-Ok-clause-untouched g c = λ refusing. not_both c.run_plan.result _ c.run_plan.ensures.no_refusal refusing

pub returns-in-Ok-clause-refused : goal.returns-in-Ok-clause-refused
returns-in-Ok-clause-refused g c = λ reason given sure. absurd (refused_not_planned _ _ reason c.in-Ok.ensures.ok given sure)

pub returns-in-Ok-clause-refused_untouched : goal.returns-in-Ok-clause-refused_untouched
returns-in-Ok-clause-refused_untouched g c = λ reason given sure. absurd (refused_not_planned _ _ reason c.in-Ok.ensures.ok given sure)

pub returns-in-Ok-clause-ended : goal.returns-in-Ok-clause-ended
returns-in-Ok-clause-ended g c = when_more c.run_plan.result _ _ (λ whole. (c.in-Ok.plan, c.in-Ok.ensures.ok, whole)) c.run_plan.ensures.ended

pub returns-in-Ok-clause-part : goal.returns-in-Ok-clause-part
returns-in-Ok-clause-part g c = inr (c.in-Ok.plan, c.in-Ok.ensures.ok, c.run_plan.ensures.part)

pub returns-in-Ok-clause-unopened : goal.returns-in-Ok-clause-unopened
returns-in-Ok-clause-unopened g c = λ same. (c.in-Ok.plan, c.in-Ok.ensures.ok, (c.run_plan.ensures.unopened same).0, (c.run_plan.ensures.unopened same).1)

pub returns-in-Ok-clause-calm : goal.returns-in-Ok-clause-calm
returns-in-Ok-clause-calm g c = c.run_plan.ensures.calm

pub returns-in-Ok-clause-taken : goal.returns-in-Ok-clause-taken
returns-in-Ok-clause-taken g c = inr (c.in-Ok.plan, c.in-Ok.ensures.ok, c.run_plan.ensures.taken)

pub returns-in-Ok-clause-begun_once : goal.returns-in-Ok-clause-begun_once
returns-in-Ok-clause-begun_once g c = c.run_plan.ensures.begun_once

pub returns-in-Ok-clause-so_far : goal.returns-in-Ok-clause-so_far
returns-in-Ok-clause-so_far g c = λ same. (c.in-Ok.plan, c.in-Ok.ensures.ok, c.run_plan.ensures.so_far same)

pub returns-in-Ok-clause-near : goal.returns-in-Ok-clause-near
returns-in-Ok-clause-near g c = λ same. (c.in-Ok.plan, c.in-Ok.ensures.ok, c.run_plan.ensures.near same)

pub returns-in-Ok-clause-unfit : goal.returns-in-Ok-clause-unfit
returns-in-Ok-clause-unfit g c = λ same. (c.in-Ok.plan, c.in-Ok.ensures.ok, c.run_plan.ensures.unfit same)

pub returns-in-Ok-clause-complete : goal.returns-in-Ok-clause-complete
returns-in-Ok-clause-complete g c = λ plan asked.
    complete_planned (texts c.args.words.now) c.in-Ok.plan plan (g.C.Capture.file c.args.capture.now) c.run_plan.result _ _ _ c.in-Ok.ensures.ok asked c.run_plan.ensures.complete

pub returns-in-Ok-clause-told : goal.returns-in-Ok-clause-told
returns-in-Ok-clause-told g c =
    told_more (IsSame c.in-Ok.plan) (IsPlan (texts c.args.words.now)) IsNone (IsRefusal (texts c.args.words.now)) _ _ _ _
    (λ plan same. subst (λ (p : Plan). IsPlan (texts c.args.words.now) p) (sym same) c.in-Ok.ensures.ok) (λ reason none. absurd none) c.run_plan.ensures.told

pub returns-in-Ok-clause-told_whole : goal.returns-in-Ok-clause-told_whole
returns-in-Ok-clause-told_whole g c = λ calm fed. whole_more (IsSame c.in-Ok.plan) (IsPlan (texts c.args.words.now)) IsNone (IsRefusal (texts c.args.words.now)) _ _ _ _
    (λ plan same. subst (λ (p : Plan). IsPlan (texts c.args.words.now) p) (sym same) c.in-Ok.ensures.ok) (λ reason none. absurd none) (c.run_plan.ensures.told_whole calm fed)

pub returns-in-Err-Refused : goal.returns-in-Err-Refused
returns-in-Err-Refused g c =
    let reason = c.in-Err-Refused.refused in
    let given = reason_given _ _ _ c.in-Err-Refused.field-0-is c.in-Err-Refused.ensures.err in
    let none = no_run c.in-Err-Refused.refused c.refuse-status.result c.refuse-status.ensures.status in
    let told = told_more IsNone (IsPlan (texts c.args.words.now)) (IsSame c.in-Err-Refused.refused) (IsRefusal (texts c.args.words.now)) _ _ _ _
    (λ plan none. absurd none) (λ reason same. subst (λ (r : Refused). IsRefusal (texts c.args.words.now) r) (sym same) (reason_given _ _ _ c.in-Err-Refused.field-0-is c.in-Err-Refused.ensures.err)) (c.refuse-status.ensures.told (g.C.Capture.file c.args.capture.now)) in
    record {
      headline = refused_so (texts c.args.words.now) reason (g.C.Capture.file c.args.capture.now) c.refuse-status.result _ _ _ _ given c.refuse-status.ensures.status refl told;
      refusing = λ refusing. refusing_by (IsRefusal (texts c.args.words.now)) reason c.refuse-status.result given c.refuse-status.ensures.status refusing;
      untouched = λ refusing. (refl, refl);
      refused = λ other is sure. refused_or_none _ other _ _ sure is given c.refuse-status.ensures.status;
      refused_untouched = λ other is sure. (refl, refl);
      ended = no_run_ended c.refuse-status.result _ none;
      part = inl refl;
      unopened = λ same. absurd (subst IsNoRun same none);
      unread = λ same. absurd (subst IsNoRun same none);
      write_fault = λ same. absurd (subst IsNoRun same none);
      calm = tells_still _ _ _ _;
      taken = inl refl;
      begun_once = omega arith;
      so_far = λ same. absurd (subst IsNoRun same none);
      near = λ same. absurd (subst IsNoRun same none);
      full = no_run_ended c.refuse-status.result _ none;
      unfit = λ same. absurd (subst IsNoRun same none);
      complete = λ plan asked. complete_refused (texts c.args.words.now) plan reason (g.C.Capture.file c.args.capture.now) c.refuse-status.result _ _ _ asked given c.refuse-status.ensures.status;
      told = told;
      told_whole = λ calm fed. whole_more IsNone (IsPlan (texts c.args.words.now)) (IsSame c.in-Err-Refused.refused) (IsRefusal (texts c.args.words.now)) _ _ _ _
          (λ plan none. absurd none) (λ reason same. subst (λ (r : Refused). IsRefusal (texts c.args.words.now) r) (sym same) (reason_given _ _ _ c.in-Err-Refused.field-0-is c.in-Err-Refused.ensures.err)) (c.refuse-status.ensures.told_whole _ calm fed);
    }

pub returns-in-Err-NoMemory-clause-told : goal.returns-in-Err-NoMemory-clause-told
returns-in-Err-NoMemory-clause-told g c = told_nothing _ _ _ _

pub returns-in-Err-NoMemory-clause-told_whole : goal.returns-in-Err-NoMemory-clause-told_whole
returns-in-Err-NoMemory-clause-told_whole g c = λ calm fed. whole_nothing _ _ _ _

pub returns-in-Err-NoMemory-clause-headline : goal.returns-in-Err-NoMemory-clause-headline
returns-in-Err-NoMemory-clause-headline g c = starved _ _ _ _ _ _ refl (told_nothing _ _ _ _)

pub returns-in-Err-NoMemory-clause-calm : goal.returns-in-Err-NoMemory-clause-calm
returns-in-Err-NoMemory-clause-calm g c = tells_still _ _ _ _
