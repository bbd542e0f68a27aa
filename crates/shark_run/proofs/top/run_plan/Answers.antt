use Rattle.std.proofs.Common.{◌∙◌}
use Rattle.run_passes.specs.Reading.{frames_read}
use Rattle.shark_run.proofs.CalmLemmas.{tells_outcome, tells_starved, tells_still, unfit_told}
use Rattle.shark_run.proofs.CompleteLemmas.{complete_by}
use Rattle.shark_run.proofs.OutcomeLemmas.{ended_status, no_refusal, status_open, status_read, status_write, when_ended}
use Rattle.shark_run.proofs.ToldLemmas.{told, told_whole, told_nothing, whole_nothing, outcome_told}
use Rattle.shark_run.proofs.top.run_plan.Goals as goal

pub returns-in-Ok-outcome_text : goal.returns-in-Ok-outcome_text
returns-in-Ok-outcome_text g c =
    let o = c.carry_out-outcome.result in
    let s = c.status.result in
    let e = c.status.ensures in
    let w = c.carry_out-outcome.ensures in
    let text = c.bytes.ensures ∙ c.in-Ok-outcome_text.ensures.text c.args.plan.now c.in-Ok.ensures in
    record {
      no_refusal = no_refusal o s e;
      ended = ended_status o s _ _ (λ file. (frames_read c.args.plan.now file).ending) e w.ended;
      part = w.part;
      unopened = λ is. w.unopened (status_open o s e is);
      unread = λ is. w.unread (status_read o s e is);
      write_fault = λ is. w.write_fault (status_write o s e is);
      calm = tells_outcome o s _ _ _ _ _ _ e w.calm;
      taken = w.taken;
      begun_once = w.begun_once;
      so_far = λ is. w.so_far (status_read o s e is);
      near = λ is. w.near (status_write o s e is);
      full = when_ended o s _ e w.full;
      unfit = unfit_told o s _ e w.unfit;
      complete = complete_by c.args.plan.now (g.C.Capture.file c.args.capture.now) o s _ _ _ _ e w.ended (λ is. (w.unopened is).0.rose) (λ is. (w.unread is).rose) w.write_fault;
      told = told _ _ _ _ _ _ _ (outcome_told _ _ _ _ _ _ e text w.ended) c.tell.ensures.part;
      told_whole = λ calm fed. told_whole _ _ _ _ _ _ _ (outcome_told _ _ _ _ _ _ e text w.ended) (c.tell.ensures.whole calm fed);
    }

pub returns-in-Err-outcome_text-clause-told : goal.returns-in-Err-outcome_text-clause-told
returns-in-Err-outcome_text-clause-told g c = told_nothing _ _ _ _

pub returns-in-Err-outcome_text-clause-told_whole : goal.returns-in-Err-outcome_text-clause-told_whole
returns-in-Err-outcome_text-clause-told_whole g c = λ calm fed. whole_nothing _ _ _ _

pub returns-in-Err-outcome_text-clause-calm : goal.returns-in-Err-outcome_text-clause-calm
returns-in-Err-outcome_text-clause-calm g c = tells_starved c.carry_out-outcome.result _ _ _ _ _ _ _ c.in-Err-outcome_text.ensures.starved c.carry_out-outcome.ensures.calm

pub returns-in-Err-clause-calm : goal.returns-in-Err-clause-calm
returns-in-Err-clause-calm g c = tells_still _ _ _ _

pub returns-in-Err-clause-told : goal.returns-in-Err-clause-told
returns-in-Err-clause-told g c = told_nothing _ _ _ _

pub returns-in-Err-clause-told_whole : goal.returns-in-Err-clause-told_whole
returns-in-Err-clause-told_whole g c = λ calm fed. whole_nothing _ _ _ _
