use Rattle.std.proofs.Common.{◌∙◌, Err, inl, ap, arith, refl}
use Rattle.std.proofs.lemmas.Result.{IfOk-weaker}
use Rattle.pk_outside.proofs.Parts.{part_none}
use Rattle.run_passes.proofs.WayLemmas.{took_begun}
use Rattle.shark_run.proofs.AnswerLemmas.{any_file}
use Rattle.shark_run.proofs.CauseLemmas.{unread}
use Rattle.shark_run.proofs.OutcomeLemmas.{ended_of, faults_of, read_failed, unbegun_ended, unbegun_open, unbegun_read, unbegun_starved, unbegun_written, was_opened, write_failed}
use Rattle.shark_run.proofs.top.carry_out_named.Goals as goal

pub returns-in-Ok : goal.returns-in-Ok
returns-in-Ok g c =
    let o = c.after_output.result in
    let r = c.write_output.result in
    let e = c.after_output.ensures in
    let w = c.write_output.ensures in
    record {
      ended = rw (← c.in-Ok.ensures.left) (ended_of r o _ e w.ended);
      part = rw (← c.in-Ok.ensures.left) w.part;
      unopened = λ is. absurd (was_opened r o e is);
      unread = λ is.
          unread (g.C.Capture.faults c.args.capture.now) (g.C.Capture.faults c.begin_file.new.capture) (g.C.Capture.faults c.write_output.new.capture)
          (g.C.Capture.begun c.args.capture.now) (g.C.Capture.begun c.begin_file.new.capture) (g.C.Capture.begun c.write_output.new.capture)
          (g.C.Capture.missed c.args.capture.now) (g.C.Capture.missed c.begin_file.new.capture) (g.C.Capture.missed c.write_output.new.capture)
          (g.C.Capture.asked c.begin_file.new.capture) (g.C.Capture.asked c.write_output.new.capture) c.args.name.now
          c.begin_file.ensures.faults c.in-Ok.ensures.begun c.in-Ok.ensures.not_missed c.in-Ok.ensures.asked
          (read_failed r o _ e w.caused is).0 w.stays;
      write_fault = λ is. (write_failed r o _ e w.caused is).0;
      calm = faults_of r o _ _ _ (g.C.Capture.faults c.begin_file.new.capture) _ _ _ e (w.stays.missed ∙ c.in-Ok.ensures.not_missed) c.begin_file.ensures.faults w.caused w.calm;
      taken = took_begun (g.C.Capture.file c.args.capture.now c.args.name.now) (g.C.Capture.left c.args.capture.now) (g.C.Capture.left c.begin_file.new.capture) (g.C.Capture.left c.write_output.new.capture)
          (g.C.Capture.begun c.args.capture.now) (g.C.Capture.begun c.begin_file.new.capture) (g.C.Capture.begun c.write_output.new.capture) c.in-Ok.ensures.left c.in-Ok.ensures.begun w.stays.begun w.took;
      begun_once = omega (arith, c.in-Ok.ensures.begun, c.write_output.ensures.stays.begun);
      so_far = λ is. rw (← c.in-Ok.ensures.left) (read_failed r o _ e w.broken is);
      near = λ is. rw (← c.in-Ok.ensures.left) (write_failed r o _ e w.broken is);
      full = rw (← c.in-Ok.ensures.left) (ended_of r o _ e (IfOk-weaker r _ _ (λ _ both. both.0) w.full));
      unfit = rw (← c.in-Ok.ensures.left) (ended_of r o _ e (IfOk-weaker r _ _ (λ _ both. both.1) w.full));
    }

pub returns-in-Err : goal.returns-in-Err
returns-in-Err g c =
    let o = c.unbegun.result in
    let f = c.in-Err.fault in
    let e = c.unbegun.ensures in
    record {
      ended = unbegun_ended f o _ e;
      part = any_file _ _ (λ file. part_none _ _);
      unopened = λ is. (c.in-Err.ensures.unopened (ap Err (unbegun_open f o e is)), refl);
      unread = λ is. absurd (unbegun_read f o e is);
      write_fault = λ is. absurd (unbegun_written f o e is);
      calm = record {
        missed = λ other. c.in-Err.ensures.starved (ap Err (unbegun_starved f o e other));
        reads = λ other. c.begin_file.ensures.faults;
        writes = λ other. refl;
      };
      taken = inl (c.in-Err.ensures.not_begun, c.in-Err.ensures.left_err);
      begun_once = omega (arith, c.in-Err.ensures.not_begun);
      so_far = λ is. absurd (unbegun_read f o e is);
      near = λ is. absurd (unbegun_written f o e is);
      full = unbegun_ended f o _ e;
      unfit = unbegun_ended f o _ e;
    }
