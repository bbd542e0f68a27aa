use Rattle.std.proofs.Common.{◌≡◌, ◌∙◌, arith, refl}
use Rattle.pk_outside.proofs.Parts.{part_none}
use Rattle.run_frames.proofs.CalmLemmas.{calm_counted}
use Rattle.run_output.specs.Lines.{opening}
use Rattle.shark_run.proofs.CutLemmas.{some_bytes, write_caused}
use Rattle.shark_run.proofs.output.write_opening.Goals as goal

pub returns-in-Err : goal.returns-in-Err
returns-in-Err g c = record {
  whole = tt;
  part = part_none _ _;
  some = λ is. absurd (cc is);
  caused = refl;
  calm = tt;
  faults_stay = omega arith;
}

pub returns-in-Ok-written : goal.returns-in-Ok-written
returns-in-Ok-written g c =
    let same : c.as_slice.result.now ≡ opening c.args.plan.now = c.as_slice.ensures.value ∙ c.in-Ok.ensures in
    record {
      whole = rw same at c.in-Ok-written.ensures.whole;
      part = rw same at c.write_whole-written.ensures.part;
      some = λ is. absurd (cc is);
      caused = tt;
      calm = c.in-Ok-written.ensures.no_fault;
      faults_stay = c.write_whole-written.ensures.faults_stay;
    }

pub returns-in-Err-written : goal.returns-in-Err-written
returns-in-Err-written g c =
    let same : c.as_slice.result.now ≡ opening c.args.plan.now = c.as_slice.ensures.value ∙ c.in-Ok.ensures in
    record {
      whole = tt;
      part = rw same at c.write_whole-written.ensures.part;
      some = λ is. some_bytes (opening c.args.plan.now) (λ empty. let bad = (c.in-Err-written.ensures.empty (same ∙ empty)).0 in absurd (cc bad));
      caused = write_caused c.in-Err-written.fault c.run_fault.result _ _ _ c.run_fault.ensures refl c.in-Err-written.ensures.fault
          (calm_counted c.in-Err-written.fault _ _ _ _ c.in-Err-written.ensures.counts);
      calm = tt;
      faults_stay = c.write_whole-written.ensures.faults_stay;
    }
