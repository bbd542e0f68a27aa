use Rattle.std.proofs.Common.{ℕ, List, Option, refl, subst}
use Rattle.pk_outside.proofs.Parts.{part_none}
use Rattle.shark_run.specs.Wrote.{HavePart}
use Rattle.shark_run.proofs.CauseLemmas.{none_rose}
use Rattle.shark_run.proofs.OutcomeLemmas.{ended_of, faults_of, read_failed, was_opened, write_failed}
use Rattle.shark_run.proofs.top.carry_out_generated.Goals as goal

pub returns : goal.returns
returns g c =
    let o = c.after_output.result in
    let r = c.write_output-ended.result in
    let e = c.after_output.ensures in
    let w = c.write_output-ended.ensures in
    record {
      ended = ended_of r o _ e (rw c.in-Ok.ensures at w.ended);
      part = subst (λ (told : Option (List ℕ)). HavePart c.args.plan.now told (g.O.Sink.written c.args.out.now) (g.O.Sink.written c.write_output-ended.new.out)) c.in-Ok.ensures w.part;
      opened = was_opened r o e;
      read = λ is. none_rose (read_failed r o _ e w.caused is).0;
      write_fault = λ is. (write_failed r o _ e w.caused is).0;
      calm = (faults_of r o 0 0 _ _ _ _ _ e refl refl w.caused w.calm).writes;
    }

pub returns-in-Err : goal.returns-in-Err
returns-in-Err g c = record {
  ended = tt;
  part = part_none _ _;
  opened = λ is. absurd (cc is);
  read = λ is. absurd (cc is);
  write_fault = λ is. absurd (cc is);
  calm = λ other. refl;
}
