use Rattle.std.proofs.Common.{ℕ, List, Err, inl, refl, ap, subst, ◌∙◌, ◌+◌, length, take, false, arith}
use Rattle.std.proofs.lemmas.List.{take_all}
use Rattle.merge_caps.specs.Reading.{so_far}
use Rattle.merge_caps.specs.Stopped.{Seen}
use Rattle.merge_caps.proofs.FilesSteps.{IsReadOf, cause_is, judged, large_next, left_next, little_first, reads_next, small_first, small_more}
use Rattle.merge_caps.proofs.read_files.read_files.Goals as goal

pub loop-place-init : goal.loop-place-init
loop-place-init g c = record {
  read = λ i. record { entries = c.new.ensures.items i; endings = c.new-2.ensures.items i; captured = 0 };
  small = small_first (g.C.Capture.file c.args.capture.now) c.args.names.now;
  little = little_first (record { entries = c.new.result.items; endings = c.new-2.result.items; captured = 0 }) c.new-2.ensures.items refl;
  ends = ap length c.new-2.ensures.items;
  left = inl refl;
  file = λ n. refl;
  begun = omega arith;
  few = omega arith;
  missed = refl;
  faults = refl;
}

pub returns-in-Err-clause-stopped : goal.returns-in-Err-clause-stopped
returns-in-Err-clause-stopped g c =
    let old : Seen = record {
      tell = g.C.Capture.file c.args.capture.now;
      asked = g.C.Capture.asked c.args.capture.now;
      refused = g.C.Capture.refused c.args.capture.now;
      begun = g.C.Capture.begun c.args.capture.now;
      missed = g.C.Capture.missed c.args.capture.now;
      faults = g.C.Capture.faults c.args.capture.now;
    } in
    let mid : Seen = record {
      tell = g.C.Capture.file c.loop-place.capture;
      asked = g.C.Capture.asked c.loop-place.capture;
      refused = g.C.Capture.refused c.loop-place.capture;
      begun = g.C.Capture.begun c.loop-place.capture;
      missed = g.C.Capture.missed c.loop-place.capture;
      faults = g.C.Capture.faults c.loop-place.capture;
    } in
    let new : Seen = record {
      tell = g.C.Capture.file c.read_next.new.capture;
      asked = g.C.Capture.asked c.read_next.new.capture;
      refused = g.C.Capture.refused c.read_next.new.capture;
      begun = g.C.Capture.begun c.read_next.new.capture;
      missed = g.C.Capture.missed c.read_next.new.capture;
      faults = g.C.Capture.faults c.read_next.new.capture;
    } in
    record {
      within = c.loop-place-test.true;
      small = c.loop-place.invariant.small;
      cause = cause_is c.in-Err.cause c.args.names.now c.loop-place.place c.index-names-place.result old mid new c.loop-place-test.true c.index-names-place.is
          c.loop-place.invariant.begun c.loop-place.invariant.few c.loop-place.invariant.missed c.loop-place.invariant.faults
          (λ is. c.in-Err.ensures.unopened (ap Err is)) (λ is. c.in-Err.ensures.unread (ap Err is))
          (λ is. large_next (g.C.Capture.file c.args.capture.now) (g.C.Capture.file c.loop-place.capture) c.args.names.now c.loop-place.place c.index-names-place.result (so_far c.loop-place.readings)
          c.loop-place-test.true c.index-names-place.is (c.loop-place.invariant.file c.index-names-place.result) c.loop-place.invariant.read (c.in-Err.ensures.large (ap Err is)))
          (λ is. c.in-Err.ensures.starved (ap Err is));
    }

pub returns-in-Err-clause-took : goal.returns-in-Err-clause-took
returns-in-Err-clause-took g c =
    left_next (g.C.Capture.file c.args.capture.now) (g.C.Capture.file c.loop-place.capture) c.args.names.now c.loop-place.place c.index-names-place.result
    (g.C.Capture.left c.args.capture.now) (g.C.Capture.left c.loop-place.capture) (g.C.Capture.left c.read_next.new.capture) c.loop-place-test.true c.index-names-place.is (c.loop-place.invariant.file c.index-names-place.result) c.loop-place.invariant.left c.read_next.ensures.took

pub loop-place-preserved : goal.loop-place-preserved
loop-place-preserved g c =
    let read = reads_next (g.C.Capture.file c.args.capture.now) (g.C.Capture.file c.loop-place.capture) c.args.names.now c.loop-place.place c.index-names-place.result
    (so_far c.loop-place.readings) (so_far c.read_next.new.readings) c.loop-place-test.true c.index-names-place.is (c.loop-place.invariant.file c.index-names-place.result)
    c.loop-place.invariant.read c.in-Ok.ensures.read in
    record {
      read = read;
      small = small_more (g.C.Capture.file c.args.capture.now) c.args.names.now c.loop-place.place c.loop-place.invariant.small
          (judged (g.C.Capture.file c.args.capture.now) (take (c.loop-place.place + 1) c.args.names.now) (so_far c.read_next.new.readings) false read c.in-Ok.ensures.small);
      little = c.in-Ok.ensures.small;
      ends = omega (arith, c.in-Ok.ensures.count, c.loop-place.invariant.ends);
      left = left_next (g.C.Capture.file c.args.capture.now) (g.C.Capture.file c.loop-place.capture) c.args.names.now c.loop-place.place c.index-names-place.result
          (g.C.Capture.left c.args.capture.now) (g.C.Capture.left c.loop-place.capture) (g.C.Capture.left c.read_next.new.capture) c.loop-place-test.true c.index-names-place.is (c.loop-place.invariant.file c.index-names-place.result) c.loop-place.invariant.left c.read_next.ensures.took;
      file = λ n. c.read_next.ensures.file n ∙ c.loop-place.invariant.file n;
      begun = omega (arith, c.loop-place.invariant.begun, c.read_next.ensures.begun_stay);
      few = omega (arith, c.loop-place.invariant.few, c.in-Ok.ensures.begun);
      missed = c.in-Ok.ensures.not_missed ∙ c.loop-place.invariant.missed;
      faults = c.in-Ok.ensures.no_fault ∙ c.loop-place.invariant.faults;
    }

pub returns-clause-read : goal.returns-clause-read
returns-clause-read g c =
    subst (λ (names : List (List ℕ)). IsReadOf (g.C.Capture.file c.args.capture.now) names (so_far c.loop-place.readings))
    (take_all c.loop-place.place c.args.names.now c.loop-place-test.false) c.loop-place.invariant.read

pub returns-clause-small : goal.returns-clause-small
returns-clause-small g c = λ n below. c.loop-place.invariant.small n (omega (arith, below, c.loop-place-test.false))

pub returns-clause-took : goal.returns-clause-took
returns-clause-took g c = c.loop-place.invariant.left

pub returns-clause-no_fault : goal.returns-clause-no_fault
returns-clause-no_fault g c = (c.loop-place.invariant.missed, c.loop-place.invariant.faults)
