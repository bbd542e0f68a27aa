use Rattle.std.proofs.Common.{◌≡◌, ◌+◌, ℕ, length, take, refl, subst, arith, ◌∙◌}
use Rattle.std.proofs.lemmas.List.{length-take-le}
use Rattle.capture_read.specs.Reads.{CountsFault}
use Rattle.capture_read.proofs.FillSteps.{filled_next, filled_open, grown_on, read_on, took_behind, took_so_far, unfilled_by}
use Rattle.capture_read.proofs.ReaderBounds.{error_moves}
use Rattle.capture_read.proofs.fill.fill.Goals as goal

pub loop-len-preserved : goal.loop-len-preserved
loop-len-preserved g c =
    let then : length (take c.in-Ok.filled.len c.read_next.new.room.items) ≡ c.in-Ok.filled.len = length-take-le c.in-Ok.filled.len c.read_next.new.room.items c.in-Ok.ensures.inside in
    record {
      inside = c.in-Ok.ensures.inside;
      within = omega (arith, then, c.in-Ok.ensures.read.within);
      few = omega (arith, then, c.in-Ok.ensures.read.few, c.loop-len-test.true);
      read = read_on (take c.args.held c.args.room.now.items) (take c.in-Ok.filled.len c.read_next.new.room.items) c.in-Ok.filled.seen (take c.loop-len.len c.loop-len.room.items) (c.loop-len.len + 1) c.args.most (g.C.Capture.left c.args.capture.now) (g.C.Capture.left c.loop-len.capture) (g.C.Capture.left c.read_next.new.capture)
          c.loop-len.invariant.read c.in-Ok.ensures.read (c.is_open.ensures c.if-not-is_open.false);
      file = λ n. c.read_next.ensures.stays.file n ∙ c.loop-len.invariant.file n;
      asked = c.read_next.ensures.stays.asked ∙ c.loop-len.invariant.asked;
      refused = c.read_next.ensures.stays.refused ∙ c.loop-len.invariant.refused;
      begun = c.read_next.ensures.stays.begun ∙ c.loop-len.invariant.begun;
      missed = c.read_next.ensures.stays.missed ∙ c.loop-len.invariant.missed;
      faults = c.in-Ok.ensures.no_fault ∙ c.loop-len.invariant.faults;
    }

pub returns-then-not-is_open-clause-filled : goal.returns-then-not-is_open-clause-filled
returns-then-not-is_open-clause-filled g c =
    filled_next (take c.args.held c.args.room.now.items) (take c.in-Ok.filled.len c.read_next.new.room.items) c.in-Ok.filled.seen (take c.loop-len.len c.loop-len.room.items) (c.loop-len.len + 1) c.args.need c.args.most (g.C.Capture.left c.args.capture.now) (g.C.Capture.left c.loop-len.capture) (g.C.Capture.left c.read_next.new.capture)
    c.loop-len.invariant.read c.in-Ok.ensures.read (omega (arith, c.loop-len-test.true))

pub returns-clause-filled : goal.returns-clause-filled
returns-clause-filled g c =
    let first : length (take c.args.held c.args.room.now.items) ≡ c.args.held = length-take-le c.args.held c.args.room.now.items c.requires.inside in
    let so_far : length (take c.loop-len.len c.loop-len.room.items) ≡ c.loop-len.len = length-take-le c.loop-len.len c.loop-len.room.items c.loop-len.invariant.inside in
    filled_open (take c.args.held c.args.room.now.items) (take c.loop-len.len c.loop-len.room.items) _ c.args.need c.args.most (g.C.Capture.left c.args.capture.now) (g.C.Capture.left c.loop-len.capture)
    c.loop-len.invariant.read refl (omega (arith, first, c.requires.few)) (omega (arith, so_far, c.loop-len-test.false))
    (omega (arith, so_far, c.loop-len.invariant.few)) (omega (arith, so_far, c.loop-len.invariant.within))

pub returns-in-Err-clause-took : goal.returns-in-Err-clause-took
returns-in-Err-clause-took g c =
    let first : length (take c.args.held c.args.room.now.items) ≡ c.args.held = length-take-le c.args.held c.args.room.now.items c.requires.inside in
    let so_far : length (take c.loop-len.len c.loop-len.room.items) ≡ c.loop-len.len = length-take-le c.loop-len.len c.loop-len.room.items c.loop-len.invariant.inside in
    took_behind (take c.args.held c.args.room.now.items) (take c.loop-len.len c.loop-len.room.items) c.read_next.ensures.took.0 c.args.held c.args.most (g.C.Capture.left c.args.capture.now) (g.C.Capture.left c.loop-len.capture) (g.C.Capture.left c.read_next.new.capture) first
    c.loop-len.invariant.read c.read_next.ensures.took.1 (omega (arith, so_far, c.read_next.ensures.took.2, c.loop-len.invariant.within))

pub returns-then-not-is_open-clause-took : goal.returns-then-not-is_open-clause-took
returns-then-not-is_open-clause-took g c =
    let first : length (take c.args.held c.args.room.now.items) ≡ c.args.held = length-take-le c.args.held c.args.room.now.items c.requires.inside in
    let so_far : length (take c.loop-len.len c.loop-len.room.items) ≡ c.loop-len.len = length-take-le c.loop-len.len c.loop-len.room.items c.loop-len.invariant.inside in
    took_behind (take c.args.held c.args.room.now.items) (take c.loop-len.len c.loop-len.room.items) c.read_next.ensures.took.0 c.args.held c.args.most (g.C.Capture.left c.args.capture.now) (g.C.Capture.left c.loop-len.capture) (g.C.Capture.left c.read_next.new.capture) first
    c.loop-len.invariant.read c.read_next.ensures.took.1 (omega (arith, so_far, c.read_next.ensures.took.2, c.loop-len.invariant.within))

pub loop-len-smaller : goal.loop-len-smaller
loop-len-smaller g c =
    let so_far : length (take c.loop-len.len c.loop-len.room.items) ≡ c.loop-len.len = length-take-le c.loop-len.len c.loop-len.room.items c.loop-len.invariant.inside in
    let then : length (take c.in-Ok.filled.len c.read_next.new.room.items) ≡ c.in-Ok.filled.len = length-take-le c.in-Ok.filled.len c.read_next.new.room.items c.in-Ok.ensures.inside in
    omega (arith, so_far, then, c.in-Ok.ensures.read.within, grown_on (take c.loop-len.len c.loop-len.room.items) (take c.in-Ok.filled.len c.read_next.new.room.items) c.in-Ok.filled.seen (c.loop-len.len + 1) c.args.most (g.C.Capture.left c.loop-len.capture) (g.C.Capture.left c.read_next.new.capture) c.in-Ok.ensures.read (c.is_open.ensures c.if-not-is_open.false))

pub returns-clause-took : goal.returns-clause-took
returns-clause-took g c =
    let first : length (take c.args.held c.args.room.now.items) ≡ c.args.held = length-take-le c.args.held c.args.room.now.items c.requires.inside in
    let so_far : length (take c.loop-len.len c.loop-len.room.items) ≡ c.loop-len.len = length-take-le c.loop-len.len c.loop-len.room.items c.loop-len.invariant.inside in
    took_so_far (take c.args.held c.args.room.now.items) (take c.loop-len.len c.loop-len.room.items) c.args.held c.args.most (g.C.Capture.left c.args.capture.now) (g.C.Capture.left c.loop-len.capture) first c.loop-len.invariant.read (omega (arith, so_far, c.loop-len.invariant.within))

pub returns-in-Err-clause-stays : goal.returns-in-Err-clause-stays
returns-in-Err-clause-stays g c = record {
  file = λ n. c.read_next.ensures.stays.file n ∙ c.loop-len.invariant.file n;
  asked = c.read_next.ensures.stays.asked ∙ c.loop-len.invariant.asked;
  refused = c.read_next.ensures.stays.refused ∙ c.loop-len.invariant.refused;
  begun = c.read_next.ensures.stays.begun ∙ c.loop-len.invariant.begun;
  missed = c.read_next.ensures.stays.missed ∙ c.loop-len.invariant.missed;
}

pub returns-then-not-is_open-clause-stays : goal.returns-then-not-is_open-clause-stays
returns-then-not-is_open-clause-stays g c = record {
  file = λ n. c.read_next.ensures.stays.file n ∙ c.loop-len.invariant.file n;
  asked = c.read_next.ensures.stays.asked ∙ c.loop-len.invariant.asked;
  refused = c.read_next.ensures.stays.refused ∙ c.loop-len.invariant.refused;
  begun = c.read_next.ensures.stays.begun ∙ c.loop-len.invariant.begun;
  missed = c.read_next.ensures.stays.missed ∙ c.loop-len.invariant.missed;
}

pub returns-in-Err-clause-unfilled : goal.returns-in-Err-clause-unfilled
returns-in-Err-clause-unfilled g c = λ is.
    let so_far : length (take c.loop-len.len c.loop-len.room.items) ≡ c.loop-len.len = length-take-le c.loop-len.len c.loop-len.room.items c.loop-len.invariant.inside in
    unfilled_by (take c.args.held c.args.room.now.items) (take c.loop-len.len c.loop-len.room.items) c.args.need c.args.most (g.C.Capture.left c.args.capture.now) (g.C.Capture.left c.loop-len.capture) (g.C.Capture.left c.read_next.new.capture)
    c.loop-len.invariant.read (omega (arith, so_far, c.loop-len-test.true)) (omega (arith, so_far, c.loop-len.invariant.within)) (c.in-Err.ensures.unread (error_moves c.in-Err.error _ is))

pub returns-in-Err-clause-faulted : goal.returns-in-Err-clause-faulted
returns-in-Err-clause-faulted g c =
    subst (λ (n : ℕ). CountsFault c.in-Err.error n (g.C.Capture.faults c.read_next.new.capture)) c.loop-len.invariant.faults c.in-Err.ensures.faulted
