use Rattle.std.proofs.Common.{◌∙◌, ap, suc, Err, refl, arith}
use Rattle.pk_base.specs.Limits.{file_limit}
use Rattle.capture_read.proofs.TakenLemmas.{took_none}
use Rattle.run_passes.proofs.FaultLemmas.{never_spent, read_further, rose_before}
use Rattle.run_passes.proofs.KeepLemmas.{counts_begun, counts_more, keep_begun, keep_ended, keep_ended_near, keep_full, keep_full_near, keep_further, keep_took, keep_unread, takeable_more, takeable_none}
use Rattle.run_passes.proofs.twice.keep_rest.Goals as goal

pub loop-most-init : goal.loop-most-init
loop-most-init g c = record {
  way = keep_begun c.args.plan.now (g.C.Capture.left c.args.capture.now) c.args.reader.now c.args.frames.now.items c.requires.none c.requires.reads;
  counted = counts_begun c.args.reader.now.state c.args.frames.now.items c.requires.none c.requires.number c.requires.at;
  takeable = takeable_none c.args.frames.now.items c.requires.none;
  took = took_none (suc file_limit) (g.C.Capture.left c.args.capture.now) (g.C.Capture.left c.args.capture.now) refl;
  on = record { asked = refl; begun = refl; missed = refl };
  fresh = c.requires.fresh;
  calm = refl;
}

pub returns-then-is_full-clause-read : goal.returns-then-is_full-clause-read
returns-then-is_full-clause-read g c =
    keep_full c.args.plan.now c.loop-most.most (g.C.Capture.left c.args.capture.now) c.loop-most.reader (g.C.Capture.left c.loop-most.capture) c.loop-most.frames.items
    (c.is_full.ensures.full c.if-is_full.true) c.loop-most.invariant.way

pub returns-then-is_full-clause-full : goal.returns-then-is_full-clause-full
returns-then-is_full-clause-full g c =
    keep_full_near c.args.plan.now c.loop-most.most (g.C.Capture.left c.args.capture.now) c.loop-most.reader (g.C.Capture.left c.loop-most.capture) c.loop-most.frames.items
    (c.is_full.ensures.full c.if-is_full.true) c.loop-most.invariant.way

pub returns-in-Ok-End-clause-read : goal.returns-in-Ok-End-clause-read
returns-in-Ok-End-clause-read g c =
    keep_ended c.args.plan.now c.loop-most.most (g.C.Capture.left c.args.capture.now) c.loop-most.reader c.next_frame.new.self (g.C.Capture.left c.loop-most.capture) (g.C.Capture.left c.next_frame.new.capture) c.loop-most.frames.items c.in-Ok-End.ending
    (c.is_full.ensures.more c.if-is_full.false) c.loop-most.invariant.way (rw c.in-Ok-End.field-0-is at c.in-Ok-End.ensures.answers)

pub returns-in-Ok-End-clause-full : goal.returns-in-Ok-End-clause-full
returns-in-Ok-End-clause-full g c =
    keep_ended_near c.args.plan.now c.loop-most.most (g.C.Capture.left c.args.capture.now) c.loop-most.reader c.next_frame.new.self (g.C.Capture.left c.loop-most.capture) (g.C.Capture.left c.next_frame.new.capture) c.loop-most.frames.items c.in-Ok-End.ending
    (c.is_full.ensures.more c.if-is_full.false) c.loop-most.invariant.way (rw c.in-Ok-End.field-0-is at c.in-Ok-End.ensures.answers)

pub returns-in-Ok-End-clause-took : goal.returns-in-Ok-End-clause-took
returns-in-Ok-End-clause-took g c =
    keep_took c.args.plan.now c.loop-most.most (g.C.Capture.left c.args.capture.now) c.loop-most.reader (g.C.Capture.left c.loop-most.capture) (g.C.Capture.left c.next_frame.new.capture) c.loop-most.frames.items c.loop-most.invariant.way c.next_frame.ensures.took

pub returns-in-Err-ReadFault-clause-broken : goal.returns-in-Err-ReadFault-clause-broken
returns-in-Err-ReadFault-clause-broken g c =
    keep_unread c.args.plan.now c.loop-most.most (g.C.Capture.left c.args.capture.now) c.loop-most.reader (g.C.Capture.left c.loop-most.capture) (g.C.Capture.left c.next_frame.new.capture) c.loop-most.frames.items
    (c.is_full.ensures.more c.if-is_full.false) c.loop-most.invariant.way (c.in-Err-ReadFault.ensures.fails (ap Err c.in-Err-ReadFault.field-0-is))

pub returns-in-Err-ReadFault-clause-took : goal.returns-in-Err-ReadFault-clause-took
returns-in-Err-ReadFault-clause-took g c =
    keep_took c.args.plan.now c.loop-most.most (g.C.Capture.left c.args.capture.now) c.loop-most.reader (g.C.Capture.left c.loop-most.capture) (g.C.Capture.left c.next_frame.new.capture) c.loop-most.frames.items c.loop-most.invariant.way c.next_frame.ensures.took

pub returns-in-Err-NoMemory-clause-took : goal.returns-in-Err-NoMemory-clause-took
returns-in-Err-NoMemory-clause-took g c =
    keep_took c.args.plan.now c.loop-most.most (g.C.Capture.left c.args.capture.now) c.loop-most.reader (g.C.Capture.left c.loop-most.capture) (g.C.Capture.left c.next_frame.new.capture) c.loop-most.frames.items c.loop-most.invariant.way c.next_frame.ensures.took

pub returns-in-Err-clause-took : goal.returns-in-Err-clause-took
returns-in-Err-clause-took g c =
    keep_took c.args.plan.now c.loop-most.most (g.C.Capture.left c.args.capture.now) c.loop-most.reader (g.C.Capture.left c.loop-most.capture) (g.C.Capture.left c.next_frame.new.capture) c.loop-most.frames.items c.loop-most.invariant.way c.next_frame.ensures.took

pub loop-most-preserved : goal.loop-most-preserved
loop-most-preserved g c = record {
  way = rw (c.one_less-most.ensures, c.in-Ok.ensures.items) (keep_further c.args.plan.now c.loop-most.most (g.C.Capture.left c.args.capture.now) c.loop-most.reader c.next_frame.new.self (g.C.Capture.left c.loop-most.capture) (g.C.Capture.left c.next_frame.new.capture) c.loop-most.frames.items c.in-Ok-Frame.frame
      (c.is_full.ensures.more c.if-is_full.false) c.loop-most.invariant.way (rw c.in-Ok-Frame.field-0-is at c.in-Ok-Frame.ensures.answers));
  counted = rw c.in-Ok.ensures.items (counts_more c.loop-most.reader.state c.next_frame.new.self.state c.loop-most.frames.items c.in-Ok-Frame.frame c.loop-most.invariant.counted (rw c.in-Ok-Frame.field-0-is at c.in-Ok-Frame.ensures.counts) c.next_frame.ensures.limit);
  takeable = rw c.in-Ok.ensures.items (takeable_more c.loop-most.reader.state c.next_frame.new.self.state c.loop-most.frames.items c.in-Ok-Frame.frame c.loop-most.invariant.counted (rw c.in-Ok-Frame.field-0-is at c.in-Ok-Frame.ensures.counts) c.next_frame.ensures.limit c.loop-most.invariant.takeable);
  took = keep_took c.args.plan.now c.loop-most.most (g.C.Capture.left c.args.capture.now) c.loop-most.reader (g.C.Capture.left c.loop-most.capture) (g.C.Capture.left c.next_frame.new.capture) c.loop-most.frames.items c.loop-most.invariant.way c.next_frame.ensures.took;
  on = record {
    asked = c.next_frame.ensures.asked ∙ c.loop-most.invariant.on.asked;
    begun = c.next_frame.ensures.begun ∙ c.loop-most.invariant.on.begun;
    missed = c.next_frame.ensures.missed ∙ c.loop-most.invariant.on.missed;
  };
  fresh = rw c.in-Ok-Frame.field-0-is at c.in-Ok-Frame.ensures.kept;
  calm = c.in-Ok-Frame.ensures.no_fault ∙ c.loop-most.invariant.calm;
}

pub returns-in-Ok-End-clause-stays : goal.returns-in-Ok-End-clause-stays
returns-in-Ok-End-clause-stays g c =
    read_further (g.C.Capture.asked c.args.capture.now) (g.C.Capture.asked c.loop-most.capture) (g.C.Capture.asked c.next_frame.new.capture) (g.C.Capture.begun c.args.capture.now) (g.C.Capture.begun c.loop-most.capture) (g.C.Capture.begun c.next_frame.new.capture) (g.C.Capture.missed c.args.capture.now) (g.C.Capture.missed c.loop-most.capture) (g.C.Capture.missed c.next_frame.new.capture)
    c.loop-most.invariant.on c.next_frame.ensures.asked c.next_frame.ensures.begun c.next_frame.ensures.missed

pub returns-in-Err-ReadFault-clause-stays : goal.returns-in-Err-ReadFault-clause-stays
returns-in-Err-ReadFault-clause-stays g c =
    read_further (g.C.Capture.asked c.args.capture.now) (g.C.Capture.asked c.loop-most.capture) (g.C.Capture.asked c.next_frame.new.capture) (g.C.Capture.begun c.args.capture.now) (g.C.Capture.begun c.loop-most.capture) (g.C.Capture.begun c.next_frame.new.capture) (g.C.Capture.missed c.args.capture.now) (g.C.Capture.missed c.loop-most.capture) (g.C.Capture.missed c.next_frame.new.capture)
    c.loop-most.invariant.on c.next_frame.ensures.asked c.next_frame.ensures.begun c.next_frame.ensures.missed

pub returns-in-Err-NoMemory-clause-stays : goal.returns-in-Err-NoMemory-clause-stays
returns-in-Err-NoMemory-clause-stays g c =
    read_further (g.C.Capture.asked c.args.capture.now) (g.C.Capture.asked c.loop-most.capture) (g.C.Capture.asked c.next_frame.new.capture) (g.C.Capture.begun c.args.capture.now) (g.C.Capture.begun c.loop-most.capture) (g.C.Capture.begun c.next_frame.new.capture) (g.C.Capture.missed c.args.capture.now) (g.C.Capture.missed c.loop-most.capture) (g.C.Capture.missed c.next_frame.new.capture)
    c.loop-most.invariant.on c.next_frame.ensures.asked c.next_frame.ensures.begun c.next_frame.ensures.missed

pub returns-in-Err-clause-stays : goal.returns-in-Err-clause-stays
returns-in-Err-clause-stays g c =
    read_further (g.C.Capture.asked c.args.capture.now) (g.C.Capture.asked c.loop-most.capture) (g.C.Capture.asked c.next_frame.new.capture) (g.C.Capture.begun c.args.capture.now) (g.C.Capture.begun c.loop-most.capture) (g.C.Capture.begun c.next_frame.new.capture) (g.C.Capture.missed c.args.capture.now) (g.C.Capture.missed c.loop-most.capture) (g.C.Capture.missed c.next_frame.new.capture)
    c.loop-most.invariant.on c.next_frame.ensures.asked c.next_frame.ensures.begun c.next_frame.ensures.missed

pub returns-in-Err-ReadFault-clause-caused : goal.returns-in-Err-ReadFault-clause-caused
returns-in-Err-ReadFault-clause-caused g c =
    rose_before (g.C.Capture.faults c.args.capture.now) (g.C.Capture.faults c.loop-most.capture) (g.C.Capture.faults c.next_frame.new.capture) c.loop-most.invariant.calm (c.in-Err-ReadFault.ensures.fault (ap Err c.in-Err-ReadFault.field-0-is))

pub returns-in-Err-NoMemory-clause-caused : goal.returns-in-Err-NoMemory-clause-caused
returns-in-Err-NoMemory-clause-caused g c = c.in-Err-NoMemory.ensures.starved (ap Err c.in-Err-NoMemory.field-0-is) ∙ c.loop-most.invariant.calm

pub returns-in-Err-clause-caused : goal.returns-in-Err-clause-caused
returns-in-Err-clause-caused g c = c.in-Ok-Frame.ensures.no_fault ∙ c.loop-most.invariant.calm

pub returns-in-Ok-End-clause-calm : goal.returns-in-Ok-End-clause-calm
returns-in-Ok-End-clause-calm g c = c.in-Ok-End.ensures.no_fault ∙ c.loop-most.invariant.calm

pub returns-in-Err-Spent-clause-took : goal.returns-in-Err-Spent-clause-took
returns-in-Err-Spent-clause-took g c =
    keep_took c.args.plan.now c.loop-most.most (g.C.Capture.left c.args.capture.now) c.loop-most.reader (g.C.Capture.left c.loop-most.capture) (g.C.Capture.left c.next_frame.new.capture) c.loop-most.frames.items c.loop-most.invariant.way c.next_frame.ensures.took

pub returns-in-Err-Spent-clause-stays : goal.returns-in-Err-Spent-clause-stays
returns-in-Err-Spent-clause-stays g c =
    read_further (g.C.Capture.asked c.args.capture.now) (g.C.Capture.asked c.loop-most.capture) (g.C.Capture.asked c.next_frame.new.capture) (g.C.Capture.begun c.args.capture.now) (g.C.Capture.begun c.loop-most.capture) (g.C.Capture.begun c.next_frame.new.capture) (g.C.Capture.missed c.args.capture.now) (g.C.Capture.missed c.loop-most.capture) (g.C.Capture.missed c.next_frame.new.capture)
    c.loop-most.invariant.on c.next_frame.ensures.asked c.next_frame.ensures.begun c.next_frame.ensures.missed

pub returns-in-Err-Spent-clause-caused : goal.returns-in-Err-Spent-clause-caused
returns-in-Err-Spent-clause-caused g c = absurd (never_spent _ c.loop-most.invariant.fresh (c.in-Err-Spent.ensures.spent.0 (ap Err c.in-Err-Spent.field-0-is)))
