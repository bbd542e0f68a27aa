use Rattle.std.proofs.Common.{sym, ◌∙◌}
use Rattle.flt_lists.proofs.NeedleLemmas.{pushed_length, same_length}
use Rattle.flt_lists.proofs.needles.lengths_of.Goals as goal
use Rattle.flt_lists.proofs.needles.lengths_of.Goals.{then-ne+in_ok-push, else-ne}

pub loop-needle-preserved : goal.loop-needle-preserved
loop-needle-preserved c = elim c.if-ne.branch [
  | then-ne+in_ok-push w ↦
      rw (w.lengths-is, w.newest-is) (
      pushed_length c.args.needles.now c.loop-needle.needle-index _ c.loop-needle.lengths.items _ c.loop-needle-test.true c.loop-needle.invariant.0 w.in_ok-push.ensures.items
      )
  | else-ne w ↦
      rw (w.lengths-is, w.newest-is) (
      same_length c.args.needles.now c.loop-needle.needle-index _ c.loop-needle.lengths.items c.loop-needle.newest c.loop-needle-test.true c.loop-needle.invariant.0 c.loop-needle.invariant.1
      (sym c.ne.ensures ∙ w.if-ne.false)
      )
]
