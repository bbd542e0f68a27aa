use Rattle.std.proofs.Common.{arith}
use Rattle.stream_messages.proofs.ListingLemmas.{element_ends, element_grows}
use Rattle.stream_messages.proofs.lengths.last_element.Goals.{then-value-place-eq44, else-value-place-eq44}
use Rattle.stream_messages.proofs.lengths.last_element.Goals as goal

pub loop-place-preserved : goal.loop-place-preserved
loop-place-preserved c = elim c.if-value-place-eq44.branch [
  | then-value-place-eq44 w ↦ rw w.start-is (
    omega arith,
    element_ends c.args.value.now c.loop-place.place (omega arith) (omega (arith, w.if-value-place-eq44)),
  )
  | else-value-place-eq44 w ↦ rw w.start-is (
    omega arith,
    element_grows c.args.value.now c.loop-place.start c.loop-place.place c.loop-place.invariant.0 (omega arith) c.loop-place.invariant.1 w.if-value-place-eq44.false,
  )
]
