use Rattle.std.proofs.Common.{◌≤◌, ◌+◌, ◌∙◌, ap, arith}
use Rattle.stream_messages.specs.declared.chunks.Turn.TheVariants.{Chunk, Last, Trailing}
use Rattle.stream_messages.specs.Limits.{body_limit, trailer_limit}
use Rattle.stream_messages.specs.Chunks.{turn_at}
use Rattle.stream_messages.proofs.ChunkLemmas.{chunks_step}
use Rattle.stream_messages.proofs.GoingLemmas.{goes_long, goes_end, goes_fails, goes_waits, goes_out}
use Rattle.stream_messages.proofs.resuming.resume_chunks.Goals.{in-Chunk+in_ok-push-in-Chunk, in-Last, in-Trailing}
use Rattle.stream_messages.proofs.resuming.resume_chunks.Goals as goal

pub behind_chunk-place-requires-clause-sum : goal.behind_chunk-place-requires-clause-sum
unfolding body_limit
behind_chunk-place-requires-clause-sum c =
    let within : c.loop-turn.place.sum + c.in-Chunk.size ≤ body_limit = c.in-Chunk.ensures.fits.2 in
    omega arith

pub behind_line-place-requires-clause-used : goal.behind_line-place-requires-clause-used
unfolding trailer_limit
behind_line-place-requires-clause-used c =
    let within : c.loop-turn.place.used + c.in-Trailing.line ≤ trailer_limit = c.in-Trailing.ensures.fits.2 in
    omega arith

pub returns-in-Long : goal.returns-in-Long
returns-in-Long c =
    goes_long c.args.list c.args.list.turns c.loop-turn.turn c.args.list.start c.args.bytes.now c.loop-turn.place c.loop-turn.pieces c.in-Long.line c.shape_of.result
    c.loop-turn.invariant (omega arith) (c.in-Long.ensures.value ∙ ap (turn_at c.loop-turn.place) c.tail.ensures) c.shape_of.ensures

pub returns-in-End : goal.returns-in-End
returns-in-End c =
    goes_end c.args.list c.args.list.turns c.loop-turn.turn c.args.list.start c.args.bytes.now c.loop-turn.place c.loop-turn.pieces c.shape_of-in-End.result
    c.loop-turn.invariant (omega arith) (c.in-End.ensures.value ∙ ap (turn_at c.loop-turn.place) c.tail.ensures) c.shape_of-in-End.ensures

pub returns-in-Waits : goal.returns-in-Waits
returns-in-Waits c =
    goes_waits c.args.list c.args.list.turns c.loop-turn.turn c.args.list.start c.args.bytes.now c.loop-turn.place c.loop-turn.pieces c.looked_at.result
    c.loop-turn.invariant (c.in-Waits.ensures.value ∙ ap (turn_at c.loop-turn.place) c.tail.ensures) c.looked_at.ensures

pub returns-in-Fails : goal.returns-in-Fails
returns-in-Fails c =
    goes_fails c.args.list c.args.list.turns c.loop-turn.turn c.args.list.start c.args.bytes.now c.loop-turn.place c.loop-turn.pieces
    c.loop-turn.invariant (omega arith) (c.in-Fails.ensures.value ∙ ap (turn_at c.loop-turn.place) c.tail.ensures)

pub returns : goal.returns
returns c =
    goes_out c.args.list c.args.list.turns c.loop-turn.turn c.args.list.start c.args.bytes.now c.loop-turn.place c.loop-turn.pieces
    c.loop-turn.invariant (omega arith)

pub loop-turn-preserved : goal.loop-turn-preserved
loop-turn-preserved c more = elim c.match-turn_at.branch [
  | in-Chunk+in_ok-push-in-Chunk w ↦ rw (w.place-is, w.pieces-is, w.behind_chunk-place.ensures, w.in_ok-push-in-Chunk.ensures) (
      c.loop-turn.invariant more
      ∙ chunks_step c.args.list.turns c.loop-turn.turn c.args.list.start c.args.bytes.now more c.loop-turn.place c.loop-turn.pieces (Chunk w.in-Chunk.line w.in-Chunk.size) (omega arith) tt
      (w.in-Chunk.ensures.value ∙ ap (turn_at c.loop-turn.place) c.tail.ensures)
      )
  | in-Last w ↦ rw (w.place-is, w.pieces-is, w.behind_last-place.ensures) (
      c.loop-turn.invariant more
      ∙ chunks_step c.args.list.turns c.loop-turn.turn c.args.list.start c.args.bytes.now more c.loop-turn.place c.loop-turn.pieces (Last w.in-Last.line) (omega arith) tt
      (w.in-Last.ensures.value ∙ ap (turn_at c.loop-turn.place) c.tail.ensures)
      )
  | in-Trailing w ↦ rw (w.place-is, w.pieces-is, w.behind_line-place.ensures) (
      c.loop-turn.invariant more
      ∙ chunks_step c.args.list.turns c.loop-turn.turn c.args.list.start c.args.bytes.now more c.loop-turn.place c.loop-turn.pieces (Trailing w.in-Trailing.line) (omega arith) tt
      (w.in-Trailing.ensures.value ∙ ap (turn_at c.loop-turn.place) c.tail.ensures)
      )
]
