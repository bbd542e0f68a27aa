use Rattle.stream_messages.proofs.PlaceLemmas.{response_is}
use Rattle.stream_messages.proofs.places.response_places.Goals as goal

pub returns-clause-some : goal.returns-clause-some
returns-clause-some c =
    let of = c.in_ok-spans.ensures.some in (
      of.0,
      of.1,
      response_is c.args.bytes.now of.0 of.2.reads.0 _ of.2.reads.1 c.find_response.new.headers c.in_ok-spans.spans _ _ c.behind_feed-rest.result.now c.in_ok-spans.ensures.within of.2
          c.newlines-reason.ensures.value c.span_len.ensures (rw c.tail.ensures at c.behind_feed-rest.ensures.value),
    )
