use Rattle.stream_messages.proofs.PlaceLemmas.{field_is}
use Rattle.stream_messages.proofs.places.field_places.Goals as goal

pub returns-clause-value : goal.returns-clause-value
returns-clause-value c =
    field_is c.args.bytes.now c.args.at c.args.header _ _ _ c.tail-raw.result.now c.behind_feed-rest.result.now c.requires.at c.requires.within c.span_len-name.ensures c.span_len-len.ensures
    c.tail-raw.ensures c.white_len-lead.ensures.value (rw c.tail.ensures at c.behind_feed-rest.ensures.value)
