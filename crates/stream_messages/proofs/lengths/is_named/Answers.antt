use Rattle.stream_messages.proofs.LengthLemmas.{as_wanted}
use Rattle.stream_messages.proofs.lengths.is_named.Goals as goal

pub returns : goal.returns
returns c = as_wanted _ _ _ c.eq_ignore_ascii_case.ensures.test
