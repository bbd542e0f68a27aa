use Rattle.std.proofs.Common.{refl}
use Rattle.pk_fields.specs.Ids.{TCP_STREAM}
use Rattle.pk_fields.proofs.FieldSetLemmas.{in_every}
use Rattle.dissect.specs.Followed.{asks_streams}
use Rattle.dissect.proofs.laws.all_fields_ask_streams.Goals as goal

pub returns : goal.returns
unfolding asks_streams
returns c = rw (in_every TCP_STREAM) refl
