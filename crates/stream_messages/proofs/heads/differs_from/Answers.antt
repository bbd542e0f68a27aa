use Rattle.std.proofs.Common.{◌∙◌, sym, arith}
use Rattle.stream_messages.proofs.HeadLawProofs.{kind_none}
use Rattle.stream_messages.proofs.heads.differs_from.Goals as goal

pub returns-then-place-bytes : goal.returns-then-place-bytes
returns-then-place-bytes c = sym (kind_none c.args.front.now c.args.bytes.now c.loop-place.place (omega arith) (omega arith)) ∙ c.loop-place.invariant
