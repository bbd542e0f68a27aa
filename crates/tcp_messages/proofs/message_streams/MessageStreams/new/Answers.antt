use Rattle.std.proofs.Common.{refl, []}
use Rattle.tcp_messages.specs.Standing.{ReadsFor}
use Rattle.tcp_messages.proofs.Whole.{kept_whole, new_sound, new_reads}
use Rattle.tcp_messages.proofs.message_streams.MessageStreams.new.Goals as goal

pub invariant_of-result : goal.invariant_of-result
invariant_of-result c = record { sound = λ _. new_sound c.new.result c.new-2.result.items c.new.ensures.stands c.new-2.ensures.items }

pub returns-clause-stands : goal.returns-clause-stands
unfolding ReadsFor
returns-clause-stands c = λ framer_of. new_reads framer_of _ c.new.ensures.stands refl c.new-2.ensures.items

pub returns-clause-from : goal.returns-clause-from
returns-clause-from c = λ framer_of. kept_whole framer_of [] _ (new_sound c.new.result c.new-2.result.items c.new.ensures.stands c.new-2.ensures.items) (returns-clause-stands c framer_of)
