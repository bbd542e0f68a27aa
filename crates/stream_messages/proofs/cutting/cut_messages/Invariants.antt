use Rattle.std.proofs.Common.{◌-◌, length}
use Rattle.stream_messages.proofs.CuttingLemmas.{IsLoop}
use Rattle.stream_messages.proofs.cutting.cut_messages.Given as goal

abbrev pub invariant-loop-messages : goal.invariant-loop-messages
invariant-loop-messages l = IsLoop l.framer l.start l.front l.heads l.fn.cursor l.cursor l.messages.items

abbrev pub decreases-loop-messages : goal.decreases-loop-messages
decreases-loop-messages l = length l.front - l.cursor.mark.end
