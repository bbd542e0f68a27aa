use Rattle.std.proofs.Common.{◌≤◌, length, take}
use Rattle.std.specs.Prelude.{All}
use Rattle.stream_messages.specs.Cursors.{IsWholeInOne, bytes_in}
use Rattle.stream_messages.proofs.PassingLemmas.{IsPassed}
use Rattle.stream_messages.proofs.stretches.cut_stretches.Given as goal

abbrev pub invariant-loop-stretch : goal.invariant-loop-stretch
invariant-loop-stretch l =
    record {
      passed : IsPassed l.framer l.heads l.fn.cursor l.cursor (take l.stretch-index l.stretches) l.messages;
      whole : All (IsWholeInOne l.framer l.stretches) l.messages;
      few : length l.messages ≤ bytes_in (take l.stretch-index l.stretches);
    }
