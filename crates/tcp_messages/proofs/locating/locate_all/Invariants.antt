use Rattle.std.proofs.Common.{◌≡◌, ◌+◌, ◌++◌, List, length, map}
use Rattle.std.specs.Prelude.{All, IfSome}
use Rattle.range_bytes.specs.Held.{IsFreeFrom}
use Rattle.tcp_streams.specs.declared.segment.Segment.{Segment}
use Rattle.tcp_streams.specs.LetGo.{StandsFrom}
use Rattle.tcp_streams.specs.Standing.{way_for, way_in}
use Rattle.tcp_streams.specs.Ways.{stretches}
use Rattle.stream_messages.specs.declared.framer.Framer.{Framer}
use Rattle.stream_messages.specs.Cursors.{IsWholeInOne}
use Rattle.tcp_messages.specs.Reading.{IsSomeWhole}
use Rattle.tcp_messages.specs.Shown.{IsFramedIn, IsWholeIn, located}
use Rattle.tcp_messages.proofs.locating.locate_all.Given as goal

abbrev pub invariant-loop-message : goal.invariant-loop-message
invariant-loop-message l =
    record {
      located_so : (past : List Segment) → StandsFrom past l.streams
          → l.shown.items ++ map (located (way_for past l.taken.stream l.taken.side).held l.s l.taken.position) l.rest.items
          ≡ map (located (way_for past l.taken.stream l.taken.side).held l.s l.taken.position) l.fn.messages;
      whole : All (IsWholeIn l.s.payload) l.shown.items;
      framed : (framer : Framer) → All (IsWholeInOne framer (stretches (way_in l.streams l.taken.stream l.taken.side))) l.fn.messages
          → All (IsFramedIn framer l.s.payload) l.shown.items × All (IsWholeInOne framer (stretches (way_in l.streams l.taken.stream l.taken.side))) l.rest.items;
      count : length l.shown.items + length l.rest.items ≡ length l.fn.messages;
      run : IfSome l.held (λ run. IsFreeFrom (way_in l.streams l.taken.stream l.taken.side).held run.from run.to);
      left : All (IsSomeWhole (stretches (way_in l.streams l.taken.stream l.taken.side))) l.rest.items;
    }

abbrev pub decreases-loop-message : goal.decreases-loop-message
decreases-loop-message l = length l.rest.items
