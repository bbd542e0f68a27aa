use Rattle.std.proofs.Common.{arith}
use Rattle.tcp_streams.proofs.WayLemmas.{lost_few}
use Rattle.tcp_streams.proofs.segment.Taken.lost_bytes.Goals as goal

pub loop-gap-init : goal.loop-gap-init
loop-gap-init c =
    let taken = c.args.self.now in
    record {
      counted = omega arith;
      few = lost_few taken.front_before taken.lost c.requires;
      between = (taken.front_before, c.requires);
    }
