use Rattle.std.proofs.Common.{arith}
use Rattle.tcp_streams.proofs.stream_places.StreamPlaces.count.Goals as goal

pub overflow_cast-result : goal.overflow_cast-result
overflow_cast-result c = omega (arith, c.len.ensures, c.args.self.now.kept.few, c.args.self.now.kept.streams.ok.0)
