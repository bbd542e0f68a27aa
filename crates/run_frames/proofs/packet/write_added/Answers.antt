use Rattle.std.proofs.Common.{true, refl}
use Rattle.run_frames.proofs.CalmLemmas.{calm_counted}
use Rattle.run_frames.proofs.PacketLemmas.{packed_added, packed_part}
use Rattle.run_frames.proofs.packet.write_added.Goals as goal

pub returns-in-Ok-clause-packed : goal.returns-in-Ok-clause-packed
returns-in-Ok-clause-packed g c =
    packed_added true c.args.writer.now c.add.new.self c.args.frame.now c.in-Ok-Bytes.packet (g.O.Sink.written c.args.out.now) (g.O.Sink.written c.write_whole.new.sink)
    refl (rw c.in-Ok-Bytes.field-0-is at c.in-Ok-Bytes.ensures.adds) (rw c.in-Ok-Bytes.field-0-is at c.in-Ok-Bytes.ensures.stands) (rw c.bytes.ensures at c.in-Ok.ensures.whole)

pub returns-in-Ok-clause-part : goal.returns-in-Ok-clause-part
returns-in-Ok-clause-part g c =
    packed_part true c.args.writer.now c.add.new.self c.args.frame.now c.in-Ok-Bytes.packet (g.O.Sink.written c.args.out.now) (g.O.Sink.written c.write_whole.new.sink)
    refl (rw c.in-Ok-Bytes.field-0-is at c.in-Ok-Bytes.ensures.adds) (rw c.in-Ok-Bytes.field-0-is at c.in-Ok-Bytes.ensures.stands) (rw c.bytes.ensures at c.write_whole.ensures.part)

pub returns-clause-part : goal.returns-clause-part
returns-clause-part g c =
    packed_part true c.args.writer.now c.add.new.self c.args.frame.now c.in-Ok-Bytes.packet (g.O.Sink.written c.args.out.now) (g.O.Sink.written c.write_whole.new.sink)
    refl (rw c.in-Ok-Bytes.field-0-is at c.in-Ok-Bytes.ensures.adds) (rw c.in-Ok-Bytes.field-0-is at c.in-Ok-Bytes.ensures.stands) (rw c.bytes.ensures at c.write_whole.ensures.part)

pub returns-clause-calm : goal.returns-clause-calm
returns-clause-calm g c = calm_counted c.in-Err-write_whole.fault _ _ _ _ c.in-Err-write_whole.ensures.counts
