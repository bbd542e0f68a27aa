use Rattle.std.proofs.Common.{arith}
use Rattle.httparse.specs.Spans.{header_bytes}
use Rattle.stream_messages.specs.declared.lengths.Lengths.TheVariants.{Absent}
use Rattle.stream_messages.specs.Fields.{with_field}
use Rattle.stream_messages.proofs.LengthLemmas.{fold_next}
use Rattle.stream_messages.proofs.lengths.lengths_of.Goals as goal

pub loop-header-preserved : goal.loop-header-preserved
loop-header-preserved c =
    let step = fold_next with_field Absent (header_bytes c.args.bytes.now) c.args.headers.now c.loop-header.header-index
    (record { name = record { start = 0; end = 0 }; value = record { start = 0; end = 0 } }) (omega arith) in
    cc (step)
