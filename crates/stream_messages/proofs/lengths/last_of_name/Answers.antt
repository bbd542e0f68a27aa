use Rattle.std.proofs.Common.{None, arith, rules}
use Rattle.httparse.specs.Spans.{header_bytes}
use Rattle.stream_messages.specs.Fields.{newer_value}
use Rattle.stream_messages.proofs.LengthLemmas.{fold_next}
use Rattle.stream_messages.proofs.lengths.last_of_name.Goals as goal

pub loop-header-preserved : goal.loop-header-preserved
loop-header-preserved c =
    let step = fold_next (newer_value c.args.name.now) None (header_bytes c.args.bytes.now) c.args.headers.now c.loop-header.header-index
    (record { name = record { start = 0; end = 0 }; value = record { start = 0; end = 0 } }) (omega arith) in
    (search rules, cc (step))
