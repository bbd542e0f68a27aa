use Rattle.std.proofs.Common.{◌++◌, Option, ap, ◌∙◌}
use Rattle.cap_stats.specs.declared.counts.Talk.{Talk}
use Rattle.cap_stats.specs.Stands.{talk_at}
use Rattle.cap_stats.specs.Tables.{stream_line}
use Rattle.cap_stats.proofs.TableLemmas.{numbers_written}
use Rattle.cap_stats.proofs.streams.put_first.Goals as goal

pub loop-number-preserved : goal.loop-number-preserved
loop-number-preserved c =
    let number = c.loop-number.number in
    numbers_written (λ n. stream_line n (talk_at c.args.streams.now n)) number c.loop-number.text.items c.put_stream.new.text.items c.args.text.now.items
    (c.in_ok-put_stream.ensures ∙ ap (λ (o : Option Talk). c.loop-number.text.items ++ stream_line number o) c.talk.ensures) c.loop-number.invariant
