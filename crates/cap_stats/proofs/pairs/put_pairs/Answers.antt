use Rattle.std.proofs.Common.{◌++◌, Option, ap, ◌∙◌}
use Rattle.std.specs.List.{flat_map}
use Rattle.cap_stats.specs.declared.counts.Talk.{Talk}
use Rattle.cap_stats.specs.Stands.{pair_talk}
use Rattle.cap_stats.specs.Tables.{pair_line}
use Rattle.cap_stats.proofs.TableLemmas.{line_written}
use Rattle.cap_stats.proofs.pairs.put_pairs.Goals as goal

pub loop-pair-preserved : goal.loop-pair-preserved
loop-pair-preserved c =
    let pairs = c.args.pairs.now in
    line_written (λ p. pair_line (pair_talk pairs p)) c.args.order.now c.loop-pair.pair-index (0, 0) c.loop-pair.text.items c.put_pair.new.text.items
    (c.args.text.now.items ++ flat_map (λ p. pair_line (pair_talk pairs p)) c.args.order.now)
    c.loop-pair-test.true (c.in_ok-put_pair.ensures ∙ ap (λ (o : Option Talk). c.loop-pair.text.items ++ pair_line o) c.talk.ensures) c.loop-pair.invariant
