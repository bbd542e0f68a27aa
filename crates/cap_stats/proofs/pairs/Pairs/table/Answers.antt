use Rattle.std.proofs.Common.{◌++◌, ℕ, List, ap, ◌∙◌}
use Rattle.std.specs.List.{flat_map}
use Rattle.cap_stats.specs.Stands.{pair_talk}
use Rattle.cap_stats.specs.Tables.{pair_line}
use Rattle.cap_stats.proofs.TableLemmas.{pairs_made}
use Rattle.cap_stats.proofs.pairs.Pairs.table.Goals as goal

pub returns : goal.returns
returns c = λ notes has.
    let pairs = c.args.self.now in
    pairs_made pairs notes c.len.result c.put_pairs.new.text.items (c.len.ensures ∙ pairs.order.ok.0)
    (c.in_ok-put_pairs.ensures
    ∙ ap (λ (keys : List (ℕ × ℕ)). c.in_ok-text.text.items ++ flat_map (λ p. pair_line (pair_talk pairs p)) keys) c.as_slice.ensures.value
    ∙ ap (λ (text : List ℕ). text ++ flat_map (λ p. pair_line (pair_talk pairs p)) pairs.order.items) c.in_ok-text.ensures) has
