use Rattle.std.proofs.Common.{◌∙◌, ap, ℕ, ◌+◌, List, option_map, slice_get}
use Rattle.std.specs.List.{position_or_len}
use Rattle.std.specs.Map.{keys_of}
use Rattle.indexmap.specs.IndexMap.{get}
use Rattle.second_pass.specs.declared.messages.Direction.{Direction}
use Rattle.second_pass.specs.Messages.{same_direction}
use Rattle.second_pass.specs.Stands.{counted}
use Rattle.second_pass.proofs.MessageLemmas.{raised, placed, stays}
use Rattle.second_pass.proofs.counts.Counts.raise.Goals as goal

pub returns-clause-counts : goal.returns-clause-counts
returns-clause-counts c = λ other.
    raised c.args.at other c.one_more-count.result (get same_direction c.args.self.now.all) (get same_direction c.insert_full.new.self other)
    (c.one_more-count.ensures ∙ ap (λ (n : ℕ). counted (n + 1)) c.find.ensures) (c.in_ok-place.ensures.updates.0 other)

pub returns-clause-stay : goal.returns-clause-stay
returns-clause-stay c = λ place other is.
    ap (λ (es : List (Direction × ℕ)). option_map (λ e. e.0) (slice_get es place)) c.in_ok-place.ensures.entries
    ∙ stays c.args.at other c.one_more-count.result place c.args.self.now.all.entries is

pub returns-clause-place : goal.returns-clause-place
returns-clause-place c =
    ap (λ (n : ℕ). option_map (λ e. e.0) (slice_get c.insert_full.new.self.entries n)) c.in_ok-place.ensures.index
    ∙ ap (λ (es : List (Direction × ℕ)). option_map (λ e. e.0) (slice_get es (position_or_len (same_direction c.args.at) (keys_of c.args.self.now.all.entries)))) c.in_ok-place.ensures.entries
    ∙ placed c.args.at c.one_more-count.result c.args.self.now.all.entries
