use Rattle.std.proofs.Common.{◌∙◌, ℕ, ◌+◌, Bool, Option, Some, cond, ap, sym}
use Rattle.std.specs.Prelude.{unwrap_or}
use Rattle.indexmap.specs.IndexMap.{get}
use Rattle.message_links.specs.declared.notes.Direction.{Direction}
use Rattle.message_links.specs.Links.{same_direction}
use Rattle.message_links.specs.LinkTables.{count_in, counted}
use Rattle.message_links.proofs.LinkKeys.{direction_eq_is}
use Rattle.message_links.proofs.LinkLemmas.{cond_unwrap}
use Rattle.message_links.proofs.link_tables.Counts.raise.Goals as goal

pub returns : goal.returns
returns c = λ other.
    ap (λ (o : Option ℕ). unwrap_or o 0)
    (ap (λ (eq : Direction → Direction → Bool). get eq c.insert.new.self other) (sym direction_eq_is)
    ∙ c.in_ok-insert.ensures.updates.0 other
    ∙ ap (λ (eq : Direction → Direction → Bool). cond (eq c.args.at other) (Some c.one_more-count.result) (get eq c.args.self.now.all other)) direction_eq_is)
    ∙ cond_unwrap (same_direction c.args.at other) c.one_more-count.result (get same_direction c.args.self.now.all other)
    ∙ ap (λ (n : ℕ). cond (same_direction c.args.at other) n (count_in c.args.self.now other)) (c.one_more-count.ensures ∙ ap (λ (n : ℕ). counted (n + 1)) c.find.ensures)
