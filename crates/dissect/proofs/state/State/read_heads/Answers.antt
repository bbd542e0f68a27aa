use Rattle.std.proofs.Common.{subst, sym, ap, ◌∙◌, ℕ, ◌-◌, length, arith}
use Rattle.dissect.specs.declared.todo.Todo.TheVariants as todos
use Rattle.dissect.specs.Stands.{IsWalked}
use Rattle.dissect.specs.Walks.{chain, going, link_met}
use Rattle.dissect.proofs.Chains.{all-met}
use Rattle.dissect.proofs.Opens.{room-on}
use Rattle.dissect.proofs.Spaces.{space_less}
use Rattle.dissect.proofs.state.State.read_heads.Goals as goal

pub returns : goal.returns
returns c = record {
  walked = λ es stands.
      let rules = c.args.rules.now in
      let frame = c.args.frame.now in
      let w = link_met rules frame c.args.tree.now es in
      let first = c.in_ok-first.ensures.walked es stands in
      let rest = c.in_ok-chain.ensures.walked w.events first.stands in
      all-met rules frame w c.link.new.self c.link.new.tree c.in_ok-first.first c.chain.new.self c.chain.new.tree
      ((c.chain.ensures.added c.args.self.now (length frame.bytes) c.in_ok-first.ensures.adds).keeps ∙ sym c.link.ensures.added.keeps) first
      (subst (λ (n : ℕ). IsWalked rules (chain rules n frame (going c.link.new.tree w.events c.in_ok-first.first)) c.chain.new.self c.chain.new.tree todos.Done)
      (c.saturating_sub-left.ensures ∙ ap (λ (n : ℕ). 32 - n) c.layer_count.ensures) rest);
  added = c.chain.ensures.added c.args.self.now (length c.args.frame.now.bytes) c.in_ok-first.ensures.adds;
  kept = c.in_ok-chain.ensures.kept c.args.self.now (length c.args.frame.now.bytes) c.in_ok-first.ensures.adds;
}

pub chain-requires-clause-few : goal.chain-requires-clause-few
chain-requires-clause-few c =
    room-on (length c.args.frame.now.bytes) c.args.self.now c.link.new.self c.in_ok-first.first c.requires.few c.in_ok-first.ensures.adds

pub chain-requires-clause-space : goal.chain-requires-clause-space
chain-requires-clause-space c =
    space_less c.saturating_sub-left.result c.link.new.tree c.in_ok-first.first (omega (arith, c.saturating_sub-left.ensures)) c.in_ok-first.ensures.space

pub returns-in_err-chain-clause-added : goal.returns-in_err-chain-clause-added
returns-in_err-chain-clause-added c = c.chain.ensures.added c.args.self.now (length c.args.frame.now.bytes) c.in_ok-first.ensures.adds
