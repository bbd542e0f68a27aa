use Rattle.std.proofs.Common.{ℕ, List, ◌∷◌, Option, sym, subst, ap, ◌∙◌}
use Rattle.std.proofs.lemmas.Result.{IfOk-weaker}
use Rattle.pk_tree.specs.Trees.{TreeShown}
use Rattle.message_links.specs.Linked.{linked}
use Rattle.dissect.specs.declared.todo.Todo.TheVariants as todos
use Rattle.dissect.specs.Events.{NewFrame}
use Rattle.dissect.specs.Stands.{IsWalked}
use Rattle.dissect.specs.Trees.{kept_walk}
use Rattle.dissect.specs.Walks.{all_met, link_met}
use Rattle.dissect.proofs.dissector.make_tree.Goals as goal

pub returns-in-Ok-clause-walked : goal.returns-in-Ok-clause-walked
unfolding kept_walk
returns-in-Ok-clause-walked c =
    let rules = c.args.rules.now in
    let frame = c.args.frame.now in
    IfOk-weaker c.with_links.result _ _
    (λ tree is es stands. record {
      bare = c.finish.result;
      fits = c.finish.ensures.fits;
      walked = subst (λ (t : TreeShown). IsWalked rules (kept_walk rules c.args.wanted c.args.before es frame) c.read_frame.new.self t todos.Done) (sym c.finish.ensures.tree)
          (subst (λ (t : TreeShown). IsWalked rules (all_met rules frame (link_met rules frame t (NewFrame ∷ es))) c.read_frame.new.self c.read_frame.new.tree todos.Done)
          c.in_ok-tree.ensures.tree (c.in-Ok.ensures.walked es stands));
      with_links = is ∙ ap (λ (found : List (Option ℕ)). linked c.args.wanted found c.finish.result) c.deref.ensures.value;
    }) c.with_links.ensures
