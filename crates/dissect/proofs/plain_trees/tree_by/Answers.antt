use Rattle.std.proofs.Common.{◌≡◌, ap, sym, subst, ◌∙◌, drop}
use Rattle.std.proofs.lemmas.Result.{IfOk-weaker}
use Rattle.pk_source.specs.Outlines.{outlined}
use Rattle.pk_tree.specs.Trees.{IsTree, TreeShown}
use Rattle.message_links.specs.Linked.{linked}
use Rattle.dissect.specs.Carried.{frame_notes}
use Rattle.dissect.specs.Feeding.{brought_over, grown_by}
use Rattle.dissect.proofs.FedLemmas.{can_show, headers_grown}
use Rattle.dissect.proofs.plain_trees.tree_by.Goals as goal

pub show_brought-requires-clause-few : goal.show_brought-requires-clause-few
show_brought-requires-clause-few c =
    (can_show c.requires.brought.0 c.args.asked.now.wanted.now c.args.asked.now.before.now c.args.frame.now c.args.brought.now c.args.headers.now c.requires.brought.1 c.requires.brought.2 c.in_ok-tree.tree c.requires.brought.3 c.in_ok-tree.ensures.tree).few

pub show_brought-requires-clause-read : goal.show_brought-requires-clause-read
show_brought-requires-clause-read c =
    (can_show c.requires.brought.0 c.args.asked.now.wanted.now c.args.asked.now.before.now c.args.frame.now c.args.brought.now c.args.headers.now c.requires.brought.1 c.requires.brought.2 c.in_ok-tree.tree c.requires.brought.3 c.in_ok-tree.ensures.tree).read

pub show_brought-requires-clause-last : goal.show_brought-requires-clause-last
show_brought-requires-clause-last c =
    (can_show c.requires.brought.0 c.args.asked.now.wanted.now c.args.asked.now.before.now c.args.frame.now c.args.brought.now c.args.headers.now c.requires.brought.1 c.requires.brought.2 c.in_ok-tree.tree c.requires.brought.3 c.in_ok-tree.ensures.tree).last

pub show_brought-requires-clause-inside : goal.show_brought-requires-clause-inside
show_brought-requires-clause-inside c =
    (can_show c.requires.brought.0 c.args.asked.now.wanted.now c.args.asked.now.before.now c.args.frame.now c.args.brought.now c.args.headers.now c.requires.brought.1 c.requires.brought.2 c.in_ok-tree.tree c.requires.brought.3 c.in_ok-tree.ensures.tree).inside

pub show_brought-requires-clause-showable : goal.show_brought-requires-clause-showable
show_brought-requires-clause-showable c = c.requires.brought.3.brings.showable

pub returns-in-Ok-clause-tree : goal.returns-in-Ok-clause-tree
returns-in-Ok-clause-tree c =
    let frame = c.args.frame.now in
    let wanted = c.args.asked.now.wanted.now in
    let before = c.args.asked.now.before.now in
    let headers = c.args.headers.now in
    let brought = c.args.brought.now in
    let is = c.requires.brought.3 in
    let bare : c.finish.result ≡ brought_over frame brought (outlined frame.bytes wanted headers (frame_notes before frame)) =
    c.finish.ensures.tree ∙ c.in-Ok.ensures
    ∙ ap (λ (t : TreeShown). brought_over frame brought (grown_by t (drop 1 headers))) c.in_ok-tree.ensures.tree
    ∙ ap (brought_over frame brought) (sym (headers_grown wanted before frame is.way headers is.carries is.opens)) in
    IfOk-weaker c.with_links.result _ _ (λ tree is_tree. is_tree ∙ ap (linked wanted c.args.found.now) bare) c.with_links.ensures

pub returns-in-Ok-clause-fits : goal.returns-in-Ok-clause-fits
returns-in-Ok-clause-fits c =
    let frame = c.args.frame.now in
    let wanted = c.args.asked.now.wanted.now in
    let before = c.args.asked.now.before.now in
    let headers = c.args.headers.now in
    let brought = c.args.brought.now in
    let is = c.requires.brought.3 in
    let bare : c.finish.result ≡ brought_over frame brought (outlined frame.bytes wanted headers (frame_notes before frame)) =
    c.finish.ensures.tree ∙ c.in-Ok.ensures
    ∙ ap (λ (t : TreeShown). brought_over frame brought (grown_by t (drop 1 headers))) c.in_ok-tree.ensures.tree
    ∙ ap (brought_over frame brought) (sym (headers_grown wanted before frame is.way headers is.carries is.opens)) in
    IfOk-weaker c.with_links.result _ _ (λ tree is_tree. subst IsTree bare c.finish.ensures.fits) c.with_links.ensures
