use Rattle.std.proofs.Common.{◌∙◌, ◌++◌, ◌∷◌, [], ℕ, List, Bool, Some, cond, ap, sym, rules}
use Rattle.indexmap.specs.IndexMap.{get}
use Rattle.message_links.specs.declared.notes.Direction.{Direction}
use Rattle.message_links.specs.Links.{same_direction}
use Rattle.message_links.proofs.LinkKeys.{direction_eq_is}
use Rattle.message_links.proofs.LinkLemmas.{frame_added, frames_in}
use Rattle.message_links.proofs.link_tables.Requests.add_further.Goals as goal

pub returns-in_ok-push-in-Some-clause-added : goal.returns-in_ok-push-in-Some-clause-added
returns-in_ok-push-in-Some-clause-added c = λ e other.
    let frames = c.push.new.self in
    frame_added (λ at. get same_direction c.args.self.now.all at) (λ at. get same_direction (c.get_mut.follows.lender frames) at) c.args.at other c.args.frame frames
    (ap (λ (eq : Direction → Direction → Bool). get eq (c.get_mut.follows.lender frames) other) (sym direction_eq_is)
    ∙ ((c.get_mut.follows.holds frames).3 (search rules)).0 other
    ∙ ap (λ (eq : Direction → Direction → Bool). cond (eq c.args.at other) (Some frames) (get eq c.args.self.now.all other)) direction_eq_is)
    (c.in_ok-push-in-Some.ensures.items
    ∙ ap (λ (xs : List ℕ). xs ++ c.args.frame ∷ []) (ap frames_in (c.in-Some.ensures.value
    ∙ ap (λ (eq : Direction → Direction → Bool). get eq c.args.self.now.all c.args.at) direction_eq_is)))
