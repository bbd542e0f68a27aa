use Rattle.std.proofs.Common.{◌∙◌, ◌++◌, ◌∷◌, [], ℕ, List, Bool, Option, Some, cond, ap, sym}
use Rattle.std.specs.Global.{Vec}
use Rattle.indexmap.specs.IndexMap.{get}
use Rattle.message_links.specs.declared.notes.Direction.{Direction}
use Rattle.message_links.specs.Links.{same_direction}
use Rattle.message_links.proofs.LinkKeys.{direction_eq_is}
use Rattle.message_links.proofs.LinkLemmas.{frame_added, same_get}
use Rattle.message_links.proofs.link_tables.Requests.add.Goals as goal

pub returns : goal.returns
returns c = λ other.
    let frames = c.in_ok-frames.frames in
    let none = c.if-branch.false in
    frame_added (λ at. get same_direction c.args.self.now.all at) (λ at. get same_direction c.insert.new.self at) c.args.at other c.args.frame frames
    (ap (λ (eq : Direction → Direction → Bool). get eq c.insert.new.self other) (sym direction_eq_is)
    ∙ c.in_ok-insert.ensures.updates.0 other
    ∙ ap (λ (eq : Direction → Direction → Bool). cond (eq c.args.at other) (Some frames) (get eq c.add_further.new.self.all other)) direction_eq_is
    ∙ ap (λ (o : Option (Vec ℕ)). cond (same_direction c.args.at other) (Some frames) o)
    (same_get c.add_further.new.self.all c.args.self.now.all other (c.in_ok-add_further.ensures.kept none)))
    (c.in_ok-frames.ensures ∙ sym (ap (λ (xs : List ℕ). xs ++ c.args.frame ∷ []) (c.in_ok-add_further.ensures.none none)))
