use Rattle.std.proofs.Common.{◌++◌, List, ◌∷◌, [], Option, ℕ, ap, ◌∙◌, sym, append-nil}
use Rattle.message_links.specs.Links.{answers_in, links_from}
use Rattle.message_links.proofs.LinkLemmas.{all_dropped, links_further}
use Rattle.message_links.proofs.links.Links.find_all.Goals as goal

pub loop-note-init : goal.loop-note-init
loop-note-init c = λ ns stands. (
  answers_in ns c.args.at,
  c.find-number.ensures ∙ stands.answers c.args.at,
  ap (λ (links : List (Option ℕ)). links ++ links_from ns c.args.at (answers_in ns c.args.at) c.args.notes.now) c.new-links.ensures.items,
)

pub loop-note-preserved : goal.loop-note-preserved
loop-note-preserved c = λ ns stands.
    links_further ns c.args.at c.args.notes.now c.loop-note.note-index c.loop-note.number c.next_number-number.result _ c.loop-note.links.items c.push.new.self.items c.loop-note-test.true
    (c.loop-note.invariant ns stands) c.next_number-number.ensures
    (λ exact is. c.in_ok-push.ensures.items ∙ ap (λ (link : Option ℕ). c.loop-note.links.items ++ link ∷ []) (c.find.ensures ns exact stands is))

pub returns : goal.returns
returns c = λ ns stands.
    let all = c.loop-note.invariant ns stands in
    sym (append-nil c.loop-note.links.items)
    ∙ ap (λ (links : List (Option ℕ)). c.loop-note.links.items ++ links) (sym (all_dropped ns c.args.at all.0 c.loop-note.note-index c.args.notes.now c.loop-note-test.false))
    ∙ all.2
