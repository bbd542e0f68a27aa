use Rattle.std.proofs.Common.{◌≡◌, ◌+◌, ℕ, suc, List, ap, ◌∙◌, sym, subst, take, arith}
use Rattle.message_links.specs.declared.notes.Note.{Note}
use Rattle.message_links.specs.Notes.{Noted, noted_on}
use Rattle.message_links.specs.LinkTables.{LinksStandFor}
use Rattle.message_links.proofs.LinkLemmas.{all_taken, noted_next}
use Rattle.message_links.proofs.links.Links.note_all.Goals as goal

pub loop-note-init : goal.loop-note-init
loop-note-init c = λ ns stands. stands

pub loop-note-preserved : goal.loop-note-preserved
loop-note-preserved c = λ ns stands.
    let i = c.loop-note.note-index in
    let one : suc i ≡ i + 1 = omega arith in
    subst (λ (all : List Noted). LinksStandFor all c.note.new.self)
    (sym (noted_next c.args.frame c.args.at c.args.notes.now i _ ns c.loop-note-test.true) ∙ ap (λ (n : ℕ). noted_on c.args.frame c.args.at (take n c.args.notes.now) ns) one)
    (c.in_ok-note.ensures _ (c.loop-note.invariant ns stands))

pub returns : goal.returns
returns c = λ ns stands.
    subst (λ (notes : List Note). LinksStandFor (noted_on c.args.frame c.args.at notes ns) c.loop-note.self)
    (all_taken c.loop-note.note-index c.args.notes.now c.loop-note-test.false) (c.loop-note.invariant ns stands)
