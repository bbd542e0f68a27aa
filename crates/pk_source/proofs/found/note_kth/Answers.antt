use Rattle.std.proofs.Common.{◌≡◌, [], drop, ap, ◌∙◌}
use Rattle.std.proofs.lemmas.List.{drop_all}
use Rattle.pk_source.specs.Found.{kth, notes_told, note_told}
use Rattle.pk_source.proofs.FoundLemmas.{more_at, more_left}
use Rattle.pk_source.proofs.found.note_kth.Goals as goal

pub loop-note-preserved : goal.loop-note-preserved
loop-note-preserved c =
    more_left (note_told c.args.field) c.args.notes.now c.loop-note.note-index c.note-item.result c.note-item.result c.loop-note.left c.in-Left.rest _ c.loop-note-test.true c.note-item.is (c.in-Left.ensures ∙ ap (λ xs. kth xs c.loop-note.left) c.note_told.ensures) c.loop-note.invariant

pub returns-in-At : goal.returns-in-At
unfolding notes_told
returns-in-At c =
    more_at (note_told c.args.field) c.args.notes.now c.loop-note.note-index c.note-item.result c.note-item.result c.loop-note.left c.in-At.told _ c.loop-note-test.true c.note-item.is (c.in-At.ensures ∙ ap (λ xs. kth xs c.loop-note.left) c.note_told.ensures) c.loop-note.invariant

pub returns : goal.returns
unfolding notes_told
returns c =
    let rest : drop c.loop-note.note-index c.args.notes.now ≡ [] = drop_all c.loop-note.note-index c.args.notes.now c.loop-note-test.false in
    rw rest at c.loop-note.invariant
