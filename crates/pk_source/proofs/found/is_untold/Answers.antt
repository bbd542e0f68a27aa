use Rattle.std.proofs.Common.{◌≡◌, ◌==◌, ◌+◌, ◌∷◌, [], false, drop, ap, sym, refl, ◌∙◌}
use Rattle.std.proofs.lemmas.List.{drop_all, drop_more}
use Rattle.pk_source.specs.Found.{notes_told}
use Rattle.pk_source.proofs.found.is_untold.Goals as goal

pub loop-note-preserved : goal.loop-note-preserved
unfolding notes_told
loop-note-preserved c =
    let field = c.args.field in
    let notes = c.args.notes.now in
    let at = c.loop-note.note-index in
    let note = c.note-item.result in
    let other : (note.field == field) ≡ false = sym c.eq.ensures ∙ c.if-eq.false in
    let more : notes_told field (note ∷ drop (at + 1) notes) ≡ notes_told field (drop (at + 1) notes) = rw other refl in
    sym (ap (notes_told field) (drop_more notes at note c.loop-note-test.true ∙ ap (λ n. n ∷ drop (at + 1) notes) (sym c.note-item.is)) ∙ more) ∙ c.loop-note.invariant

pub returns : goal.returns
unfolding notes_told
returns c = λ _.
    let rest : drop c.loop-note.note-index c.args.notes.now ≡ [] = drop_all c.loop-note.note-index c.args.notes.now c.loop-note-test.false in
    sym c.loop-note.invariant ∙ ap (notes_told c.args.field) rest
