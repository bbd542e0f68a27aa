use Rattle.std.proofs.Common.{◌≡◌, ◌==◌, ◌+◌, ◌<◌, ◌∷◌, [], drop, true, false, length, rules, ap, sym, ◌∙◌}
use Rattle.std.proofs.lemmas.List.{get_or_default}
use Rattle.pk_source.specs.Found.{notes_told}
use Rattle.pk_source.specs.declared.header.Note.{Note}
use Rattle.pk_source.proofs.OnlyLemmas.{only_note_is, other_note, take_rest}
use Rattle.pk_source.proofs.found.only_told.Goals as goal

pub loop-at-preserved : goal.loop-at-preserved
loop-at-preserved c =
    let inside : c.loop-at.at < length c.args.notes.now = search rules in
    let other : (c.index-notes-at.result.field == c.args.field) ≡ false = ap (λ (note : Note). note.field == c.args.field) c.index-notes-at.is ∙ sym c.eq.ensures ∙ c.if-eq.false in
    other_note c.args.field c.args.notes.now c.loop-at.at c.index-notes-at.result other inside c.index-notes-at.is c.loop-at.invariant

pub returns-then-is_untold : goal.returns-then-is_untold
returns-then-is_untold c =
    let inside : c.loop-at.at < length c.args.notes.now = search rules in
    let mine : (c.index-notes-at.result.field == c.args.field) ≡ true = ap (λ (note : Note). note.field == c.args.field) c.index-notes-at.is ∙ sym c.eq.ensures ∙ c.if-eq.true in
    let none : notes_told c.args.field (drop (c.loop-at.at + 1) c.args.notes.now) ≡ [] =
    ap (notes_told c.args.field) (sym (take_rest c.args.notes.now (c.loop-at.at + 1))) ∙ c.is_untold.ensures c.if-is_untold.true in
    only_note_is c.args.field c.args.notes.now c.loop-at.at c.index-notes-at.result mine inside c.index-notes-at.is c.loop-at.invariant none
    ∙ ap (λ (note : Note). note.told ∷ []) (c.index-notes-at.is ∙ get_or_default c.args.notes.now c.loop-at.at c.index-notes-at.result c.index-notes-at-then-is_untold.result inside)
