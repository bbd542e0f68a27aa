use Rattle.std.proofs.Common.{◌≡◌, ◌+◌, ℕ, suc, List, [], ◌∷◌, ◌++◌, get_or, map, take, ap, ◌∙◌, sym, subst, arith}
use Rattle.std.proofs.lemmas.List.Elements.{All-get_or}
use Rattle.tcp_messages.specs.Shown.{IsWholeIn}
use Rattle.message_links.specs.declared.notes.Note.{Note}
use Rattle.message_links.specs.Notes.{message_note}
use Rattle.message_links.proofs.NoteLemmas.{map_next, taken_all}
use Rattle.message_links.proofs.segment_notes.notes_of.Goals as goal

pub message_note-requires : goal.message_note-requires
message_note-requires c = record {
  whole = subst (IsWholeIn c.args.payload.now) (sym c.message-item.is)
      (All-get_or (IsWholeIn c.args.payload.now) c.args.messages.now c.loop-message.message-index c.message-item.result c.loop-message-test.true c.requires.whole);
}

pub loop-message-preserved : goal.loop-message-preserved
loop-message-preserved c =
    let f = message_note c.args.app c.args.payload.now in
    let i = c.loop-message.message-index in
    let one : suc i ≡ i + 1 = omega arith in
    c.in_ok-push.ensures.items
    ∙ ap (λ (note : Note). c.loop-message.notes.items ++ note ∷ []) (c.message_note.ensures ∙ ap f c.message-item.is)
    ∙ ap (λ (notes : List Note). notes ++ f (get_or c.args.messages.now i c.message-item.result) ∷ []) c.loop-message.invariant
    ∙ sym (map_next f c.args.messages.now i c.message-item.result c.loop-message-test.true)
    ∙ ap (λ (n : ℕ). map f (take n c.args.messages.now)) one

pub returns : goal.returns
returns c =
    c.loop-message.invariant
    ∙ ap (map (message_note c.args.app c.args.payload.now)) (taken_all c.loop-message.message-index c.args.messages.now c.loop-message-test.false)
