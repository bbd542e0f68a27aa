use Rattle.std.proofs.Common.{◌∙◌, ℕ, ◌+◌, ◌*◌, ap, sym, get_or}
use Rattle.message_links.proofs.NoteLemmas.{long_note, note_by, short_other}
use Rattle.message_links.proofs.notes.dns_note.Goals as goal

pub returns-in_default : goal.returns-in_default
returns-in_default c = sym (short_other c.args.bytes.now c.in_default.len_below)

pub returns-in-len4-up : goal.returns-in-len4-up
returns-in-len4-up c =
    let bytes = c.args.bytes.now in
    c.flagged_note.ensures
    ∙ ap (λ (high : ℕ). note_by (get_or bytes 2 0) (high * 256 + c.from-in-len4-up.result)) c.from.ensures
    ∙ ap (λ (low : ℕ). note_by (get_or bytes 2 0) (get_or bytes 0 0 * 256 + low)) c.from-in-len4-up.ensures
    ∙ sym (long_note bytes c.in-len4-up.len_at_least)
