use Rattle.std.proofs.Common.{◌≡◌, map, take}
use Rattle.message_links.specs.Notes.{message_note}
use Rattle.message_links.proofs.segment_notes.notes_of.Given as goal

-- the messages so far
abbrev pub invariant-loop-message : goal.invariant-loop-message
invariant-loop-message l = l.notes.items ≡ map (message_note l.app l.payload) (take l.message-index l.messages)
