use Rattle.std.proofs.Common.{List, take}
use Rattle.message_links.specs.Notes.{Noted, noted_on}
use Rattle.message_links.specs.LinkTables.{LinksStandFor}
use Rattle.message_links.proofs.links.Links.note_all.Given as goal

-- the messages so far are noted
abbrev pub invariant-loop-note : goal.invariant-loop-note
invariant-loop-note l = (ns : List Noted) → LinksStandFor ns l.initial.self → LinksStandFor (noted_on l.fn.frame l.fn.at (take l.note-index l.notes) ns) l.self
