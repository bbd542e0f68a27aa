use Rattle.std.proofs.Common.{List, drop}
use Rattle.message_links.specs.Notes.{Noted}
use Rattle.message_links.specs.LinkTables.{LinksStandFor}
use Rattle.message_links.proofs.LinkLemmas.{AreLinksTo}
use Rattle.message_links.proofs.links.Links.find_all.Given as goal

abbrev pub invariant-loop-note : goal.invariant-loop-note
invariant-loop-note l = (ns : List Noted) → LinksStandFor ns l.self → AreLinksTo ns l.fn.at l.notes (drop l.note-index l.notes) l.number l.links.items
