-- The parts of an outline, from which its fields are read one after the other.
use Rattle.std.specs.List.{All as ForAll}
use Rattle.pk_source.specs.Outlines.{IsOutline, outlined}
use Rattle.pk_source.specs.Picks.{Knows}
use Rattle.pk_source.specs.declared.reader.Parts.{Parts}
use Rattle.pk_tree.specs.Trees.{TreeShown}

abbrev pub tree_of : Parts → TreeShown
tree_of parts = outlined parts.bytes.now parts.wanted.now parts.headers.now parts.notes.now

pub record AreOutline (parts : Parts) : Type 0 where
  pub outline : IsOutline parts.bytes.now parts.wanted.now parts.headers.now parts.notes.now
  pub known : ForAll (Knows parts.places.now) parts.headers.now
