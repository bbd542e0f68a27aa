-- The headers of a plain frame, which answer for it in place of a tree.
use Rattle.std.specs.Prelude.{◌≡◌, ◌==◌, ◌&&◌, ℕ, Bool, true, false, not, List, [], ◌∷◌}
use Rattle.std.specs.List.{AllByRecursion as Each}
use Rattle.pk_fields.specs.Ids.{DNS, HTTP, IP_FRAGMENT, IPV6_FRAGMENT, TCP_SEGMENT}
use Rattle.pk_source.specs.Outlines.{IsOutline, outlined}
use Rattle.pk_source.specs.declared.header.Header.{Header}
use Rattle.pk_source.specs.declared.header.Note.{Note}
use Rattle.pk_tree.specs.Trees.{TreeShown}
use Rattle.pk_tree.specs.declared.item.Item.{Item}
use Rattle.pk_tree.specs.declared.layer.Layer.{Layer}
use Rattle.pk_tree.specs.declared.table.Slot.{Slot}
use Rattle.pk_tree.specs.declared.table.Slot.TheVariants as slots

-- the headers in their order, and what is told beside their rows
pub record HeadsShown : Type 0 where
  pub headers : List Header
  pub notes : List Note

-- in a frame of these bytes, with the items of the wanted fields, they are this tree
pub record StandFor (bytes wanted : List ℕ) (heads : HeadsShown) (t : TreeShown) : Type 0 where
  pub outline : IsOutline bytes wanted heads.headers heads.notes
  pub tree : outlined bytes wanted heads.headers heads.notes ≡ t

-- ---- they show no message, and name no other frame

-- a field that doesn't tell a frame that brought a part of a datagram or of a message
pub record NamesNoFrame (field : ℕ) : Type 0 where
  pub part : (field == IP_FRAGMENT) ≡ false
  pub part6 : (field == IPV6_FRAGMENT) ≡ false
  pub segment : (field == TCP_SEGMENT) ≡ false

-- a layer of a header, or of data: it is no message of DNS or HTTP, and names no other frame
pub record IsHeaderLayer (layer : Layer) : Type 0 where
  pub dns : (layer.proto == DNS) ≡ false
  pub http : (layer.proto == HTTP) ≡ false
  pub items : Each (λ (item : Item). NamesNoFrame item.field) layer.items

-- whether the rows of a table are of such fields
abbrev pub names_none : ℕ → Bool
names_none field = not (field == IP_FRAGMENT) && (not (field == IPV6_FRAGMENT) && not (field == TCP_SEGMENT))

abbrev pub is_quiet : Slot → Bool
is_quiet (slots.Row field at) = names_none field
is_quiet (slots.Part field at size) = names_none field
is_quiet (slots.PartAt field at size) = names_none field
is_quiet (slots.Whole field at size) = names_none field
is_quiet (slots.Check test) = true
is_quiet (slots.Room test) = true

abbrev pub are_quiet : List Slot → Bool
are_quiet [] = true
are_quiet (slot ∷ slots) = is_quiet slot && are_quiet slots
