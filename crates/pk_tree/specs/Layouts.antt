-- A layer as the list of its rows: what each step of the list gives, and where reading ends.
use Rattle.std.specs.Prelude.{◌==◌, ℕ, ◌+◌, ◌*◌, Bool, true, false, ◌&&◌, if◌then◌else◌, List, [], ◌∷◌, ◌++◌, length, nat_le, Option, Some, None, IsTrue, is_none}
use Rattle.std.specs.List.{AllByRecursion as Each}
use Rattle.pk_base.specs.declared.span.Span.{Span}
use Rattle.pk_base.specs.Bits.{number_of_bits}
use Rattle.pk_tree.specs.Buffers.{buffer_of}
use Rattle.pk_fields.specs.Fields.{row_of}
use Rattle.pk_fields.specs.Ids.{WS_SHORT, WS_MALFORMED}
use Rattle.pk_base.specs.declared.heads.Mode.{Mode}
use Rattle.pk_base.specs.declared.heads.Mode.TheVariants.{Plain, Embedded}
use Rattle.pk_tree.specs.declared.item.Item.{Item}
use Rattle.pk_tree.specs.declared.layout.Reach.{Reach}
use Rattle.pk_tree.specs.declared.layout.Reach.TheVariants.{All, Short, Failed}
use Rattle.pk_tree.specs.declared.layout.Step.{Step}
use Rattle.pk_tree.specs.declared.layout.Step.TheVariants.{Row, Part, Whole, Derived, Made, Check, Room}
use Rattle.pk_tree.specs.Trees.{TreeShown, with_layer, with_item, read_of, derived_of, made_of}
use Rattle.pk_tree.specs.Values.{IsOfKind, is_read, size_of}

-- the number that bits spell, or 0 where not all of them are there
unfoldable pub peeked : List ℕ → ℕ → ℕ → ℕ
peeked bytes first width =
    if nat_le (first + width) (8 * length bytes) then number_of_bits bytes first width else 0

-- so many bytes of a span, from a place in it on
abbrev pub within : Span → ℕ → ℕ → Span
within span at len = record { buffer = span.buffer; start = span.start + at; len = len }

abbrev pub is_all : Reach → Bool
is_all All = true
is_all Short = false
is_all Failed = false

-- bytes fit where they end inside the layer
abbrev pub fitted : ℕ → ℕ → ℕ → Reach
fitted end at len = if nat_le (at + len) end then All else Short

-- how far one step lets reading go on in a layer of so many bytes
unfoldable pub step_reach : ℕ → Step → Reach
step_reach end (Row field at) = fitted end at (size_of field)
step_reach end (Part field at len) = if len == 0 then All else fitted end at len
step_reach end (Whole field at len) = fitted end at len
step_reach end (Derived field value at len) = fitted end at len
step_reach end (Made field value) = All
step_reach end (Check holds) = if holds then All else Failed
step_reach end (Room room) = if room then All else Short

-- the items of one step
unfoldable pub step_items : List (List ℕ) → Span → Step → List Item
step_items buffers span (Row field at) = read_of buffers field (within span at (size_of field)) ∷ []
step_items buffers span (Part field at len) =
    if len == 0 then [] else read_of buffers field (within span at len) ∷ []
step_items buffers span (Whole field at len) = read_of buffers field (within span at len) ∷ []
step_items buffers span (Derived field value at len) =
    derived_of field value (within span at len) ∷ []
step_items buffers span (Made field value) = made_of field value ∷ []
step_items buffers span (Check holds) = []
step_items buffers span (Room room) = []

-- what follows a step counts only where the step was read
abbrev pub items_after : Reach → List Item → List Item
items_after All items = items
items_after Short items = []
items_after Failed items = []

abbrev pub reach_after : Reach → Reach → Reach
reach_after All reach = reach
reach_after Short reach = Short
reach_after Failed reach = Failed

-- the items of the steps in their order, up to the first that isn't read
unfoldable pub items_read : List (List ℕ) → Span → List Step → List Item
items_read buffers span [] = []
items_read buffers span (step ∷ steps) =
    items_after (step_reach span.len step)
    (step_items buffers span step ++ items_read buffers span steps)

-- how far the steps are read in a layer of so many bytes
unfoldable pub reach : ℕ → List Step → Reach
reach end [] = All
reach end (step ∷ steps) = reach_after (step_reach end step) (reach end steps)

-- a span of the frame's own bytes, up to their end
abbrev pub reaches_end : List (List ℕ) → Span → Bool
reaches_end buffers span = span.buffer == 0 && span.start + span.len == length (buffer_of buffers 0)

-- the fault layer that follows where reading ended early: short where bytes were not captured that could have held the
-- row; in an embedded packet a row that doesn't fit is none
abbrev pub fault_of : Mode → Bool → Reach → Option ℕ
fault_of mode torn All = None
fault_of Plain torn Short = Some (if torn then WS_SHORT else WS_MALFORMED)
fault_of Embedded torn Short = None
fault_of mode torn Failed = Some WS_MALFORMED

abbrev pub end_of : Span → Span
end_of span = record { buffer = span.buffer; start = span.start + span.len; len = 0 }

abbrev pub with_fault : TreeShown → Span → Option ℕ → TreeShown
with_fault t span None = t
with_fault t span (Some fault) = with_layer t fault (end_of span) []

-- the tree with one more layer, which is read by these steps, and the fault layer behind it, where one follows; cut says
-- that the frame was captured only in part
unfoldable pub layer_read : TreeShown → ℕ → Span → List Step → Mode → Bool → TreeShown
layer_read t proto span steps mode cut =
    with_fault (with_layer t proto span (items_read t.buffers span steps)) span
    (fault_of mode (cut && reaches_end t.buffers span) (reach span.len steps))

-- the field belongs to the protocol
abbrev pub belongs : ℕ → ℕ → Bool
belongs proto field = (row_of field).proto == proto

-- a step that may stand in a protocol's layout; Part and Whole are for fields without bits
abbrev pub StepFits : ℕ → Step → Type 0
StepFits proto (Row field at) = IsTrue (belongs proto field && is_read (row_of field))
StepFits proto (Part field at len) =
    IsTrue (belongs proto field && is_read (row_of field) && is_none (row_of field).bits)
StepFits proto (Whole field at len) =
    IsTrue (belongs proto field && is_read (row_of field) && is_none (row_of field).bits)
StepFits proto (Derived field value at len) =
    IsTrue (belongs proto field) × IsOfKind (row_of field).kind value
StepFits proto (Made field value) =
    IsTrue (belongs proto field) × IsOfKind (row_of field).kind value
StepFits proto (Check holds) = Unit {0}
StepFits proto (Room room) = Unit {0}

unfoldable pub StepsFit : ℕ → List Step → Type 0
StepsFit proto steps = Each (StepFits proto) steps

-- the tree with these items in its last layer too
unfoldable pub with_items : TreeShown → List Item → TreeShown
with_items t [] = t
with_items t (item ∷ items) = with_items (with_item t item) items
