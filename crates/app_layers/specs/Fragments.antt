-- What a fragment's header's layer tells of what it made of those that were met before it.
use Rattle.std.specs.Prelude.{ℕ, Bool, List, [], ◌∷◌, length, if◌then◌else◌}
use Rattle.pk_base.specs.declared.span.Span.{Span}
use Rattle.pk_fields.specs.Ids.{IP_FRAGMENT, IP_REASSEMBLED_LENGTH, IP_FRAGMENT_ERROR, IPV6_FRAGMENT, IPV6_REASSEMBLED_LENGTH, IPV6_FRAGMENT_ERROR}
use Rattle.pk_base.specs.declared.value.Value.TheVariants.{Uint}
use Rattle.pk_tree.specs.Trees.{TreeShown, with_item, with_buffer, made_of}
use Rattle.ip_join.specs.declared.joined.ConflictKind.{ConflictKind}
use Rattle.ip_join.specs.declared.joined.ConflictKind.TheVariants.{TooLong, MultipleTails, Overlap6}
use Rattle.ip_join.specs.declared.joined.Datagram.{Datagram}

abbrev pub error_number : ConflictKind → ℕ
error_number TooLong = 1
error_number MultipleTails = 2
error_number Overlap6 = 3

abbrev pub error_field : Bool → ℕ
error_field six = if six then IPV6_FRAGMENT_ERROR else IP_FRAGMENT_ERROR

abbrev pub frame_field : Bool → ℕ
frame_field six = if six then IPV6_FRAGMENT else IP_FRAGMENT

abbrev pub length_field : Bool → ℕ
length_field six = if six then IPV6_REASSEMBLED_LENGTH else IP_REASSEMBLED_LENGTH

-- an item with a number, in the layer of the fragment's header
abbrev pub number_told : TreeShown → ℕ → ℕ → TreeShown
number_told t field number = with_item t (made_of field (Uint number))

-- why the fragments can't be joined
unfoldable pub conflict_told : TreeShown → Bool → ConflictKind → TreeShown
conflict_told t six kind = number_told t (error_field six) (error_number kind)

-- the frames that brought the fragments, in their order
abbrev pub frames_told : TreeShown → Bool → List ℕ → TreeShown
frames_told t six [] = t
frames_told t six (frame ∷ frames) = frames_told (number_told t (frame_field six) frame) six frames

-- a datagram: the frames, its length, and its bytes as a buffer of their own
unfoldable pub joined_told : TreeShown → Bool → Datagram → TreeShown
joined_told t six datagram =
    with_buffer (number_told (frames_told t six datagram.frames) (length_field six) (length datagram.bytes)) datagram.bytes

-- all of the buffer that a datagram becomes
abbrev pub joined_span : TreeShown → Datagram → Span
joined_span t datagram = record { buffer = length t.buffers; start = 0; len = length datagram.bytes }
