-- A whole HTTP/1 message (RFC 9112): its head, and its body, whose chunks are joined in a buffer of their own.
use Rattle.std.specs.Prelude.{◌≡◌, ℕ, ◌&&◌, Bool, false, if◌then◌else◌, List, [], ◌∷◌, ◌++◌, length, take, drop, nat_lt, Some}
use Rattle.std.specs.List.{flat_map}
use Rattle.pk_base.specs.declared.span.Span.{Span}
use Rattle.pk_tree.specs.Buffers.{bytes_of}
use Rattle.pk_fields.specs.Ids.{HTTP, HTTP_FILE_DATA}
use Rattle.pk_base.specs.declared.heads.Mode.TheVariants.{Plain as InPlain}
use Rattle.pk_tree.specs.declared.layout.Step.{Step}
use Rattle.pk_tree.specs.declared.layout.Step.TheVariants.{Part}
use Rattle.pk_tree.specs.Layouts.{is_all, reach, layer_read}
use Rattle.pk_tree.specs.Trees.{TreeShown, with_buffer, with_item, read_of}
use Rattle.stream_messages.specs.declared.shape.Body.{Body}
use Rattle.stream_messages.specs.declared.shape.Body.TheVariants.{None as Bodiless, Plain, Chunked, NotShown}
use Rattle.stream_messages.specs.declared.shape.Piece.{Piece}
use Rattle.stream_messages.specs.declared.shape.Shape.{Shape}
use Rattle.stream_messages.specs.Heads.{head_of}
use Rattle.stream_messages.specs.HttpMessages.{first_message}
use Rattle.dis_http.specs.Heads.{head_rows}

-- a body that is as it stands
abbrev pub body_steps : ℕ → Body → List Step
body_steps head Bodiless = []
body_steps head (Plain len) = Part HTTP_FILE_DATA head len ∷ []
body_steps head (Chunked pieces) = []
body_steps head NotShown = []

-- the rows of the head at the front, and then of the body
unfoldable pub http_layout : Shape → List ℕ → List Step
http_layout shape bytes = head_rows (head_of bytes) ++ body_steps shape.head shape.body

-- these bytes are one message, of this shape; it may be a response to HEAD
abbrev pub IsShape : Shape → List ℕ → Type 0
IsShape shape bytes = (asked : Bool) × (first_message asked bytes ≡ Some shape)
    × (shape.end ≡ length bytes)

-- the bytes of the chunks of a body
abbrev pub piece_bytes : List ℕ → Piece → List ℕ
piece_bytes bytes piece = take piece.len (drop piece.start bytes)

unfoldable pub joined : List ℕ → List Piece → List ℕ
joined bytes pieces = flat_map (piece_bytes bytes) pieces

-- the item of joined chunks, which are buffer `number`; no item for none
abbrev pub with_content : TreeShown → Bool → ℕ → List ℕ → TreeShown
with_content t whole number content =
    if whole && nat_lt 0 (length content)
    then with_item t (read_of t.buffers HTTP_FILE_DATA
    (record { buffer = number; start = 0; len = length content })) else t

abbrev pub plain_read : TreeShown → Span → List Step → TreeShown
plain_read t span steps = layer_read t HTTP span steps InPlain false

abbrev pub chunked_read : TreeShown → Span → List Step → List ℕ → TreeShown
chunked_read t span steps content =
    with_content (plain_read (with_buffer t content) span steps) (is_all (reach span.len steps))
    (length t.buffers) content

abbrev pub body_read : TreeShown → Span → List Step → List ℕ → Body → TreeShown
body_read t span steps bytes (Chunked pieces) = chunked_read t span steps (joined bytes pieces)
body_read t span steps bytes Bodiless = plain_read t span steps
body_read t span steps bytes (Plain len) = plain_read t span steps
body_read t span steps bytes NotShown = plain_read t span steps

-- the tree with the layer of a message, and before it the buffer of a chunked body
unfoldable pub http_read : TreeShown → Span → Shape → TreeShown
http_read t span shape =
    body_read t span (http_layout shape (bytes_of t.buffers span))
    (bytes_of t.buffers span) shape.body
