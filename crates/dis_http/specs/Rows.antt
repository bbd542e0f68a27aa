-- A message's layer has the rows of its head by the grammar, and then the bytes of its body.
use Rattle.std.specs.Prelude.{◌≡◌, ℕ, Some, List, [], ◌∷◌, ◌++◌, length, drop, All}
use Rattle.std.specs.List.{flat_map}
use Rattle.stream_messages.specs.declared.shape.Body.{Body}
use Rattle.stream_messages.specs.declared.shape.Body.TheVariants.{None as Bodiless, Plain, Chunked, NotShown}
use Rattle.stream_messages.specs.declared.shape.Shape.{Shape}
use Rattle.stream_messages.specs.ChunkedBodies.{SizedChunk, StandsAt, IsChunked}
use Rattle.stream_messages.specs.Heads.{Head, print_head, head_of}
use Rattle.pk_base.specs.declared.span.Span.{Span}
use Rattle.pk_tree.specs.Buffers.{IsInside, bytes_of}
use Rattle.pk_fields.specs.Ids.{HTTP, HTTP_FILE_DATA}
use Rattle.pk_tree.specs.declared.item.Item.{Item}
use Rattle.pk_tree.specs.declared.layout.Step.{Step}
use Rattle.pk_tree.specs.Layouts.{step_items}
use Rattle.pk_tree.specs.Trees.{TreeShown, with_buffer, with_layer, read_of}
use Rattle.dis_http.specs.Heads.{Told, head_told, head_steps}
use Rattle.dis_http.specs.Http.{IsShape, http_read}

abbrev pub IsIn : List ℕ → Told → Type 0
IsIn bytes told = StandsAt told.at told.text bytes

-- the items of all these rows
abbrev pub row_items : TreeShown → Span → List Step → List Item
row_items t span steps = flat_map (step_items t.buffers span) steps

-- the tree before the layer: joined chunks have a buffer of their own
abbrev pub before_layer : TreeShown → List ℕ → Body → TreeShown
before_layer t content (Chunked pieces) = with_buffer t content
before_layer t content Bodiless = t
before_layer t content (Plain len) = t
before_layer t content NotShown = t

-- the bytes of a body: those behind the head, or those of the chunks that stand there by the grammar, one behind the other
abbrev pub IsContent : List ℕ → Shape → Body → List ℕ → Type 0
IsContent bytes shape Bodiless content = content ≡ []
IsContent bytes shape (Plain len) content = content ≡ drop shape.head bytes
IsContent bytes shape (Chunked pieces) content =
    (chunked : IsChunked bytes shape.head pieces shape.end)
    × (content ≡ flat_map (λ (c : SizedChunk). c.content) chunked.body.chunks)
IsContent bytes shape NotShown content = content ≡ []

-- the items that tell so many bytes of a body: one, and none for no bytes
abbrev pub TellsContent : TreeShown → List ℕ → List Item → Type 0
TellsContent t [] items = items ≡ []
TellsContent t (b ∷ content) items =
    (place : Span) × (items ≡ read_of t.buffers HTTP_FILE_DATA place ∷ [])
    × (bytes_of t.buffers place ≡ b ∷ content)

-- the tree has one layer more, of these items and those of a body's bytes
pub record HasLayer (t : TreeShown) (span : Span) (items : List Item) (content : List ℕ) (new : TreeShown) : Type 0 where
  pub body : List Item
  pub tells : TellsContent t content body
  pub layer : new ≡ with_layer t HTTP span (items ++ body)

-- the layer of a message has exactly the rows of the head at its front, in their order, and then its body; what a row of the
-- head tells stands at its place
pub record HasRows (t : TreeShown) (span : Span) (shape : Shape) (new : TreeShown) : Type 0 where
  pub head : Head
  pub reads : head_of (bytes_of t.buffers span) ≡ Some head
  pub behind : shape.head ≡ length (print_head head)
  pub told : All (IsIn (bytes_of t.buffers span)) (head_told head)
  pub content : List ℕ
  pub is_content : IsContent (bytes_of t.buffers span) shape shape.body content
  pub layer : HasLayer (before_layer t content shape.body) span
      (row_items (before_layer t content shape.body) span (head_steps head)) content new

abbrev pub RowsLaw : Type 0
RowsLaw = (t : TreeShown) (span : Span) (shape : Shape) → IsInside t.buffers span
    → IsShape shape (bytes_of t.buffers span) → HasRows t span shape (http_read t span shape)
