-- The buffers that messages add to a tree: they come behind those that are there, whose spans stay as they are.
use Rattle.std.proofs.Common.{◌≡◌, ℕ, ◌+◌, ◌<◌, ◌≤◌, Bool, true, false, if◌then◌else◌, List, [], ◌∷◌, ◌++◌, length, Option, None, Some, refl, sym, ap, ◌∙◌, arith, length-append, append_assoc, append-nil}
use Rattle.std.proofs.lemmas.List.{get_or_append_left}
use Rattle.std.specs.Prelude.{◌&&◌, nat_lt}
use Rattle.pk_base.specs.declared.span.Span.{Span}
use Rattle.pk_tree.specs.Buffers.{IsInside, bytes_of, buffer_of}
use Rattle.pk_fields.specs.FieldSets.{is_in}
use Rattle.pk_fields.specs.Ids.{HTTP, HTTP_FILE_DATA}
use Rattle.pk_base.specs.declared.heads.Mode.{Mode}
use Rattle.pk_base.specs.declared.heads.Mode.TheVariants.{Plain as PlainMode}
use Rattle.pk_tree.specs.declared.item.Item.{Item}
use Rattle.pk_tree.specs.declared.layout.Step.{Step}
use Rattle.pk_tree.specs.Layouts.{is_all, reach, reaches_end, fault_of, with_fault, items_read, layer_read}
use Rattle.pk_tree.specs.Trees.{TreeShown, with_buffer, with_item, with_last, with_item_at, with_layer, read_of}
use Rattle.stream_messages.specs.declared.shape.Body.{Body}
use Rattle.stream_messages.specs.declared.shape.Body.TheVariants.{None as Bodiless, Plain, Chunked, NotShown}
use Rattle.stream_messages.specs.declared.shape.Shape.{Shape}
use Rattle.dis_http.specs.Http.{http_layout, http_read, body_read, chunked_read, plain_read, with_content, joined}

-- at most so many buffers more
pub record GrowsBy (most : ℕ) (old new : List (List ℕ)) : Type 0 where
  pub more : List (List ℕ)
  pub all : new ≡ old ++ more
  pub few : length more ≤ most

pub grows_none : (most : ℕ) (old new : List (List ℕ)) → new ≡ old → GrowsBy most old new
grows_none most old new same = record { more = []; all = same ∙ sym (append-nil old); few = omega arith }

pub grows_one : (old new : List (List ℕ)) (bytes : List ℕ) → new ≡ old ++ bytes ∷ [] → GrowsBy 1 old new
grows_one old new bytes same = record { more = bytes ∷ []; all = same; few = omega arith }

pub grows_on : (one two : ℕ) (old mid new : List (List ℕ)) → GrowsBy one old mid → GrowsBy two mid new → GrowsBy (one + two) old new
grows_on one two old mid new first next = record {
  more = first.more ++ next.more;
  all = next.all ∙ ap (λ (bs : List (List ℕ)). bs ++ next.more) first.all ∙ append_assoc old first.more next.more;
  few = omega (arith, first.few, next.few, length-append first.more next.more);
}

pub grows_count : (most : ℕ) (old new : List (List ℕ)) → GrowsBy most old new → length new ≤ length old + most
grows_count most old new grows = omega (arith, grows.few, ap length grows.all, length-append old grows.more)

buffer_stays : (old new : List (List ℕ)) (most number : ℕ) → GrowsBy most old new → number < length old → buffer_of new number ≡ buffer_of old number
buffer_stays old new most number grows inside =
    ap (λ (bs : List (List ℕ)). buffer_of bs number) grows.all ∙ get_or_append_left old grows.more [] number inside

-- a span stays, and its bytes
pub inside_stays : (old new : List (List ℕ)) (most : ℕ) (span : Span) → GrowsBy most old new → IsInside old span → IsInside new span
inside_stays old new most span grows inside = (
  omega (arith, inside.0, ap length grows.all, length-append old grows.more),
  rw (buffer_stays old new most span.buffer grows inside.0) inside.1,
)

pub bytes_stay : (old new : List (List ℕ)) (most : ℕ) (span : Span) → GrowsBy most old new → IsInside old span → bytes_of new span ≡ bytes_of old span
unfolding bytes_of
bytes_stay old new most span grows inside = rw (buffer_stays old new most span.buffer grows inside.0) refl

-- a layer adds none
fault_same : (t : TreeShown) (span : Span) (fault : Option ℕ) → (with_fault t span fault).buffers ≡ t.buffers
unfolding with_layer
fault_same t span None = refl
fault_same t span (Some fault) = refl

pub layer_same : (t : TreeShown) (proto : ℕ) (span : Span) (steps : List Step) (mode : Mode) (cut : Bool) → (layer_read t proto span steps mode cut).buffers ≡ t.buffers
unfolding layer_read with_layer
layer_same t proto span steps mode cut =
    fault_same (with_layer t proto span (items_read t.buffers span steps)) span (fault_of mode (cut && reaches_end t.buffers span) (reach span.len steps))

-- nor does an item
item_by : (test : Bool) (t : TreeShown) (item : Item) → (if test then with_last t item else t).buffers ≡ t.buffers
unfolding with_last with_item_at
item_by true t item = refl
item_by false t item = refl

item_same : (t : TreeShown) (item : Item) → (with_item t item).buffers ≡ t.buffers
unfolding with_item
item_same t item = item_by (is_in t.wanted item.field) t item

-- a chunked body adds one
pub if_same : (test : Bool) (t u : TreeShown) → u.buffers ≡ t.buffers → (if test then u else t).buffers ≡ t.buffers
if_same true t u same = same
if_same false t u same = refl

content_same : (t : TreeShown) (whole : Bool) (number : ℕ) (content : List ℕ) → (with_content t whole number content).buffers ≡ t.buffers
content_same t whole number content =
    if_same (whole && nat_lt 0 (length content)) t _ (item_same t (read_of t.buffers HTTP_FILE_DATA (record { buffer = number; start = 0; len = length content })))

plain_same : (t : TreeShown) (span : Span) (steps : List Step) → (plain_read t span steps).buffers ≡ t.buffers
plain_same t span steps = layer_same t HTTP span steps PlainMode false

chunked_one : (t : TreeShown) (span : Span) (steps : List Step) (content : List ℕ) → (chunked_read t span steps content).buffers ≡ t.buffers ++ content ∷ []
unfolding with_buffer
chunked_one t span steps content =
    content_same (plain_read (with_buffer t content) span steps) (is_all (reach span.len steps)) (length t.buffers) content
    ∙ plain_same (with_buffer t content) span steps

body_grows : (t : TreeShown) (span : Span) (steps : List Step) (bytes : List ℕ) (body : Body) → GrowsBy 1 t.buffers (body_read t span steps bytes body).buffers
body_grows t span steps bytes Bodiless = grows_none 1 _ _ (plain_same t span steps)
body_grows t span steps bytes (Plain len) = grows_none 1 _ _ (plain_same t span steps)
body_grows t span steps bytes (Chunked pieces) = grows_one _ _ (joined bytes pieces) (chunked_one t span steps (joined bytes pieces))
body_grows t span steps bytes NotShown = grows_none 1 _ _ (plain_same t span steps)

pub http_grows : (t : TreeShown) (span : Span) (shape : Shape) → GrowsBy 1 t.buffers (http_read t span shape).buffers
unfolding http_read
http_grows t span shape = body_grows t span (http_layout shape (bytes_of t.buffers span)) (bytes_of t.buffers span) shape.body
