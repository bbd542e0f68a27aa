-- A layer whose rows are all read, and the item of a message's body.
use Rattle.std.proofs.Common.{◌≡◌, ℕ, ◌+◌, ◌<◌, true, false, List, [], ◌∷◌, ◌++◌, length, take, drop, append-nil, refl, sym, ap, ap₂, ◌∙◌, subst, arith, length-drop, take_all}
use Rattle.std.specs.Prelude.{◌==◌, ◌&&◌, nat_lt}
use Rattle.std.specs.List.{flat_map}
use Rattle.std.proofs.lemmas.Bool.{cond_both}
use Rattle.std.proofs.lemmas.Grind.{flat_map-append}
use Rattle.std.proofs.lemmas.List.{get_or_push}
use Rattle.httparse.specs.Ascii.{crlf_bytes}
use Rattle.stream_messages.specs.declared.shape.Body.{Body}
use Rattle.stream_messages.specs.declared.shape.Body.TheVariants.{None as Bodiless, Plain, Chunked, NotShown}
use Rattle.stream_messages.specs.declared.shape.Piece.{Piece}
use Rattle.stream_messages.specs.declared.shape.Shape.{Shape}
use Rattle.stream_messages.specs.ChunkedBodies.{print_line, print_size, SizedChunk, print_chunk, piece_at, pieces_from, print_trailer, StandsAt, IsChunked}
use Rattle.stream_messages.proofs.ChunkTextLemmas.{stands_first, stands_second}
use Rattle.stream_messages.proofs.ChunkListLemmas.{first_whole}
use Rattle.pk_base.specs.declared.span.Span.{Span}
use Rattle.pk_tree.specs.Buffers.{IsInside, bytes_of}
use Rattle.pk_tree.proofs.Spans.{length-bytes_of, bytes_of-part}
use Rattle.pk_fields.specs.Ids.{HTTP, HTTP_FILE_DATA}
use Rattle.pk_base.specs.declared.heads.Mode.TheVariants.{Plain as InPlain}
use Rattle.pk_tree.specs.declared.item.Item.{Item}
use Rattle.pk_tree.specs.declared.layout.Reach.{Reach}
use Rattle.pk_tree.specs.declared.layout.Reach.TheVariants.{All as Whole, Short, Failed}
use Rattle.pk_tree.specs.declared.layout.Step.{Step}
use Rattle.pk_tree.specs.declared.layout.Step.TheVariants.{Part}
use Rattle.pk_tree.specs.Layouts.{within, is_all, step_reach, step_items, items_after, items_read, reach, reach_after, reaches_end, fault_of, with_fault, layer_read, with_items}
use Rattle.pk_tree.specs.Trees.{TreeShown, with_buffer, with_layer, with_item, read_of}
use Rattle.pk_tree.proofs.LayoutLemmas.{with_items-layer}
use Rattle.dis_http.specs.Http.{body_steps, piece_bytes, joined, with_content, plain_read, chunked_read, body_read}
use Rattle.dis_http.specs.Rows.{row_items, before_layer, IsContent, TellsContent, HasLayer}
use Rattle.dis_http.proofs.RowLemmas.{part_fits_in, step_fits}

-- ---- the layer of rows that are all read

items_all : (buffers : List (List ℕ)) (span : Span) (steps : List Step) → reach span.len steps ≡ Whole → items_read buffers span steps ≡ flat_map (step_items buffers span) steps
unfolding items_read reach
items_all buffers span [] whole = refl
items_all buffers span (step ∷ steps) whole = by (items_all buffers span steps) (step_reach span.len step) whole
  where
    by : (reach span.len steps ≡ Whole → items_read buffers span steps ≡ flat_map (step_items buffers span) steps) → (r : Reach) → reach_after r (reach span.len steps) ≡ Whole
        → items_after r (step_items buffers span step ++ items_read buffers span steps) ≡ step_items buffers span step ++ flat_map (step_items buffers span) steps
    by go Whole e = ap (λ (items : List Item). step_items buffers span step ++ items) (go e)
    by go Short e = absurd (cc)
    by go Failed e = absurd (cc)

layer_all : (t : TreeShown) (span : Span) (steps : List Step) → reach span.len steps ≡ Whole → plain_read t span steps ≡ with_layer t HTTP span (row_items t span steps)
unfolding layer_read
layer_all t span steps whole =
    ap (λ (r : Reach). with_fault (with_layer t HTTP span (items_read t.buffers span steps)) span (fault_of InPlain (false && reaches_end t.buffers span) r)) whole
    ∙ ap (λ (items : List Item). with_layer t HTTP span items) (items_all t.buffers span steps whole)

-- ---- the item of a body

some_is : (n : ℕ) → (n == 0) ≡ false → 0 < n
some_is n e = grind arith

none_is : (n : ℕ) → (n == 0) ≡ true → n ≡ 0
none_is n e = grind arith

more_is : (n : ℕ) → nat_lt 0 n ≡ true → 0 < n
more_is n e = grind arith

empty_is : (n : ℕ) → nat_lt 0 n ≡ false → n ≡ 0
empty_is n e = grind arith

some_told : (t : TreeShown) (place : Span) (content : List ℕ) → 0 < length content → bytes_of t.buffers place ≡ content → TellsContent t content (read_of t.buffers HTTP_FILE_DATA place ∷ [])
some_told t place [] some is = absurd (omega (arith, some))
some_told t place (b ∷ content) some is = (place, refl, is)

none_told : (t : TreeShown) (content : List ℕ) → length content ≡ 0 → TellsContent t content []
none_told t [] none = refl
none_told t (b ∷ content) none = absurd (omega (arith, none))

plain_told : (t : TreeShown) (span : Span) (head len : ℕ) → IsInside t.buffers span → span.len ≡ head + len
    → TellsContent t (drop head (bytes_of t.buffers span)) (row_items t span (body_steps head (Plain len)))
unfolding step_items
plain_told t span head len inside whole =
    let content : List ℕ = drop head (bytes_of t.buffers span) in
    let count : length content ≡ len = omega (arith, length-drop head (bytes_of t.buffers span), length-bytes_of t.buffers span inside, whole) in
    let place : bytes_of t.buffers (within span head len) ≡ content = bytes_of-part t.buffers span head len (omega (arith, whole)) ∙ take_all len content (omega (arith, count)) in
    cond_both (len == 0) [] (read_of t.buffers HTTP_FILE_DATA (within span head len) ∷ []) (λ (items : List Item). TellsContent t content (items ++ []))
    (λ none. none_told t content (omega (arith, count, none_is len none)))
    (λ some. some_told t (within span head len) content (omega (arith, count, some_is len some)) place)

plain_has : (t : TreeShown) (span : Span) (head : ℕ) (body : Body) (steps : List Step) (content : List ℕ) → TellsContent t content (row_items t span (body_steps head body))
    → reach span.len (steps ++ body_steps head body) ≡ Whole → HasLayer t span (row_items t span steps) content (plain_read t span (steps ++ body_steps head body))
plain_has t span head body steps content tells whole = record {
  body = row_items t span (body_steps head body);
  tells = tells;
  layer = layer_all t span (steps ++ body_steps head body) whole
      ∙ ap (λ (items : List Item). with_layer t HTTP span items) (flat_map-append (step_items t.buffers span) steps (body_steps head body));
}

content_layer : (t : TreeShown) (span : Span) (items : List Item) (number : ℕ) (content : List ℕ) → bytes_of t.buffers (record { buffer = number; start = 0; len = length content }) ≡ content
    → HasLayer t span items content (with_content (with_layer t HTTP span items) true number content)
unfolding with_items with_layer
content_layer t span items number content is =
    let place : Span = record { buffer = number; start = 0; len = length content } in
    let item : Item = read_of t.buffers HTTP_FILE_DATA place in
    cond_both (nat_lt 0 (length content)) (with_item (with_layer t HTTP span items) item) (with_layer t HTTP span items) (HasLayer t span items content)
    (λ some. record {
      body = item ∷ [];
      tells = some_told t place content (more_is (length content) some) is;
      layer = with_items-layer t HTTP span items (item ∷ []);
    })
    (λ none. record {
      body = [];
      tells = none_told t content (empty_is (length content) none);
      layer = ap (λ (all : List Item). with_layer t HTTP span all) (sym (append-nil items));
    })

last_bytes : (buffers : List (List ℕ)) (bytes : List ℕ) → bytes_of (buffers ++ bytes ∷ []) (record { buffer = length buffers; start = 0; len = length bytes }) ≡ bytes
unfolding bytes_of
last_bytes buffers bytes =
    ap (λ (b : List ℕ). take (length bytes) (drop 0 b)) (get_or_push buffers bytes [] (length buffers) refl) ∙ take_all (length bytes) bytes (omega arith)

chunked_has : (t : TreeShown) (span : Span) (content : List ℕ) (steps : List Step) → reach span.len (steps ++ []) ≡ Whole
    → HasLayer (with_buffer t content) span (row_items (with_buffer t content) span steps) content (chunked_read t span (steps ++ []) content)
unfolding with_buffer
chunked_has t span content steps whole =
    let base : TreeShown = with_buffer t content in
    let read : plain_read base span (steps ++ []) ≡ with_layer base HTTP span (row_items base span steps) =
    layer_all base span (steps ++ []) whole ∙ ap (λ (all : List Step). with_layer base HTTP span (row_items base span all)) (append-nil steps) in
    subst (λ (r : Reach). HasLayer base span (row_items base span steps) content (with_content (plain_read base span (steps ++ [])) (is_all r) (length t.buffers) content)) (sym whole)
    (subst (λ (tree : TreeShown). HasLayer base span (row_items base span steps) content (with_content tree true (length t.buffers) content)) (sym read)
    (content_layer base span (row_items base span steps) (length t.buffers) content (last_bytes t.buffers content)))

abbrev pub content_of : List ℕ → ℕ → Body → List ℕ
content_of bytes head Bodiless = []
content_of bytes head (Plain len) = drop head bytes
content_of bytes head (Chunked pieces) = joined bytes pieces
content_of bytes head NotShown = []

pub body_has : (t : TreeShown) (span : Span) (head : ℕ) (body : Body) (steps : List Step) → IsInside t.buffers span → ((n : ℕ) → body ≡ Plain n → span.len ≡ head + n)
    → reach span.len (steps ++ body_steps head body) ≡ Whole
    → HasLayer (before_layer t (content_of (bytes_of t.buffers span) head body) body) span (row_items (before_layer t (content_of (bytes_of t.buffers span) head body) body) span steps) (content_of (bytes_of t.buffers span) head body)
    (body_read t span (steps ++ body_steps head body) (bytes_of t.buffers span) body)
body_has t span head Bodiless steps inside ends whole = plain_has t span head Bodiless steps [] refl whole
body_has t span head (Plain len) steps inside ends whole =
    plain_has t span head (Plain len) steps (drop head (bytes_of t.buffers span)) (plain_told t span head len inside (ends len refl)) whole
body_has t span head NotShown steps inside ends whole = plain_has t span head NotShown steps [] refl whole
body_has t span head (Chunked pieces) steps inside ends whole = chunked_has t span (joined (bytes_of t.buffers span) pieces) steps whole

-- ---- the bytes of chunks

contents_stand : (bytes : List ℕ) (list : List SizedChunk) (at : ℕ) (last : List ℕ) → StandsAt at (flat_map print_chunk list ++ last) bytes
    → joined bytes (pieces_from at list) ≡ flat_map (λ (c : SizedChunk). c.content) list
unfolding joined
contents_stand bytes [] at last stands = refl
contents_stand bytes (c ∷ list) at last stands =
    let rest : List ℕ = flat_map print_chunk list ++ last in
    let here : StandsAt at (print_chunk c ++ rest) bytes = subst (λ (t : List ℕ). StandsAt at t bytes) (first_whole c list last) stands in
    let line : StandsAt (at + length (print_size c.line)) (print_line c.content) bytes =
    stands_second at (print_size c.line) (print_line c.content) bytes (stands_first at (print_chunk c) rest bytes here) in
    let content : piece_bytes bytes (piece_at at c) ≡ c.content = stands_first (at + length (print_size c.line)) c.content crlf_bytes bytes line in
    ap₂ (λ (a b : List ℕ). a ++ b) content (contents_stand bytes list (at + length (print_chunk c)) last (stands_second at (print_chunk c) rest bytes here))

pub content_is : (bytes : List ℕ) (shape : Shape) (body : Body) → ((pieces : List Piece) → body ≡ Chunked pieces → IsChunked bytes shape.head pieces shape.end)
    → IsContent bytes shape body (content_of bytes shape.head body)
content_is bytes shape Bodiless chunked = refl
content_is bytes shape (Plain len) chunked = refl
content_is bytes shape NotShown chunked = refl
content_is bytes shape (Chunked pieces) chunked =
    let is = chunked pieces refl in
    (is, ap (joined bytes) is.pieces_are ∙ contents_stand bytes is.body.chunks shape.head (print_size is.body.last ++ (print_trailer is.body.trailer ++ crlf_bytes)) is.stands)

-- a body that is as it stands lies in the message
pub body_fits_in : (end head : ℕ) (body : Body) → ((n : ℕ) → body ≡ Plain n → end ≡ head + n) → reach end (body_steps head body) ≡ Whole
unfolding reach
body_fits_in end head Bodiless ends = refl
body_fits_in end head (Chunked pieces) ends = refl
body_fits_in end head NotShown ends = refl
body_fits_in end head (Plain len) ends = step_fits end (Part HTTP_FILE_DATA head len) [] (part_fits_in HTTP_FILE_DATA head len end (omega (arith, ends len refl))) refl
