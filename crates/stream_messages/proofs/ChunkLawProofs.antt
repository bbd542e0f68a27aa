-- Where a head asks for chunks, the first message is exactly what the grammar makes of the bytes behind it.
use Rattle.std.proofs.Common.{◌≡◌, ℕ, ◌+◌, ◌<◌, ◌≤◌, ◌⊎◌, inl, inr, ⊎_elim, Bool, List, [], ◌++◌, length, refl, sym, ap, ◌∙◌, subst, arith, ◌↔◌, Option, Some, None}
use Rattle.std.specs.List.{flat_map}
use Rattle.stream_messages.specs.declared.plans.Plan.{Plan}
use Rattle.stream_messages.specs.declared.plans.Plan.TheVariants.{Bare, Chunks, Fixed, Pass, Unknown}
use Rattle.stream_messages.specs.declared.plans.Start.{Start}
use Rattle.stream_messages.specs.declared.shape.Body.TheVariants.{None as Bodiless, Plain, Chunked, NotShown}
use Rattle.stream_messages.specs.declared.shape.Piece.{Piece}
use Rattle.stream_messages.specs.declared.shape.Shape.{Shape}
use Rattle.stream_messages.specs.declared.shape.Then.TheVariants.{Follows, Opaque}
use Rattle.stream_messages.specs.Limits.{body_limit, turn_limit}
use Rattle.stream_messages.specs.Sizes.{size_of_pieces}
use Rattle.stream_messages.specs.Heads.{Head, print_head, head_of}
use Rattle.stream_messages.specs.Plans.{plan_of, start_of}
use Rattle.stream_messages.specs.Chunks.{shape_of, chunks}
use Rattle.stream_messages.specs.ChunkedBodies.{print_size, print_chunk, print_body, pieces_from, IsChunked, IsTooLong, AsksChunks, IsOfChunks, ChunkLaws}
use Rattle.stream_messages.specs.HttpMessages.{shape_by, by_shape, by_head, first_message}
use Rattle.stream_messages.proofs.HttpMessageLemmas.{head_start, there_body}
use Rattle.stream_messages.proofs.ChunkStepLemmas.{chunk_place}
use Rattle.stream_messages.proofs.ChunkListLemmas.{FoundBody, FoundLong, list_says, body_found, long_body_found}

-- ---- the body's limit as a number

within_limit : (n : ℕ) → n ≤ 1048576 → n ≤ body_limit
unfolding body_limit
within_limit n less = less

limit_within : (n : ℕ) → n ≤ body_limit → n ≤ 1048576
unfolding body_limit
limit_within n less = less

past_limit : (n : ℕ) → 1048576 < n → body_limit < n
unfolding body_limit
past_limit n more = more

limit_past : (n : ℕ) → body_limit < n → 1048576 < n
unfolding body_limit
limit_past n more = more

-- ---- what stands behind a head

module _ (start : Start) (bytes : List ℕ) (at : ℕ) where
  -- a body in chunks stands there, or one that is too long
  abbrev OfList : Shape → Type 0
  OfList s =
      ((pieces : List Piece) × IsChunked bytes at pieces s.end × (s ≡ shape_of start (Chunked pieces) s.end (Follows 0)))
      ⊎ (IsTooLong bytes at s.end × (s ≡ shape_of start NotShown s.end Opaque))

  shown_says : (s : Shape) → FoundBody start bytes at 0 [] s → OfList s
  shown_says s found =
      let end : s.end ≡ at + length (print_body found.body) = ap (λ (s : Shape). s.end) found.shape in
      inl (
        pieces_from at found.body.chunks,
        record {
          body = found.body;
          valid = found.valid;
          stands = found.stands;
          pieces_are = refl;
          end_is = end;
          short = limit_within _ (omega (arith, found.within));
        },
        found.shape ∙ ap (λ (n : ℕ). shape_of start (Chunked (pieces_from at found.body.chunks)) n (Follows 0)) (sym end),
      )

  long_says : (s : Shape) → FoundLong start bytes at 0 s → OfList s
  long_says s found =
      let end : s.end ≡ at + length (flat_map print_chunk found.list ++ print_size found.line) = ap (λ (s : Shape). s.end) found.shape in
      inr (
        record {
          chunks = found.list;
          line = found.line;
          valid = found.valid;
          sized = found.sized;
          stands = found.stands;
          end_is = end;
          short = limit_within _ (omega (arith, found.within));
          long = limit_past _ (omega (arith, found.past));
        },
        found.shape ∙ ap (λ (n : ℕ). shape_of start NotShown n Opaque) (sym end),
      )

  found_says : (turns : ℕ) (s : Shape) → chunks turns start bytes (chunk_place at 0) [] ≡ Some s → OfList s
  found_says turns s e = ⊎_elim (shown_says s) (long_says s) (list_says start bytes turns at 0 [] s (omega arith) e)

  shown_is : (turns : ℕ) → turn_limit ≤ turns → (s : Shape) (pieces : List Piece) → IsChunked bytes at pieces s.end → s ≡ shape_of start (Chunked pieces) s.end (Follows 0)
      → chunks turns start bytes (chunk_place at 0) [] ≡ Some s
  shown_is turns enough s pieces is shape =
      let within : size_of_pieces (pieces_from at is.body.chunks) ≤ body_limit = within_limit _ (omega (arith, is.short, ap size_of_pieces is.pieces_are)) in
      body_found turns enough start bytes at is.body is.valid within is.stands
      ∙ ap (λ (all : List Piece). Some (shape_of start (Chunked all) (at + length (print_body is.body)) (Follows 0))) (sym is.pieces_are)
      ∙ ap (λ (n : ℕ). Some (shape_of start (Chunked pieces) n (Follows 0))) (sym is.end_is)
      ∙ ap Some (sym shape)

  long_is : (turns : ℕ) → turn_limit ≤ turns → (s : Shape) → IsTooLong bytes at s.end → s ≡ shape_of start NotShown s.end Opaque
      → chunks turns start bytes (chunk_place at 0) [] ≡ Some s
  long_is turns enough s is shape =
      long_body_found turns enough start bytes at is.chunks is.line is.valid is.sized (within_limit _ is.short) (past_limit _ is.long) is.stands
      ∙ ap (λ (n : ℕ). Some (shape_of start NotShown n Opaque)) (sym is.end_is)
      ∙ ap Some (sym shape)

  found_is : (turns : ℕ) → turn_limit ≤ turns → (s : Shape) → OfList s → chunks turns start bytes (chunk_place at 0) [] ≡ Some s
  found_is turns enough s =
      ⊎_elim (λ shown. shown_is turns enough s shown.0 shown.1 shown.2) (λ long. long_is turns enough s long.0 long.1)

  -- more turns find the same
  more_turns : (more : ℕ) → chunks (turn_limit + more) start bytes (chunk_place at 0) [] ≡ chunks turn_limit start bytes (chunk_place at 0) []
  more_turns more = by (chunks (turn_limit + more) start bytes (chunk_place at 0) []) refl (chunks turn_limit start bytes (chunk_place at 0) []) refl
    where
      by : (long : Option Shape) → chunks (turn_limit + more) start bytes (chunk_place at 0) [] ≡ long → (short : Option Shape) → chunks turn_limit start bytes (chunk_place at 0) [] ≡ short
          → chunks (turn_limit + more) start bytes (chunk_place at 0) [] ≡ chunks turn_limit start bytes (chunk_place at 0) []
      by None none None same = none ∙ sym same
      by long is (Some s) same = found_is (turn_limit + more) (omega arith) s (found_says turn_limit s same) ∙ sym same
      by (Some s) is None none = is ∙ sym (found_is turn_limit (omega arith) s (found_says (turn_limit + more) s is))

-- ---- messages

message_chunks : (asked : Bool) (bytes : List ℕ) (h : Head) → AsksChunks asked bytes h
    → first_message asked bytes ≡ chunks turn_limit (start_of h) bytes (chunk_place (length (print_head h)) 0) []
unfolding first_message
message_chunks asked bytes h asks =
    ap (λ (o : Option Head). by_head asked o bytes) asks.head
    ∙ ap (λ (plan : Plan). by_shape (start_of h) (shape_by (start_of h) plan) bytes) asks.plan
    ∙ ap (λ (n : ℕ). chunks turn_limit (start_of h) bytes (chunk_place n 0) []) (head_start h)

message_exact : (asked : Bool) (bytes : List ℕ) (h : Head) (s : Shape) → AsksChunks asked bytes h → (first_message asked bytes ≡ Some s) ↔ IsOfChunks bytes h s
message_exact asked bytes h s asks =
    let same = message_chunks asked bytes h asks in (
      λ e. found_says (start_of h) bytes (length (print_head h)) turn_limit s (sym same ∙ e),
      λ is. same ∙ found_is (start_of h) bytes (length (print_head h)) turn_limit (omega arith) s is,
    )

plan_asks : (asked : Bool) (bytes : List ℕ) (h : Head) (s : Shape) (pieces : List Piece) (plan : Plan) → head_of bytes ≡ Some h → plan_of asked h ≡ plan
    → by_shape (start_of h) (shape_by (start_of h) plan) bytes ≡ Some s → s.body ≡ Chunked pieces → AsksChunks asked bytes h
plan_asks asked bytes h s pieces Chunks head is e body = record { head = head; plan = is }
plan_asks asked bytes h s pieces Bare head is e body =
    let start : Start = start_of h in
    let other : Bodiless ≡ Chunked pieces = there_body (shape_of start Bodiless start.head (Follows 0)) s bytes (Chunked pieces) e body in absurd (cc)
plan_asks asked bytes h s pieces (Fixed n) head is e body =
    let start : Start = start_of h in
    let other : Plain n ≡ Chunked pieces = there_body (shape_of start (Plain n) (start.head + n) (Follows 0)) s bytes (Chunked pieces) e body in absurd (cc)
plan_asks asked bytes h s pieces (Pass n) head is e body =
    let start : Start = start_of h in
    let other : NotShown ≡ Chunked pieces = there_body (shape_of start NotShown start.head (Follows n)) s bytes (Chunked pieces) e body in absurd (cc)
plan_asks asked bytes h s pieces Unknown head is e body =
    let start : Start = start_of h in
    let other : NotShown ≡ Chunked pieces = there_body (shape_of start NotShown start.head Opaque) s bytes (Chunked pieces) e body in absurd (cc)

message_asks : (asked : Bool) (bytes : List ℕ) (s : Shape) (pieces : List Piece) → first_message asked bytes ≡ Some s → s.body ≡ Chunked pieces → (h : Head) × AsksChunks asked bytes h
unfolding first_message
message_asks asked bytes s pieces e body = by (head_of bytes) refl e
  where
    by : (o : Option Head) → head_of bytes ≡ o → by_head asked o bytes ≡ Some s → (h : Head) × AsksChunks asked bytes h
    by None is e = absurd (cc)
    by (Some h) is e = (h, plan_asks asked bytes h s pieces (plan_of asked h) is refl e body)

-- a message's chunks are those of the grammar
shown_pieces : (bytes : List ℕ) (h : Head) (s : Shape) (pieces all : List Piece) → IsChunked bytes (length (print_head h)) all s.end → s ≡ shape_of (start_of h) (Chunked all) s.end (Follows 0)
    → s.body ≡ Chunked pieces → IsChunked bytes s.head pieces s.end
shown_pieces bytes h s pieces all is shape body =
    let both : Chunked all ≡ Chunked pieces = sym (ap (λ (s : Shape). s.body) shape) ∙ body in
    let same : all ≡ pieces = cc in
    let head : length (print_head h) ≡ s.head = sym (head_start h) ∙ sym (ap (λ (s : Shape). s.head) shape) in
    subst (λ (n : ℕ). IsChunked bytes n pieces s.end) head (subst (λ (list : List Piece). IsChunked bytes (length (print_head h)) list s.end) same is)

long_none : (h : Head) (s : Shape) (pieces : List Piece) → s ≡ shape_of (start_of h) NotShown s.end Opaque → s.body ≡ Chunked pieces → ⊥
long_none h s pieces shape body = let none : NotShown ≡ Chunked pieces = sym (ap (λ (s : Shape). s.body) shape) ∙ body in absurd (cc)

pub first_chunks : (asked : Bool) (bytes : List ℕ) (s : Shape) (pieces : List Piece) → first_message asked bytes ≡ Some s → s.body ≡ Chunked pieces → IsChunked bytes s.head pieces s.end
first_chunks asked bytes s pieces e body =
    let asks = message_asks asked bytes s pieces e body in
    ⊎_elim (λ shown. shown_pieces bytes asks.0 s pieces shown.0 shown.1 shown.2 body) (λ long. absurd (long_none asks.0 s pieces long.1 body))
    ((message_exact asked bytes asks.0 s asks.1).0 e)

pub laws_of_chunks : ChunkLaws
laws_of_chunks = record {
  exact = message_exact;
  asks = message_asks;
  turns = λ more start bytes. more_turns start bytes start.head more;
}
