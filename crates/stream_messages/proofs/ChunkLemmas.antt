-- Lists of chunks, when more bytes come.
use Rattle.std.proofs.Common.{◌≡◌, ℕ, zero, suc, ◌+◌, ◌-◌, ◌<◌, ◌≤◌, List, ◌++◌, length, drop, refl, sym, ap, ◌∙◌, subst, ap₂, arith, length-drop, Some, None, ◌∷◌, []}
use Rattle.std.specs.Prelude.{if◌then◌else◌}
use Rattle.stream_messages.specs.declared.plans.Start.{Start}
use Rattle.stream_messages.specs.declared.shape.Body.TheVariants.{Plain, Chunked, NotShown}
use Rattle.stream_messages.specs.declared.shape.Piece.{Piece}
use Rattle.stream_messages.specs.declared.shape.Shape.{Shape}
use Rattle.stream_messages.specs.declared.shape.Then.{Then}
use Rattle.stream_messages.specs.declared.shape.Then.TheVariants.{Follows, Opaque}
use Rattle.stream_messages.specs.declared.chunks.Place.{Place}
use Rattle.stream_messages.specs.declared.chunks.Turn.{Turn}
use Rattle.stream_messages.specs.declared.chunks.Turn.TheVariants.{Chunk, Last, Long, Trailing, End, Waits, Fails}
use Rattle.stream_messages.specs.Lines.{line_of, line_by, text_from}
use Rattle.stream_messages.specs.Limits.{body_limit, line_limit, trailer_limit}
use Rattle.stream_messages.specs.Sizes.{size_of_pieces}
use Rattle.stream_messages.specs.Chunks.{shape_of, trailing_turn, size_turn, turn_at, looked_at, on_turn, chunks, behind_chunk, behind_last, behind_line}
use Rattle.stream_messages.specs.ChunkFacts.{TurnFits}
use Rattle.stream_messages.proofs.TextLemmas.{drop_append, text_same}
use Rattle.stream_messages.proofs.TurnLemmas.{IsSettled, Reads, span, turn_on, turn_back, turn_fits}

-- a turn at a place stays when more bytes come
pub turn_stays : (place : Place) (bytes more : List ℕ) (t : Turn) → IsSettled t → turn_at place (drop place.at bytes) ≡ t
    → turn_at place (drop place.at (bytes ++ more)) ≡ t
turn_stays place bytes more t settled e =
    ap (turn_at place) (drop_append place.at bytes more) ∙ turn_on place (drop place.at bytes) (drop (place.at - length bytes) more) t settled e

-- ---- where the message ends

pub record EndsIn (at : ℕ) (bytes : List ℕ) (s : Shape) : Type 0 where
  pub behind : at + 2 ≤ s.end
  pub within : s.end ≤ length bytes

same_shape : (a b : Shape) → Some a ≡ Some b → a ≡ b
same_shape a b e = cc

pub chunks_within : (turns : ℕ) (start : Start) (bytes : List ℕ) (place : Place) (pieces : List Piece) (s : Shape)
    → chunks turns start bytes place pieces ≡ Some s → EndsIn place.at bytes s
unfolding chunks
chunks_within zero start bytes place pieces s e = absurd (cc)
chunks_within (suc turns) start bytes place pieces s e =
    by (λ next more f. chunks_within turns start bytes next more s f) (turn_at place (drop place.at bytes)) (turn_fits place (drop place.at bytes)) e
  where
    by : ((next : Place) (more : List Piece) → chunks turns start bytes next more ≡ Some s → EndsIn next.at bytes s) → (t : Turn)
        → TurnFits place (length (drop place.at bytes)) t → on_turn (chunks turns start bytes) start place pieces t ≡ Some s → EndsIn place.at bytes s
    by go (Chunk line size) fits e =
        let rest = go (behind_chunk place line size) _ e in
        record { behind = omega (arith, rest.behind); within = rest.within }
    by go (Last line) fits e =
        let rest = go (behind_last place line) _ e in
        record { behind = omega (arith, rest.behind); within = rest.within }
    by go (Trailing line) fits e =
        let rest = go (behind_line place line) _ e in
        record { behind = omega (arith, rest.behind); within = rest.within }
    by go (Long line) fits e =
        subst (EndsIn place.at bytes) (same_shape (shape_of start NotShown (place.at + line) Opaque) s e)
        (record { behind = omega (arith, fits.0); within = omega (arith, fits.0, fits.1, length-drop place.at bytes) })
    by go End fits e =
        subst (EndsIn place.at bytes) (same_shape (shape_of start (Chunked pieces) (place.at + 2) (Follows 0)) s e)
        (record { behind = omega arith; within = omega (arith, fits, length-drop place.at bytes) })
    by go Waits fits e = absurd (cc)
    by go Fails fits e = absurd (cc)

-- ---- more bytes

pub chunks_stay : (turns : ℕ) (start : Start) (bytes more : List ℕ) (place : Place) (pieces : List Piece) (s : Shape)
    → chunks turns start bytes place pieces ≡ Some s → chunks turns start (bytes ++ more) place pieces ≡ Some s
unfolding chunks
chunks_stay zero start bytes more place pieces s e = absurd (cc)
chunks_stay (suc turns) start bytes more place pieces s e =
    by (λ next list f. chunks_stay turns start bytes more next list s f) (turn_at place (drop place.at bytes)) refl e
  where
    at : (t : Turn) → IsSettled t → turn_at place (drop place.at bytes) ≡ t
        → on_turn (chunks turns start (bytes ++ more)) start place pieces t ≡ Some s
        → on_turn (chunks turns start (bytes ++ more)) start place pieces (turn_at place (drop place.at (bytes ++ more))) ≡ Some s
    at t settled is e = ap (on_turn (chunks turns start (bytes ++ more)) start place pieces) (turn_stays place bytes more t settled is) ∙ e

    by : ((next : Place) (list : List Piece) → chunks turns start bytes next list ≡ Some s → chunks turns start (bytes ++ more) next list ≡ Some s) → (t : Turn)
        → turn_at place (drop place.at bytes) ≡ t → on_turn (chunks turns start bytes) start place pieces t ≡ Some s
        → on_turn (chunks turns start (bytes ++ more)) start place pieces (turn_at place (drop place.at (bytes ++ more))) ≡ Some s
    by go (Chunk line size) is e = at (Chunk line size) tt is (go _ _ e)
    by go (Last line) is e = at (Last line) tt is (go _ _ e)
    by go (Trailing line) is e = at (Trailing line) tt is (go _ _ e)
    by go (Long line) is e = at (Long line) tt is e
    by go End is e = at End tt is e
    by go Waits is e = absurd (cc)
    by go Fails is e = absurd (cc)

-- ---- fewer bytes

-- what a turn reads lies in front of the message's end
turn_shrinks : (place : Place) (bytes more : List ℕ) (t : Turn) → Reads t → 2 ≤ span t → turn_at place (drop place.at (bytes ++ more)) ≡ t
    → place.at + span t ≤ length bytes → turn_at place (drop place.at bytes) ≡ t
turn_shrinks place bytes more t reads two e room =
    turn_back place (drop place.at bytes) (drop (place.at - length bytes) more) t reads (sym (ap (turn_at place) (drop_append place.at bytes more)) ∙ e)
    (omega (arith, two, room, length-drop place.at bytes))

pub chunks_shrink : (turns : ℕ) (start : Start) (bytes more : List ℕ) (place : Place) (pieces : List Piece) (s : Shape)
    → chunks turns start (bytes ++ more) place pieces ≡ Some s → s.end ≤ length bytes → chunks turns start bytes place pieces ≡ Some s
unfolding chunks
chunks_shrink zero start bytes more place pieces s e room = absurd (cc)
chunks_shrink (suc turns) start bytes more place pieces s e room =
    by (λ next list f. chunks_shrink turns start bytes more next list s f room) (turn_at place (drop place.at (bytes ++ more))) refl (turn_fits place (drop place.at (bytes ++ more))) e
  where
    at : (t : Turn) → Reads t → 2 ≤ span t → place.at + span t ≤ length bytes → turn_at place (drop place.at (bytes ++ more)) ≡ t
        → on_turn (chunks turns start bytes) start place pieces t ≡ Some s
        → on_turn (chunks turns start bytes) start place pieces (turn_at place (drop place.at bytes)) ≡ Some s
    at t reads two less is e = ap (on_turn (chunks turns start bytes) start place pieces) (turn_shrinks place bytes more t reads two is less) ∙ e

    by : ((next : Place) (list : List Piece) → chunks turns start (bytes ++ more) next list ≡ Some s → chunks turns start bytes next list ≡ Some s) → (t : Turn)
        → turn_at place (drop place.at (bytes ++ more)) ≡ t → TurnFits place (length (drop place.at (bytes ++ more))) t
        → on_turn (chunks turns start (bytes ++ more)) start place pieces t ≡ Some s
        → on_turn (chunks turns start bytes) start place pieces (turn_at place (drop place.at bytes)) ≡ Some s
    by go (Chunk line size) is fits e =
        let rest = chunks_within turns start (bytes ++ more) (behind_chunk place line size) _ s e in
        at (Chunk line size) tt (omega arith) (omega (arith, rest.behind, room)) is (go _ _ e)
    by go (Last line) is fits e =
        let rest = chunks_within turns start (bytes ++ more) (behind_last place line) _ s e in
        at (Last line) tt fits.0 (omega (arith, rest.behind, room)) is (go _ _ e)
    by go (Trailing line) is fits e =
        let rest = chunks_within turns start (bytes ++ more) (behind_line place line) _ s e in
        at (Trailing line) tt fits.0 (omega (arith, rest.behind, room)) is (go _ _ e)
    by go (Long line) is fits e =
        let end : place.at + line ≡ s.end = ap (λ (s : Shape). s.end) (same_shape (shape_of start NotShown (place.at + line) Opaque) s e) in
        at (Long line) tt fits.0 (omega (arith, end, room)) is e
    by go End is fits e =
        let end : place.at + 2 ≡ s.end = ap (λ (s : Shape). s.end) (same_shape (shape_of start (Chunked pieces) (place.at + 2) (Follows 0)) s e) in
        at End tt (omega arith) (omega (arith, end, room)) is e
    by go Waits is fits e = absurd (cc)
    by go Fails is fits e = absurd (cc)

-- ---- going on

-- one turn of the reading, with whatever bytes follow
pub chunks_step : (turns i : ℕ) (start : Start) (bytes more : List ℕ) (place : Place) (pieces : List Piece) (t : Turn) → i < turns → IsSettled t
    → t ≡ turn_at place (drop place.at bytes)
    → chunks (turns - i) start (bytes ++ more) place pieces ≡ on_turn (chunks (turns - (i + 1)) start (bytes ++ more)) start place pieces t
unfolding chunks
chunks_step turns i start bytes more place pieces t left settled e =
    let count : turns - i ≡ suc (turns - (i + 1)) = omega arith in
    ap (λ (n : ℕ). chunks n start (bytes ++ more) place pieces) count
    ∙ ap (on_turn (chunks (turns - (i + 1)) start (bytes ++ more)) start place pieces) (turn_stays place bytes more t settled (sym e))

-- where the bytes of a line end in what is there, the reading goes on
turn_looked : (place : Place) (bytes more : List ℕ) → turn_at (looked_at place bytes) (drop place.at (bytes ++ more)) ≡ turn_at place (drop place.at (bytes ++ more))
unfolding turn_at
turn_looked place bytes more =
    let rest : List ℕ = drop place.at (bytes ++ more) in
    let text : text_from (text_from place.text (drop place.at bytes)) rest ≡ text_from place.text rest =
    ap (text_from (text_from place.text (drop place.at bytes))) (drop_append place.at bytes more)
    ∙ text_same place.text (drop place.at bytes) (drop (place.at - length bytes) more)
    ∙ sym (ap (text_from place.text) (drop_append place.at bytes more)) in
    let line : (most : ℕ) → line_of most (text_from place.text (drop place.at bytes)) rest ≡ line_of most place.text rest = λ most. ap (λ (n : ℕ). line_by most n rest) text in
    ap₂ (λ (a b : Turn). if place.trailer then a else b)
    (ap trailing_turn (line (trailer_limit - place.used)))
    (ap (size_turn place.sum rest) (line line_limit))

pub chunks_waits : (turns : ℕ) (start : Start) (bytes more : List ℕ) (place : Place) (pieces : List Piece)
    → chunks turns start (bytes ++ more) place pieces ≡ chunks turns start (bytes ++ more) (looked_at place bytes) pieces
unfolding chunks
chunks_waits zero start bytes more place pieces = refl
chunks_waits (suc turns) start bytes more place pieces =
    ap (on_turn (chunks turns start (bytes ++ more)) start place pieces) (sym (turn_looked place bytes more))
    ∙ same (turn_at (looked_at place bytes) (drop place.at (bytes ++ more)))
  where
    same : (t : Turn) → on_turn (chunks turns start (bytes ++ more)) start place pieces t ≡ on_turn (chunks turns start (bytes ++ more)) start (looked_at place bytes) pieces t
    same (Chunk line size) = refl
    same (Last line) = refl
    same (Trailing line) = refl
    same (Long line) = refl
    same End = refl
    same Waits = refl
    same Fails = refl

-- where a turn waits there is no message yet
pub chunks_none : (turns i : ℕ) (start : Start) (bytes : List ℕ) (place : Place) (pieces : List Piece) → Waits ≡ turn_at place (drop place.at bytes)
    → chunks (turns - i) start bytes place pieces ≡ None
unfolding chunks
chunks_none turns i start bytes place pieces e = by (turns - i)
  where
    by : (n : ℕ) → chunks n start bytes place pieces ≡ None
    by zero = refl
    by (suc n) = ap (on_turn (chunks n start bytes) start place pieces) (sym e)

-- ---- the bytes of the chunks

size_push : (pieces : List Piece) (piece : Piece) → size_of_pieces (pieces ++ piece ∷ []) ≡ size_of_pieces pieces + piece.len
size_push [] piece = omega arith
size_push (first ∷ pieces) piece = omega (arith, size_push pieces piece)

pub chunks_short : (turns : ℕ) (start : Start) (bytes : List ℕ) (place : Place) (pieces all : List Piece) (s : Shape)
    → size_of_pieces pieces ≡ place.sum → place.sum ≤ body_limit → chunks turns start bytes place pieces ≡ Some s → s.body ≡ Chunked all
    → size_of_pieces all ≤ body_limit
unfolding chunks
chunks_short zero start bytes place pieces all s same within e body = absurd (cc)
chunks_short (suc turns) start bytes place pieces all s same within e body =
    by (λ next more same within f. chunks_short turns start bytes next more all s same within f body) (turn_at place (drop place.at bytes)) (turn_fits place (drop place.at bytes)) e
  where
    by : ((next : Place) (more : List Piece) → size_of_pieces more ≡ next.sum → next.sum ≤ body_limit → chunks turns start bytes next more ≡ Some s → size_of_pieces all ≤ body_limit)
        → (t : Turn) → TurnFits place (length (drop place.at bytes)) t → on_turn (chunks turns start bytes) start place pieces t ≡ Some s → size_of_pieces all ≤ body_limit
    by go (Chunk line size) fits e = go (behind_chunk place line size) _ (size_push pieces (record { start = place.at + line; len = size }) ∙ ap (λ (n : ℕ). n + size) same) fits.2 e
    by go (Last line) fits e = go (behind_last place line) _ same within e
    by go (Trailing line) fits e = go (behind_line place line) _ same within e
    by go (Long line) fits e =
        let none : NotShown ≡ Chunked all = ap (λ (s : Shape). s.body) (same_shape (shape_of start NotShown (place.at + line) Opaque) s e) ∙ body in absurd (cc)
    by go End fits e =
        let both : Chunked pieces ≡ Chunked all = ap (λ (s : Shape). s.body) (same_shape (shape_of start (Chunked pieces) (place.at + 2) (Follows 0)) s e) ∙ body in
        let whole : pieces ≡ all = cc in
        subst (λ (list : List Piece). size_of_pieces list ≤ body_limit) whole (omega (arith, same, within))
    by go Waits fits e = absurd (cc)
    by go Fails fits e = absurd (cc)

-- ---- what a message keeps of its head, and where a body that is as it stands ends

pub record IsStarted (start : Start) (s : Shape) : Type 0 where
  pub request : s.request ≡ start.request
  pub head : s.head ≡ start.head
  pub plain : (n : ℕ) → s.body ≡ Plain n → s.end ≡ s.head + n

pub started : (start : Start) (shape s : Shape) → IsStarted start shape → shape ≡ s → IsStarted start s
started start shape s is same = subst (IsStarted start) same is

pub hidden_started : (start : Start) (end : ℕ) (next : Then) → IsStarted start (shape_of start NotShown end next)
hidden_started start end next = record { request = refl; head = refl; plain = λ n e. other n e }
  where
    other : (n : ℕ) → NotShown ≡ Plain n → end ≡ start.head + n
    other n e = absurd (cc)

chunked_started : (start : Start) (pieces : List Piece) (end : ℕ) (next : Then) → IsStarted start (shape_of start (Chunked pieces) end next)
chunked_started start pieces end next = record { request = refl; head = refl; plain = λ n e. other n e }
  where
    other : (n : ℕ) → Chunked pieces ≡ Plain n → end ≡ start.head + n
    other n e = absurd (cc)

pub chunks_started : (turns : ℕ) (start : Start) (bytes : List ℕ) (place : Place) (pieces : List Piece) (s : Shape)
    → chunks turns start bytes place pieces ≡ Some s → IsStarted start s
unfolding chunks
chunks_started zero start bytes place pieces s e = absurd (cc)
chunks_started (suc turns) start bytes place pieces s e =
    by (λ next more f. chunks_started turns start bytes next more s f) (turn_at place (drop place.at bytes)) e
  where
    by : ((next : Place) (more : List Piece) → chunks turns start bytes next more ≡ Some s → IsStarted start s) → (t : Turn)
        → on_turn (chunks turns start bytes) start place pieces t ≡ Some s → IsStarted start s
    by go (Chunk line size) e = go _ _ e
    by go (Last line) e = go _ _ e
    by go (Trailing line) e = go _ _ e
    by go (Long line) e =
        started start (shape_of start NotShown (place.at + line) Opaque) s (hidden_started start (place.at + line) Opaque) (same_shape (shape_of start NotShown (place.at + line) Opaque) s e)
    by go End e =
        started start (shape_of start (Chunked pieces) (place.at + 2) (Follows 0)) s (chunked_started start pieces (place.at + 2) (Follows 0))
        (same_shape (shape_of start (Chunked pieces) (place.at + 2) (Follows 0)) s e)
    by go Waits e = absurd (cc)
    by go Fails e = absurd (cc)
