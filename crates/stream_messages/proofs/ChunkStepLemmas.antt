-- A body in chunks, read one turn after the other: each turn is a chunk, a size line or a line of the grammar.
use Rattle.std.proofs.Common.{◌≡◌, ℕ, suc, ◌+◌, ◌-◌, ◌<◌, ◌≤◌, true, false, ◌||◌, List, [], ◌∷◌, ◌++◌, length, take, drop, refl, sym, ap, ◌∙◌, subst, arith, append_assoc, length-append, length-drop, length-take-le, take-append-drop, drop-drop, Option, Some, None}
use Rattle.std.specs.Prelude.{◌==◌, nat_le, nat_lt}
use Rattle.std.proofs.lemmas.Bool.{cond-true, cond-false, cond_both}
use Rattle.std.proofs.lemmas.List.Elements.{All-nil}
use Rattle.httparse.specs.Ascii.{crlf_bytes}
use Rattle.httparse.specs.Grammar.{is_extension_byte}
use Rattle.stream_messages.specs.declared.lines.Line.{Line}
use Rattle.stream_messages.specs.declared.lines.Line.TheVariants.{Whole, Short, Wrong}
use Rattle.stream_messages.specs.declared.plans.Start.{Start}
use Rattle.stream_messages.specs.declared.shape.Body.TheVariants.{Chunked, NotShown}
use Rattle.stream_messages.specs.declared.shape.Piece.{Piece}
use Rattle.stream_messages.specs.declared.shape.Then.TheVariants.{Follows, Opaque}
use Rattle.stream_messages.specs.declared.chunks.Place.{Place}
use Rattle.stream_messages.specs.declared.chunks.Turn.{Turn}
use Rattle.stream_messages.specs.declared.chunks.Turn.TheVariants.{Chunk, Last, Long, Trailing, End, Waits, Fails}
use Rattle.stream_messages.specs.Limits.{body_limit, line_limit, trailer_limit}
use Rattle.stream_messages.specs.Lines.{crlf_at, line_of, size_in}
use Rattle.stream_messages.specs.Chunks.{shape_of, trailing_turn, data_turn, sized, size_turn, turn_at, on_turn, chunks}
use Rattle.stream_messages.specs.ChunkedBodies.{print_line, SizeLine, print_size, chunk_size, IsSizeLine, SizedChunk, print_chunk, IsChunk, piece_at, IsTrailerLine, StandsAt}
use Rattle.stream_messages.proofs.HeadLemmas.{drop-front}
use Rattle.stream_messages.proofs.ChunkTextLemmas.{IsFront, front_by, front_rest, stands_first, line_len, line_read, crlf_says, TextLine, line_says, size_line_read, BeginsSized, size_line_says}

-- a place among the chunks, and one among the lines behind them
abbrev pub chunk_place : ℕ → ℕ → Place
chunk_place at sum = record { at = at; sum = sum; trailer = false; used = 0; text = 0 }

abbrev pub line_place : ℕ → ℕ → ℕ → Place
line_place at sum used = record { at = at; sum = sum; trailer = true; used = used; text = 0 }

-- ---- what stands at a place is the next turn

not_none : (n : ℕ) → 1 ≤ n → (n == 0) ≡ false
not_none n some = grind arith

not_past : (sum size : ℕ) → sum + size ≤ body_limit → nat_lt body_limit (sum + size) ≡ false
not_past sum size within = grind arith

is_past : (sum size : ℕ) → body_limit < sum + size → nat_lt body_limit (sum + size) ≡ true
is_past sum size past = grind arith

data_front : (c : SizedChunk) (bytes : List ℕ) → IsFront (print_chunk c) bytes → drop (length (print_size c.line) + length c.content) bytes ≡ 13 ∷ 10 ∷ drop (length (print_chunk c)) bytes
data_front c bytes front =
    let line : List ℕ = print_size c.line in
    let rest : List ℕ = drop (length (print_chunk c)) bytes in
    let whole : bytes ≡ (line ++ c.content) ++ 13 ∷ 10 ∷ rest =
    front_rest (print_chunk c) bytes front ∙ append_assoc line (print_line c.content) rest
    ∙ ap (λ (t : List ℕ). line ++ t) (append_assoc c.content crlf_bytes rest)
    ∙ sym (append_assoc line c.content (13 ∷ 10 ∷ rest)) in
    ap (λ (n : ℕ). drop n bytes) (sym (length-append line c.content))
    ∙ ap (drop (length (line ++ c.content))) whole ∙ drop-front (line ++ c.content) (13 ∷ 10 ∷ rest)

chunk_turn : (at sum : ℕ) (c : SizedChunk) (bytes : List ℕ) → IsChunk c → StandsAt at (print_chunk c) bytes → sum + length c.content ≤ body_limit
    → turn_at (chunk_place at sum) (drop at bytes) ≡ Chunk (length (print_size c.line)) (length c.content)
unfolding turn_at
chunk_turn at sum c bytes is stands within =
    let line : ℕ = length (print_size c.line) in
    let size : ℕ = length c.content in
    size_line_read sum c.line (drop at bytes) is.line (stands_first at (print_size c.line) (print_line c.content) bytes stands)
    ∙ ap (λ (n : ℕ). sized sum line (drop at bytes) (Some n)) is.size
    ∙ cond-false _ _ _ (not_none size is.some)
    ∙ cond-false _ _ _ (not_past sum size within)
    ∙ ap (λ (t : List ℕ). data_turn line size (crlf_at (line + size) t)) (data_front c (drop at bytes) stands)

last_turn : (at sum : ℕ) (l : SizeLine) (bytes : List ℕ) → IsSizeLine l → chunk_size l ≡ 0 → StandsAt at (print_size l) bytes
    → turn_at (chunk_place at sum) (drop at bytes) ≡ Last (length (print_size l))
unfolding turn_at
last_turn at sum l bytes is none stands =
    size_line_read sum l (drop at bytes) is stands
    ∙ ap (λ (n : ℕ). sized sum (length (print_size l)) (drop at bytes) (Some n)) none

long_turn : (at sum : ℕ) (l : SizeLine) (bytes : List ℕ) → IsSizeLine l → 1 ≤ chunk_size l → body_limit < sum + chunk_size l → StandsAt at (print_size l) bytes
    → turn_at (chunk_place at sum) (drop at bytes) ≡ Long (length (print_size l))
unfolding turn_at
long_turn at sum l bytes is some past stands =
    size_line_read sum l (drop at bytes) is stands
    ∙ cond-false _ _ _ (not_none (chunk_size l) some)
    ∙ cond-true _ _ _ (is_past sum (chunk_size l) past)

line_fits : (n used : ℕ) → used + (n + 2) ≤ trailer_limit → (n == 0 || nat_le (n + 2) (trailer_limit - used)) ≡ true
line_fits n used less = let left : n + 2 ≤ trailer_limit - used = omega (arith, less) in grind arith

line_turn : (at sum used : ℕ) (text bytes : List ℕ) → IsTrailerLine text → used + length (print_line text) ≤ trailer_limit → StandsAt at (print_line text) bytes
    → turn_at (line_place at sum used) (drop at bytes) ≡ Trailing (length (print_line text))
unfolding turn_at
line_turn at sum used text bytes is less stands =
    let len : length (print_line text) ≡ length text + 2 = line_len text in
    ap trailing_turn (line_read (trailer_limit - used) text (drop at bytes) is.1 stands (line_fits (length text) used (omega (arith, less, len))))
    ∙ cond-false _ _ _ (not_none (length text) is.0)
    ∙ ap (λ (n : ℕ). Trailing n) (sym len)

end_turn : (at sum used : ℕ) (bytes : List ℕ) → StandsAt at crlf_bytes bytes → turn_at (line_place at sum used) (drop at bytes) ≡ End
unfolding turn_at
end_turn at sum used bytes stands =
    ap trailing_turn (line_read (trailer_limit - used) [] (drop at bytes) (All-nil (λ v. is_extension_byte v ≡ true)) stands refl)

-- ---- one turn of the reading

chunk_end : (at : ℕ) (c : SizedChunk) → at + length (print_size c.line) + length c.content + 2 ≡ at + length (print_chunk c)
chunk_end at c = omega (arith, length-append (print_size c.line) (print_line c.content), line_len c.content)

module _ (turns : ℕ) (start : Start) (bytes : List ℕ) where
  pub step_chunk : (at sum : ℕ) (pieces : List Piece) (c : SizedChunk) → IsChunk c → StandsAt at (print_chunk c) bytes → sum + length c.content ≤ body_limit
      → chunks (suc turns) start bytes (chunk_place at sum) pieces ≡ chunks turns start bytes (chunk_place (at + length (print_chunk c)) (sum + length c.content)) (pieces ++ piece_at at c ∷ [])
  unfolding chunks
  step_chunk at sum pieces c is stands within =
      ap (on_turn (chunks turns start bytes) start (chunk_place at sum) pieces) (chunk_turn at sum c bytes is stands within)
      ∙ ap (λ (n : ℕ). chunks turns start bytes (chunk_place n (sum + length c.content)) (pieces ++ piece_at at c ∷ [])) (chunk_end at c)

  pub step_last : (at sum : ℕ) (pieces : List Piece) (l : SizeLine) → IsSizeLine l → chunk_size l ≡ 0 → StandsAt at (print_size l) bytes
      → chunks (suc turns) start bytes (chunk_place at sum) pieces ≡ chunks turns start bytes (line_place (at + length (print_size l)) sum 0) pieces
  unfolding chunks
  step_last at sum pieces l is none stands =
      ap (on_turn (chunks turns start bytes) start (chunk_place at sum) pieces) (last_turn at sum l bytes is none stands)

  pub step_long : (at sum : ℕ) (pieces : List Piece) (l : SizeLine) → IsSizeLine l → 1 ≤ chunk_size l → body_limit < sum + chunk_size l → StandsAt at (print_size l) bytes
      → chunks (suc turns) start bytes (chunk_place at sum) pieces ≡ Some (shape_of start NotShown (at + length (print_size l)) Opaque)
  unfolding chunks
  step_long at sum pieces l is some past stands =
      ap (on_turn (chunks turns start bytes) start (chunk_place at sum) pieces) (long_turn at sum l bytes is some past stands)

  pub step_line : (at sum used : ℕ) (pieces : List Piece) (text : List ℕ) → IsTrailerLine text → used + length (print_line text) ≤ trailer_limit → StandsAt at (print_line text) bytes
      → chunks (suc turns) start bytes (line_place at sum used) pieces ≡ chunks turns start bytes (line_place (at + length (print_line text)) sum (used + length (print_line text))) pieces
  unfolding chunks
  step_line at sum used pieces text is less stands =
      ap (on_turn (chunks turns start bytes) start (line_place at sum used) pieces) (line_turn at sum used text bytes is less stands)

  pub step_end : (at sum used : ℕ) (pieces : List Piece) → StandsAt at crlf_bytes bytes
      → chunks (suc turns) start bytes (line_place at sum used) pieces ≡ Some (shape_of start (Chunked pieces) (at + length crlf_bytes) (Follows 0))
  unfolding chunks
  step_end at sum used pieces stands =
      ap (on_turn (chunks turns start bytes) start (line_place at sum used) pieces) (end_turn at sum used bytes stands)

-- ---- what a turn says of the bytes

pub record BeginsChunk (bytes : List ℕ) : Type 0 where
  pub chunk : SizedChunk
  pub valid : IsChunk chunk
  pub stands : IsFront (print_chunk chunk) bytes

pub record BeginsLong (sum : ℕ) (bytes : List ℕ) (n : ℕ) : Type 0 where
  pub size : ℕ
  pub sized : BeginsSized bytes n size
  pub some : 1 ≤ size
  pub past : body_limit < sum + size

abbrev pub ChunkSays : ℕ → List ℕ → Turn → Type 0
ChunkSays sum bytes (Chunk line size) = (begins : BeginsChunk bytes) × (length begins.chunk.content ≡ size) × (sum + size ≤ body_limit)
ChunkSays sum bytes (Last line) = BeginsSized bytes line 0
ChunkSays sum bytes (Long line) = BeginsLong sum bytes line
ChunkSays sum bytes (Trailing line) = ⊥
ChunkSays sum bytes End = ⊥
ChunkSays sum bytes Waits = Unit {0}
ChunkSays sum bytes Fails = Unit {0}

chunk_begins : (bytes : List ℕ) (n size m : ℕ) → BeginsSized bytes n size → 1 ≤ size → crlf_at (n + size) (drop (n + size) bytes) ≡ Whole m
    → (begins : BeginsChunk bytes) × (length begins.chunk.content ≡ size)
chunk_begins bytes n size m sized some at =
    let line : List ℕ = print_size sized.line in
    let rest : List ℕ = drop n bytes in
    let last : List ℕ = drop 2 (drop (n + size) bytes) in
    let feed : drop size rest ≡ 13 ∷ 10 ∷ last = drop-drop size n bytes ∙ crlf_says (n + size) m (drop (n + size) bytes) at in
    let inside : size ≤ length rest = omega (arith, length-drop size rest, ap length feed) in
    let len : length (take size rest) ≡ size = length-take-le size rest inside in
    let content : rest ≡ print_line (take size rest) ++ last =
    sym (take-append-drop size rest) ∙ ap (λ (t : List ℕ). take size rest ++ t) feed ∙ sym (append_assoc (take size rest) crlf_bytes last) in
    let whole : bytes ≡ (line ++ print_line (take size rest)) ++ last =
    front_rest line bytes sized.stands ∙ ap (λ (k : ℕ). line ++ drop k bytes) sized.len
    ∙ ap (λ (t : List ℕ). line ++ t) content ∙ sym (append_assoc line (print_line (take size rest)) last) in (
      record {
        chunk = record { line = sized.line; content = take size rest };
        valid = record { line = sized.valid; size = sized.size_is ∙ sym len; some = omega (arith, len, some) };
        stands = front_by (line ++ print_line (take size rest)) last bytes whole;
      },
      len,
    )

data_says : (sum : ℕ) (bytes : List ℕ) (n size : ℕ) (l : Line) → BeginsSized bytes n size → 1 ≤ size → sum + size ≤ body_limit
    → crlf_at (n + size) (drop (n + size) bytes) ≡ l → ChunkSays sum bytes (data_turn n size l)
data_says sum bytes n size Short sized some within at = tt
data_says sum bytes n size Wrong sized some within at = tt
data_says sum bytes n size (Whole m) sized some within at =
    let begins = chunk_begins bytes n size m sized some at in
    (begins.0, begins.1, within)

none_is : (n : ℕ) → (n == 0) ≡ true → n ≡ 0
none_is n e = grind arith

some_is : (n : ℕ) → (n == 0) ≡ false → 1 ≤ n
some_is n e = grind arith

past_is : (sum size : ℕ) → nat_lt body_limit (sum + size) ≡ true → body_limit < sum + size
past_is sum size e = grind arith

within_is : (sum size : ℕ) → nat_lt body_limit (sum + size) ≡ false → sum + size ≤ body_limit
within_is sum size e = grind arith

sized_says : (sum : ℕ) (bytes : List ℕ) (n : ℕ) (o : Option ℕ) → TextLine line_limit bytes n → size_in (take n bytes) ≡ o → ChunkSays sum bytes (sized sum (n + 2) bytes o)
sized_says sum bytes n None text e = tt
sized_says sum bytes n (Some size) text e =
    let begins : BeginsSized bytes (n + 2) size = size_line_says bytes n size text e in
    cond_both (size == 0) _ _ (ChunkSays sum bytes)
    (λ none. subst (BeginsSized bytes (n + 2)) (none_is size none) begins)
    (λ other. cond_both (nat_lt body_limit (sum + size)) _ _ (ChunkSays sum bytes)
    (λ past. record { size = size; sized = begins; some = some_is size other; past = past_is sum size past })
    (λ within. data_says sum bytes (n + 2) size _ begins (some_is size other) (within_is sum size within) refl))

size_says : (sum : ℕ) (bytes : List ℕ) (l : Line) → line_of line_limit 0 bytes ≡ l → ChunkSays sum bytes (size_turn sum bytes l)
size_says sum bytes Short at = tt
size_says sum bytes Wrong at = tt
size_says sum bytes (Whole n) at = sized_says sum bytes n (size_in (take n bytes)) (line_says line_limit bytes n at) refl

pub chunk_says : (at sum : ℕ) (bytes : List ℕ) → ChunkSays sum bytes (turn_at (chunk_place at sum) bytes)
unfolding turn_at
chunk_says at sum bytes = size_says sum bytes (line_of line_limit 0 bytes) refl

pub record BeginsLine (used : ℕ) (bytes : List ℕ) : Type 0 where
  pub text : List ℕ
  pub valid : IsTrailerLine text
  pub stands : IsFront (print_line text) bytes
  pub short : used + length (print_line text) ≤ trailer_limit

abbrev pub LineSays : ℕ → List ℕ → Turn → Type 0
LineSays used bytes (Chunk line size) = ⊥
LineSays used bytes (Last line) = ⊥
LineSays used bytes (Long line) = ⊥
LineSays used bytes (Trailing line) = BeginsLine used bytes
LineSays used bytes End = IsFront crlf_bytes bytes
LineSays used bytes Waits = Unit {0}
LineSays used bytes Fails = Unit {0}

line_left : (n used : ℕ) → 1 ≤ n → (n == 0 || nat_le (n + 2) (trailer_limit - used)) ≡ true → used + (n + 2) ≤ trailer_limit
line_left n used some e = let left : n + 2 ≤ trailer_limit - used = grind arith in omega (arith, left)

trailing_says : (used : ℕ) (bytes : List ℕ) (l : Line) → line_of (trailer_limit - used) 0 bytes ≡ l → LineSays used bytes (trailing_turn l)
trailing_says used bytes Short at = tt
trailing_says used bytes Wrong at = tt
trailing_says used bytes (Whole n) at =
    let line = line_says (trailer_limit - used) bytes n at in
    cond_both (n == 0) _ _ (LineSays used bytes)
    (λ none. subst (λ (k : ℕ). IsFront (print_line (take k bytes)) bytes) (none_is n none) line.stands)
    (λ other. let some : 1 ≤ n = some_is n other in
    record {
      text = take n bytes;
      valid = (omega (arith, some, line.len), line.pass);
      stands = line.stands;
      short = omega (arith, line_left n used some line.short, line_len (take n bytes), line.len);
    })

pub line_turn_says : (at sum used : ℕ) (bytes : List ℕ) → LineSays used bytes (turn_at (line_place at sum used) bytes)
unfolding turn_at
line_turn_says at sum used bytes = trailing_says used bytes (line_of (trailer_limit - used) 0 bytes) refl
