-- Bodies in chunks: what is found at a place is the body that stands there.
use Rattle.std.proofs.Common.{◌≡◌, ℕ, zero, suc, ◌+◌, ◌*◌, ◌<◌, ◌≤◌, ◌⊎◌, inl, inr, ⊎_elim, List, [], ◌∷◌, ◌++◌, length, drop, refl, sym, ap, ap₂, ◌∙◌, subst, arith, append-nil, append_assoc, length-append, Option, Some, None, All}
use Rattle.std.specs.List.{flat_map}
use Rattle.std.proofs.lemmas.List.Elements.{All-nil, All-cons, All-head, All-tail}
use Rattle.httparse.specs.Ascii.{crlf_bytes}
use Rattle.stream_messages.specs.declared.plans.Start.{Start}
use Rattle.stream_messages.specs.declared.shape.Body.TheVariants.{Chunked, NotShown}
use Rattle.stream_messages.specs.declared.shape.Piece.{Piece}
use Rattle.stream_messages.specs.declared.shape.Shape.{Shape}
use Rattle.stream_messages.specs.declared.shape.Then.TheVariants.{Follows, Opaque}
use Rattle.stream_messages.specs.declared.chunks.Turn.{Turn}
use Rattle.stream_messages.specs.declared.chunks.Turn.TheVariants.{Chunk, Last, Long, Trailing, End, Waits, Fails}
use Rattle.stream_messages.specs.Limits.{body_limit, trailer_limit, turn_limit}
use Rattle.stream_messages.specs.Sizes.{size_of_pieces}
use Rattle.stream_messages.specs.Chunks.{shape_of, turn_at, on_turn, chunks}
use Rattle.stream_messages.specs.ChunkedBodies.{print_line, SizeLine, print_size, chunk_size, IsSizeLine, SizedChunk, print_chunk, IsChunk, piece_at, pieces_from, IsTrailerLine, print_trailer, ChunkedBody, print_body, IsChunkedBody, StandsAt}
use Rattle.stream_messages.proofs.ChunkTextLemmas.{stands_first, stands_second, stands_both, line_len}
use Rattle.stream_messages.proofs.ChunkStepLemmas.{chunk_place, line_place, step_chunk, step_last, step_long, step_line, step_end, ChunkSays, chunk_says, LineSays, line_turn_says}

-- ---- a list of chunks is its first one and the rest

pub first_whole : (c : SizedChunk) (rest : List SizedChunk) (last : List ℕ) → flat_map print_chunk (c ∷ rest) ++ last ≡ print_chunk c ++ (flat_map print_chunk rest ++ last)
first_whole c rest last = append_assoc (print_chunk c) (flat_map print_chunk rest) last

list_end : (at : ℕ) (c : SizedChunk) (rest : List SizedChunk) (last : List ℕ)
    → at + length (print_chunk c) + length (flat_map print_chunk rest ++ last) ≡ at + length (flat_map print_chunk (c ∷ rest) ++ last)
list_end at c rest last =
    omega (arith, ap length (first_whole c rest last), length-append (print_chunk c) (flat_map print_chunk rest ++ last))

-- ---- a body that stands there is found

module _ (start : Start) (bytes : List ℕ) where
  abbrev shown_shape : List Piece → ℕ → Shape
  shown_shape pieces end = shape_of start (Chunked pieces) end (Follows 0)

  abbrev long_shape : ℕ → Shape
  long_shape end = shape_of start NotShown end Opaque

  trailer_found : (lines : List (List ℕ)) (turns at sum used : ℕ) (pieces : List Piece) → length lines < turns → All IsTrailerLine lines
      → used + length (print_trailer lines) ≤ trailer_limit → StandsAt at (print_trailer lines ++ crlf_bytes) bytes
      → chunks turns start bytes (line_place at sum used) pieces ≡ Some (shown_shape pieces (at + length (print_trailer lines ++ crlf_bytes)))
  trailer_found [] zero at sum used pieces enough all short stands = absurd (omega (arith, enough))
  trailer_found [] (suc turns) at sum used pieces enough all short stands = step_end turns start bytes at sum used pieces stands
  trailer_found (text ∷ lines) zero at sum used pieces enough all short stands = absurd (omega (arith, enough))
  trailer_found (text ∷ lines) (suc turns) at sum used pieces enough all short stands =
      let line : List ℕ = print_line text in
      let rest : List ℕ = print_trailer lines ++ crlf_bytes in
      let whole : (line ++ print_trailer lines) ++ crlf_bytes ≡ line ++ rest = append_assoc line (print_trailer lines) crlf_bytes in
      let here : StandsAt at (line ++ rest) bytes = subst (λ (t : List ℕ). StandsAt at t bytes) whole stands in
      let count : length (line ++ print_trailer lines) ≡ length line + length (print_trailer lines) = length-append line (print_trailer lines) in
      let end : at + length line + length rest ≡ at + length ((line ++ print_trailer lines) ++ crlf_bytes) = omega (arith, ap length whole, length-append line rest) in
      step_line turns start bytes at sum used pieces text (All-head IsTrailerLine text lines all) (omega (arith, short, count)) (stands_first at line rest bytes here)
      ∙ trailer_found lines turns (at + length line) sum (used + length line) pieces (omega (arith, enough)) (All-tail IsTrailerLine text lines all)
      (omega (arith, short, count)) (stands_second at line rest bytes here)
      ∙ ap (λ (n : ℕ). Some (shown_shape pieces n)) end

  -- the first chunk is read, and then what stands behind it
  list_on : (c : SizedChunk) (rest : List SizedChunk) (last : List ℕ) (turns at sum : ℕ) (pieces : List Piece) (o : Option Shape) → All IsChunk (c ∷ rest)
      → sum + size_of_pieces (pieces_from at (c ∷ rest)) ≤ body_limit → StandsAt at (flat_map print_chunk (c ∷ rest) ++ last) bytes
      → (StandsAt (at + length (print_chunk c)) (flat_map print_chunk rest ++ last) bytes
      → chunks turns start bytes (chunk_place (at + length (print_chunk c)) (sum + length c.content)) (pieces ++ piece_at at c ∷ []) ≡ o)
      → chunks (suc turns) start bytes (chunk_place at sum) pieces ≡ o
  list_on c rest last turns at sum pieces o all short stands go =
      let here : StandsAt at (print_chunk c ++ (flat_map print_chunk rest ++ last)) bytes = subst (λ (t : List ℕ). StandsAt at t bytes) (first_whole c rest last) stands in
      step_chunk turns start bytes at sum pieces c (All-head IsChunk c rest all) (stands_first at (print_chunk c) (flat_map print_chunk rest ++ last) bytes here) (omega (arith, short))
      ∙ go (stands_second at (print_chunk c) (flat_map print_chunk rest ++ last) bytes here)

  list_found : (list : List SizedChunk) (last : SizeLine) (lines : List (List ℕ)) (turns at sum : ℕ) (pieces : List Piece) → length list + length lines + 2 ≤ turns
      → All IsChunk list → IsSizeLine last → chunk_size last ≡ 0 → All IsTrailerLine lines → length (print_trailer lines) ≤ trailer_limit
      → sum + size_of_pieces (pieces_from at list) ≤ body_limit
      → StandsAt at (flat_map print_chunk list ++ (print_size last ++ (print_trailer lines ++ crlf_bytes))) bytes
      → chunks turns start bytes (chunk_place at sum) pieces
      ≡ Some (shown_shape (pieces ++ pieces_from at list) (at + length (flat_map print_chunk list ++ (print_size last ++ (print_trailer lines ++ crlf_bytes)))))
  list_found list last lines zero at sum pieces enough all is none few short within stands = absurd (omega (arith, enough))
  list_found [] last lines (suc turns) at sum pieces enough all is none few short within stands =
      let rest : List ℕ = print_trailer lines ++ crlf_bytes in
      let end : at + length (print_size last) + length rest ≡ at + length (print_size last ++ rest) = omega (arith, length-append (print_size last) rest) in
      step_last turns start bytes at sum pieces last is none (stands_first at (print_size last) rest bytes stands)
      ∙ trailer_found lines turns (at + length (print_size last)) sum 0 pieces (omega (arith, enough)) few (omega (arith, short)) (stands_second at (print_size last) rest bytes stands)
      ∙ ap₂ (λ (all : List Piece) (n : ℕ). Some (shown_shape all n)) (sym (append-nil pieces)) end
  list_found (c ∷ list) last lines (suc turns) at sum pieces enough all is none few short within stands =
      let behind : List ℕ = print_size last ++ (print_trailer lines ++ crlf_bytes) in
      list_on c list behind turns at sum pieces _ all within stands
      (λ next. list_found list last lines turns (at + length (print_chunk c)) (sum + length c.content) (pieces ++ piece_at at c ∷ []) (omega (arith, enough)) (All-tail IsChunk c list all) is none few short
      (omega (arith, within)) next
      ∙ ap₂ (λ (all : List Piece) (n : ℕ). Some (shown_shape all n)) (append_assoc pieces (piece_at at c ∷ []) (pieces_from (at + length (print_chunk c)) list)) (list_end at c list behind))

  long_found : (list : List SizedChunk) (line : SizeLine) (turns at sum : ℕ) (pieces : List Piece) → length list + 1 ≤ turns
      → All IsChunk list → IsSizeLine line → sum + size_of_pieces (pieces_from at list) ≤ body_limit → body_limit < sum + (size_of_pieces (pieces_from at list) + chunk_size line)
      → StandsAt at (flat_map print_chunk list ++ print_size line) bytes
      → chunks turns start bytes (chunk_place at sum) pieces ≡ Some (long_shape (at + length (flat_map print_chunk list ++ print_size line)))
  long_found list line zero at sum pieces enough all is within past stands = absurd (omega (arith, enough))
  long_found [] line (suc turns) at sum pieces enough all is within past stands =
      step_long turns start bytes at sum pieces line is (omega (arith, within, past)) (omega (arith, past)) stands
  long_found (c ∷ list) line (suc turns) at sum pieces enough all is within past stands =
      list_on c list (print_size line) turns at sum pieces _ all within stands
      (λ next. long_found list line turns (at + length (print_chunk c)) (sum + length c.content) (pieces ++ piece_at at c ∷ []) (omega (arith, enough)) (All-tail IsChunk c list all) is
      (omega (arith, within)) (omega (arith, past)) next
      ∙ ap (λ (n : ℕ). Some (long_shape n)) (list_end at c list (print_size line)))

-- ---- what is found is a body that stands there

same_shape : (a b : Shape) → Some a ≡ Some b → b ≡ a
same_shape a b e = cc

pub record FoundLines (start : Start) (bytes : List ℕ) (at used : ℕ) (pieces : List Piece) (s : Shape) : Type 0 where
  pub lines : List (List ℕ)
  pub valid : All IsTrailerLine lines
  pub short : used + length (print_trailer lines) ≤ trailer_limit
  pub stands : StandsAt at (print_trailer lines ++ crlf_bytes) bytes
  pub shape : s ≡ shape_of start (Chunked pieces) (at + length (print_trailer lines ++ crlf_bytes)) (Follows 0)

pub record FoundBody (start : Start) (bytes : List ℕ) (at sum : ℕ) (pieces : List Piece) (s : Shape) : Type 0 where
  pub body : ChunkedBody
  pub valid : IsChunkedBody body
  pub within : sum + size_of_pieces (pieces_from at body.chunks) ≤ body_limit
  pub stands : StandsAt at (print_body body) bytes
  pub shape : s ≡ shape_of start (Chunked (pieces ++ pieces_from at body.chunks)) (at + length (print_body body)) (Follows 0)

pub record FoundLong (start : Start) (bytes : List ℕ) (at sum : ℕ) (s : Shape) : Type 0 where
  pub list : List SizedChunk
  pub line : SizeLine
  pub valid : All IsChunk list
  pub sized : IsSizeLine line
  pub within : sum + size_of_pieces (pieces_from at list) ≤ body_limit
  pub past : body_limit < sum + (size_of_pieces (pieces_from at list) + chunk_size line)
  pub stands : StandsAt at (flat_map print_chunk list ++ print_size line) bytes
  pub shape : s ≡ shape_of start NotShown (at + length (flat_map print_chunk list ++ print_size line)) Opaque

abbrev pub Found : Start → List ℕ → ℕ → ℕ → List Piece → Shape → Type 0
Found start bytes at sum pieces s = FoundBody start bytes at sum pieces s ⊎ FoundLong start bytes at sum s

module _ (start : Start) (bytes : List ℕ) where
  lines_say : (turns at sum used : ℕ) (pieces : List Piece) (s : Shape) → used ≤ trailer_limit → chunks turns start bytes (line_place at sum used) pieces ≡ Some s → FoundLines start bytes at used pieces s
  unfolding chunks
  lines_say zero at sum used pieces s less e = absurd (cc)
  lines_say (suc turns) at sum used pieces s less e =
      by (λ next more f. lines_say turns next sum more pieces s f) (turn_at (line_place at sum used) (drop at bytes)) refl (line_turn_says at sum used (drop at bytes)) e
    where
      by : ((next more : ℕ) → more ≤ trailer_limit → chunks turns start bytes (line_place next sum more) pieces ≡ Some s → FoundLines start bytes next more pieces s) → (t : Turn)
          → turn_at (line_place at sum used) (drop at bytes) ≡ t → LineSays used (drop at bytes) t → chunks (suc turns) start bytes (line_place at sum used) pieces ≡ Some s → FoundLines start bytes at used pieces s
      by go (Chunk line size) is says e = absurd says
      by go (Last line) is says e = absurd says
      by go (Long line) is says e = absurd says
      by go (Trailing line) is says e =
          let text : List ℕ = print_line says.text in
          let later = go (at + length text) (used + length text) says.short (sym (step_line turns start bytes at sum used pieces says.text says.valid says.short says.stands) ∙ e) in
          let rest : List ℕ = print_trailer later.lines ++ crlf_bytes in
          let whole : (text ++ print_trailer later.lines) ++ crlf_bytes ≡ text ++ rest = append_assoc text (print_trailer later.lines) crlf_bytes in
          let end : at + length text + length rest ≡ at + length ((text ++ print_trailer later.lines) ++ crlf_bytes) = omega (arith, ap length whole, length-append text rest) in
          record {
            lines = says.text ∷ later.lines;
            valid = All-cons IsTrailerLine says.text later.lines says.valid later.valid;
            short = omega (arith, later.short, length-append text (print_trailer later.lines));
            stands = subst (λ (t : List ℕ). StandsAt at t bytes) (sym whole) (stands_both at text rest bytes says.stands later.stands);
            shape = later.shape ∙ ap (λ (n : ℕ). shape_of start (Chunked pieces) n (Follows 0)) end;
          }
      by go End is says e = record {
        lines = [];
        valid = All-nil IsTrailerLine;
        short = omega (arith, less);
        stands = says;
        shape = same_shape (shape_of start (Chunked pieces) (at + length crlf_bytes) (Follows 0)) s (sym (step_end turns start bytes at sum used pieces says) ∙ e);
      }
      by go Waits is says e = let none : None ≡ Some s = sym (ap (on_turn (chunks turns start bytes) start (line_place at sum used) pieces) is) ∙ e in absurd (cc)
      by go Fails is says e = let none : None ≡ Some s = sym (ap (on_turn (chunks turns start bytes) start (line_place at sum used) pieces) is) ∙ e in absurd (cc)

  body_on : (at sum : ℕ) (pieces : List Piece) (c : SizedChunk) (s : Shape) → IsChunk c → StandsAt at (print_chunk c) bytes
      → FoundBody start bytes (at + length (print_chunk c)) (sum + length c.content) (pieces ++ piece_at at c ∷ []) s → FoundBody start bytes at sum pieces s
  body_on at sum pieces c s is stands later =
      let list : List SizedChunk = later.body.chunks in
      let last : List ℕ = print_size later.body.last ++ (print_trailer later.body.trailer ++ crlf_bytes) in
      let next : ℕ = at + length (print_chunk c) in
      record {
        body = record { chunks = c ∷ list; last = later.body.last; trailer = later.body.trailer };
        valid = record {
          chunks = All-cons IsChunk c list is later.valid.chunks;
          last = later.valid.last;
          none = later.valid.none;
          trailer = later.valid.trailer;
          short = later.valid.short;
        };
        within = omega (arith, later.within);
        stands = subst (λ (t : List ℕ). StandsAt at t bytes) (sym (first_whole c list last)) (stands_both at (print_chunk c) (flat_map print_chunk list ++ last) bytes stands later.stands);
        shape = later.shape
            ∙ ap₂ (λ (all : List Piece) (n : ℕ). shape_of start (Chunked all) n (Follows 0)) (append_assoc pieces (piece_at at c ∷ []) (pieces_from next list)) (list_end at c list last);
      }

  long_on : (at sum : ℕ) (c : SizedChunk) (s : Shape) → IsChunk c → StandsAt at (print_chunk c) bytes → FoundLong start bytes (at + length (print_chunk c)) (sum + length c.content) s → FoundLong start bytes at sum s
  long_on at sum c s is stands later = record {
    list = c ∷ later.list;
    line = later.line;
    valid = All-cons IsChunk c later.list is later.valid;
    sized = later.sized;
    within = omega (arith, later.within);
    past = omega (arith, later.past);
    stands = subst (λ (t : List ℕ). StandsAt at t bytes) (sym (first_whole c later.list (print_size later.line)))
        (stands_both at (print_chunk c) (flat_map print_chunk later.list ++ print_size later.line) bytes stands later.stands);
    shape = later.shape ∙ ap (λ (n : ℕ). shape_of start NotShown n Opaque) (list_end at c later.list (print_size later.line));
  }

  body_last : (at sum : ℕ) (pieces : List Piece) (l : SizeLine) (s : Shape) → IsSizeLine l → chunk_size l ≡ 0 → StandsAt at (print_size l) bytes → sum ≤ body_limit
      → FoundLines start bytes (at + length (print_size l)) 0 pieces s → FoundBody start bytes at sum pieces s
  unfolding trailer_limit
  body_last at sum pieces l s is none stands within later =
      let rest : List ℕ = print_trailer later.lines ++ crlf_bytes in
      let end : at + length (print_size l) + length rest ≡ at + length (print_size l ++ rest) = omega (arith, length-append (print_size l) rest) in
      record {
        body = record { chunks = []; last = l; trailer = later.lines };
        valid = record { chunks = All-nil IsChunk; last = is; none = none; trailer = later.valid; short = omega (arith, later.short) };
        within = omega (arith, within);
        stands = stands_both at (print_size l) rest bytes stands later.stands;
        shape = later.shape ∙ ap₂ (λ (all : List Piece) (n : ℕ). shape_of start (Chunked all) n (Follows 0)) (sym (append-nil pieces)) end;
      }

  pub list_says : (turns at sum : ℕ) (pieces : List Piece) (s : Shape) → sum ≤ body_limit → chunks turns start bytes (chunk_place at sum) pieces ≡ Some s → Found start bytes at sum pieces s
  unfolding chunks
  list_says zero at sum pieces s within e = absurd (cc)
  list_says (suc turns) at sum pieces s within e =
      by (λ next more all f. list_says turns next more all s f) (turn_at (chunk_place at sum) (drop at bytes)) refl (chunk_says at sum (drop at bytes)) e
    where
      by : ((next more : ℕ) (all : List Piece) → more ≤ body_limit → chunks turns start bytes (chunk_place next more) all ≡ Some s → Found start bytes next more all s) → (t : Turn)
          → turn_at (chunk_place at sum) (drop at bytes) ≡ t → ChunkSays sum (drop at bytes) t → chunks (suc turns) start bytes (chunk_place at sum) pieces ≡ Some s → Found start bytes at sum pieces s
      by go (Chunk line size) is says e =
          let c : SizedChunk = says.0.chunk in
          let more : sum + length c.content ≤ body_limit = omega (arith, says.1, says.2) in
          let later = go (at + length (print_chunk c)) (sum + length c.content) (pieces ++ piece_at at c ∷ []) more
          (sym (step_chunk turns start bytes at sum pieces c says.0.valid says.0.stands more) ∙ e) in
          ⊎_elim (λ f. inl (body_on at sum pieces c s says.0.valid says.0.stands f)) (λ f. inr (long_on at sum c s says.0.valid says.0.stands f)) later
      by go (Last line) is says e =
          inl (body_last at sum pieces says.line s says.valid says.size_is says.stands within
          (lines_say turns (at + length (print_size says.line)) sum 0 pieces s (omega arith) (sym (step_last turns start bytes at sum pieces says.line says.valid says.size_is says.stands) ∙ e)))
      by go (Long line) is says e =
          let l : SizeLine = says.sized.line in
          let some : 1 ≤ chunk_size l = omega (arith, says.some, says.sized.size_is) in
          let past : body_limit < sum + chunk_size l = omega (arith, says.past, says.sized.size_is) in
          inr (record {
            list = [];
            line = l;
            valid = All-nil IsChunk;
            sized = says.sized.valid;
            within = omega (arith, within);
            past = omega (arith, past);
            stands = says.sized.stands;
            shape = same_shape (shape_of start NotShown (at + length (print_size l)) Opaque) s (sym (step_long turns start bytes at sum pieces l says.sized.valid some past says.sized.stands) ∙ e);
          })
      by go (Trailing line) is says e = absurd says
      by go End is says e = absurd says
      by go Waits is says e = let none : None ≡ Some s = sym (ap (on_turn (chunks turns start bytes) start (chunk_place at sum) pieces) is) ∙ e in absurd (cc)
      by go Fails is says e = let none : None ≡ Some s = sym (ap (on_turn (chunks turns start bytes) start (chunk_place at sum) pieces) is) ∙ e in absurd (cc)

-- ---- how many turns a body takes

many_lines : (lines : List (List ℕ)) → All IsTrailerLine lines → 3 * length lines ≤ length (print_trailer lines)
many_lines [] all = omega arith
many_lines (text ∷ lines) all =
    let first = All-head IsTrailerLine text lines all in
    omega (arith, first.0, line_len text, length-append (print_line text) (print_trailer lines), many_lines lines (All-tail IsTrailerLine text lines all))

many_chunks : (list : List SizedChunk) (at : ℕ) → All IsChunk list → length list ≤ size_of_pieces (pieces_from at list)
many_chunks [] at all = omega arith
many_chunks (c ∷ list) at all =
    let first = All-head IsChunk c list all in
    omega (arith, first.some, many_chunks list (at + length (print_chunk c)) (All-tail IsChunk c list all))

enough_turns : (list lines : ℕ) → list ≤ body_limit → 3 * lines ≤ trailer_limit → list + lines + 2 ≤ turn_limit
unfolding body_limit trailer_limit turn_limit
enough_turns list lines few short = omega (arith, few, short)

enough_long : (list : ℕ) → list ≤ body_limit → list + 1 ≤ turn_limit
unfolding body_limit turn_limit
enough_long list few = omega (arith, few)

trailer_short : (n : ℕ) → n ≤ 65536 → n ≤ trailer_limit
unfolding trailer_limit
trailer_short n less = less

module _ (turns : ℕ) (enough : turn_limit ≤ turns) (start : Start) (bytes : List ℕ) (at : ℕ) where
  pub body_found : (body : ChunkedBody) → IsChunkedBody body → size_of_pieces (pieces_from at body.chunks) ≤ body_limit → StandsAt at (print_body body) bytes
      → chunks turns start bytes (chunk_place at 0) [] ≡ Some (shape_of start (Chunked (pieces_from at body.chunks)) (at + length (print_body body)) (Follows 0))
  body_found body is within stands =
      let short : length (print_trailer body.trailer) ≤ trailer_limit = trailer_short _ is.short in
      let few : length body.chunks ≤ body_limit = omega (arith, many_chunks body.chunks at is.chunks, within) in
      let lines : 3 * length body.trailer ≤ trailer_limit = omega (arith, many_lines body.trailer is.trailer, short) in
      list_found start bytes body.chunks body.last body.trailer turns at 0 []
      (omega (arith, enough_turns (length body.chunks) (length body.trailer) few lines, enough))
      is.chunks is.last is.none is.trailer short (omega (arith, within)) stands

  pub long_body_found : (list : List SizedChunk) (line : SizeLine) → All IsChunk list → IsSizeLine line → size_of_pieces (pieces_from at list) ≤ body_limit
      → body_limit < size_of_pieces (pieces_from at list) + chunk_size line → StandsAt at (flat_map print_chunk list ++ print_size line) bytes
      → chunks turns start bytes (chunk_place at 0) [] ≡ Some (shape_of start NotShown (at + length (flat_map print_chunk list ++ print_size line)) Opaque)
  long_body_found list line all is within past stands =
      let few : length list ≤ body_limit = omega (arith, many_chunks list at all, within) in
      long_found start bytes list line turns at 0 [] (omega (arith, enough_long (length list) few, enough)) all is (omega (arith, within)) (omega (arith, past)) stands
