-- A body in chunks by its grammar (RFC 9112, 7.1). Each form is a tree, a printer from the tree to its bytes, and a fact that
-- says which trees are valid.
--
--    chunked-body = *chunk last-chunk *trailer-line CRLF
--    chunk        = size-line content CRLF          ; as many bytes of content as the size says, and at least one
--    last-chunk   = size-line                       ; of size 0
--    size-line    = 1*8HEXDIG [ tail ] CRLF         ; at most 4,096 bytes
--    tail         = ( SP / HTAB / ";" ) text        ; text has no CR or LF
--    trailer-line = text CRLF                       ; not empty, and all of them at most 65,536 bytes
use Rattle.std.specs.Prelude.{◌≡◌, ◌<◌, ◌≤◌, ◌↔◌, ◌⊎◌, ℕ, ◌+◌, Bool, List, [], ◌∷◌, ◌++◌, length, take, drop, All, Some}
use Rattle.std.specs.List.{flat_map}
use Rattle.std.specs.Char.{is_ascii_hexdigit}
use Rattle.std.specs.Str.Parse.{digits_value}
use Rattle.httparse.specs.Ascii.{tab, space, semicolon, crlf_bytes}
use Rattle.httparse.specs.Grammar.{AllPass, is_extension_byte}
use Rattle.stream_messages.specs.declared.plans.Plan.TheVariants.{Chunks}
use Rattle.stream_messages.specs.declared.plans.Start.{Start}
use Rattle.stream_messages.specs.declared.shape.Body.TheVariants.{Chunked, NotShown}
use Rattle.stream_messages.specs.declared.shape.Piece.{Piece}
use Rattle.stream_messages.specs.declared.shape.Shape.{Shape}
use Rattle.stream_messages.specs.declared.shape.Then.TheVariants.{Follows, Opaque}
use Rattle.stream_messages.specs.Limits.{turn_limit}
use Rattle.stream_messages.specs.Sizes.{size_of_pieces}
use Rattle.stream_messages.specs.Heads.{Head, print_head, head_of}
use Rattle.stream_messages.specs.Plans.{plan_of, start_of}
use Rattle.stream_messages.specs.Chunks.{shape_of, first_place, chunks}
use Rattle.stream_messages.specs.HttpMessages.{first_message}

-- bytes without CR and LF
abbrev pub IsText : List ℕ → Type 0
IsText bytes = AllPass is_extension_byte bytes

abbrev pub print_line : List ℕ → List ℕ
print_line text = text ++ crlf_bytes

-- ---- a chunk's size line

pub record SizeLine : Type 0 where
  pub digits : List ℕ
  pub tail : List ℕ

abbrev pub print_size : SizeLine → List ℕ
print_size l = print_line (l.digits ++ l.tail)

abbrev pub chunk_size : SizeLine → ℕ
chunk_size l = digits_value 16 l.digits

abbrev pub IsTail : List ℕ → Type 0
IsTail [] = Unit {0}
IsTail (b ∷ rest) = ((b ≡ space) ⊎ ((b ≡ tab) ⊎ (b ≡ semicolon))) × IsText rest

pub record IsSizeLine (l : SizeLine) : Type 0 where
  pub some : 1 ≤ length l.digits
  pub few : length l.digits ≤ 8
  pub digits : AllPass is_ascii_hexdigit l.digits
  pub tail : IsTail l.tail
  pub short : length (print_size l) ≤ 4096

-- ---- chunks

pub record SizedChunk : Type 0 where
  pub line : SizeLine
  pub content : List ℕ

abbrev pub print_chunk : SizedChunk → List ℕ
print_chunk c = print_size c.line ++ print_line c.content

pub record IsChunk (c : SizedChunk) : Type 0 where
  pub line : IsSizeLine c.line
  pub size : chunk_size c.line ≡ length c.content
  pub some : 1 ≤ length c.content

-- where a chunk's bytes lie that begins at a place, and where those of all of them do
abbrev pub piece_at : ℕ → SizedChunk → Piece
piece_at at c = record { start = at + length (print_size c.line); len = length c.content }

abbrev pub pieces_from : ℕ → List SizedChunk → List Piece
pieces_from at [] = []
pieces_from at (c ∷ rest) = piece_at at c ∷ pieces_from (at + length (print_chunk c)) rest

-- ---- lines behind the last chunk

abbrev pub IsTrailerLine : List ℕ → Type 0
IsTrailerLine text = (1 ≤ length text) × IsText text

abbrev pub print_trailer : List (List ℕ) → List ℕ
print_trailer lines = flat_map print_line lines

-- ---- the whole body

pub record ChunkedBody : Type 0 where
  pub chunks : List SizedChunk
  pub last : SizeLine
  pub trailer : List (List ℕ)

abbrev pub print_body : ChunkedBody → List ℕ
print_body b =
    flat_map print_chunk b.chunks
    ++ (print_size b.last ++ (print_trailer b.trailer ++ crlf_bytes))

pub record IsChunkedBody (b : ChunkedBody) : Type 0 where
  pub chunks : All IsChunk b.chunks
  pub last : IsSizeLine b.last
  pub none : chunk_size b.last ≡ 0
  pub trailer : All IsTrailerLine b.trailer
  pub short : length (print_trailer b.trailer) ≤ 65536

-- a text stands at a place of bytes
abbrev pub StandsAt : ℕ → List ℕ → List ℕ → Type 0
StandsAt at text bytes = take (length text) (drop at bytes) ≡ text

-- at a place of the bytes stands a body in chunks, of at most 1,048,576 bytes, with these pieces and this end
pub record IsChunked (bytes : List ℕ) (at : ℕ) (pieces : List Piece) (end : ℕ) : Type 0 where
  pub body : ChunkedBody
  pub valid : IsChunkedBody body
  pub stands : StandsAt at (print_body body) bytes
  pub pieces_are : pieces ≡ pieces_from at body.chunks
  pub end_is : end ≡ at + length (print_body body)
  pub short : size_of_pieces pieces ≤ 1048576

-- chunks stand there, and this is the end of the size line with which they are more than 1,048,576 bytes
pub record IsTooLong (bytes : List ℕ) (at end : ℕ) : Type 0 where
  pub chunks : List SizedChunk
  pub line : SizeLine
  pub valid : All IsChunk chunks
  pub sized : IsSizeLine line
  pub stands : StandsAt at (flat_map print_chunk chunks ++ print_size line) bytes
  pub end_is : end ≡ at + length (flat_map print_chunk chunks ++ print_size line)
  pub short : size_of_pieces (pieces_from at chunks) ≤ 1048576
  pub long : 1048576 < size_of_pieces (pieces_from at chunks) + chunk_size line

-- ---- messages

-- the head at the front asks for chunks
pub record AsksChunks (asked : Bool) (bytes : List ℕ) (h : Head) : Type 0 where
  pub head : head_of bytes ≡ Some h
  pub plan : plan_of asked h ≡ Chunks

-- a message with this head is what its chunks make of it: they are its body, or are too long to be shown
abbrev pub IsOfChunks : List ℕ → Head → Shape → Type 0
IsOfChunks bytes h s =
    ((pieces : List Piece) × IsChunked bytes (length (print_head h)) pieces s.end
    × (s ≡ shape_of (start_of h) (Chunked pieces) s.end (Follows 0)))
    ⊎ (IsTooLong bytes (length (print_head h)) s.end
    × (s ≡ shape_of (start_of h) NotShown s.end Opaque))

-- where a head asks for chunks, the first message is exactly what they make of it; no other message has chunks; and more
-- turns find nothing more
pub record ChunkLaws : Type 0 where
  pub exact : (asked : Bool) (bytes : List ℕ) (h : Head) (s : Shape) → AsksChunks asked bytes h
      → (first_message asked bytes ≡ Some s) ↔ IsOfChunks bytes h s
  pub asks : (asked : Bool) (bytes : List ℕ) (s : Shape) (pieces : List Piece)
      → first_message asked bytes ≡ Some s → s.body ≡ Chunked pieces
      → (h : Head) × AsksChunks asked bytes h
  pub turns : (more : ℕ) (start : Start) (bytes : List ℕ)
      → chunks (turn_limit + more) start bytes (first_place start.head) []
      ≡ chunks turn_limit start bytes (first_place start.head) []
