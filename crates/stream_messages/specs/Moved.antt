-- Cursors of stretches of which bytes are let go, and only those from some position on are there.
use Rattle.std.specs.Prelude.{◌≡◌, ◌≤◌, ℕ, ◌+◌, ◌-◌, min, if◌then◌else◌, Bool, true, false, List, ◌++◌, length, drop}
use Rattle.stream_messages.specs.declared.cursor.Cursor.{Cursor}
use Rattle.stream_messages.specs.declared.cursor.Next.{Next}
use Rattle.stream_messages.specs.declared.cursor.Next.TheVariants.{Never, Awaited, Begun}
use Rattle.stream_messages.specs.declared.cutting.Shown.{Shown}
use Rattle.stream_messages.specs.declared.part.Part.{Part}
use Rattle.stream_messages.specs.declared.part.Part.TheVariants as parts
use Rattle.stream_messages.specs.declared.progress.Progress.TheVariants as progresses
use Rattle.stream_messages.specs.declared.framer.Framer.{Framer}
use Rattle.stream_messages.specs.Messages.{Asked, of_front, above, AgreeBelow, answered}
use Rattle.stream_messages.specs.Cursors.{CountsFor, IsQuiet, IsSound, KnowsNext, answers_before, from_cursor, goes, next_at}

-- the bytes of a stretch from a position on, where the stretch begins at another
abbrev pub bytes_from : ℕ → ℕ → List ℕ → List ℕ
bytes_from first start bytes = drop (start - first) bytes

-- a cursor is behind the messages of a stretch that begins at a position, and it stands in the bytes that are left, from a start on
pub record IsBehindFrom (framer : Framer) (asked : Asked) (count first start : ℕ) (c : Cursor) (front : List ℕ) : Type 0 where
  pub low : first ≤ start
  pub high : start ≤ first + length front
  pub behind : (later : Asked) (more : List ℕ) → AgreeBelow (first + length front) asked later
      → of_front framer later count first (front ++ more)
      ≡ of_front framer asked count first front ++ from_cursor framer later start
      (answered count (of_front framer asked count first front)) c (bytes_from first start (front ++ more))
  pub counts : CountsFor (answers_before c) (answered count (of_front framer asked count first front))
  pub known : KnowsNext framer
      (asked (start + next_at c.mark) (answered count (of_front framer asked count first front)))
      (next_at c.mark) (bytes_from first start front) c.next

-- what is shown of a longer stretch are its new messages, and the cursor is behind all of them
pub record IsCutOn (framer : Framer) (asked : Asked) (count first start : ℕ) (old front : List ℕ) (shown : Shown) : Type 0 where
  pub messages : shown.messages ≡ above (first + length old) (of_front framer asked count first front)
  pub cursor : IsBehindFrom framer asked count first start shown.cursor front

-- how many of so many bytes no later message needs: those before the next one, or all where none comes
abbrev pub spare_of : Cursor → ℕ → ℕ
spare_of c len = if goes c.next then min (next_at c.mark) len else len

-- bytes that can't become a message
abbrev pub is_never : Part → Bool
is_never (parts.Sized head at width) = false
is_never (parts.Http (progresses.InHead head)) = false
is_never (parts.Http (progresses.InBody shape)) = false
is_never (parts.Http (progresses.InChunks list)) = false
is_never (parts.Http progresses.Never) = true

-- none comes where its bytes can't become one
abbrev pub settled_next : Next → Next
settled_next Never = Never
settled_next Awaited = Awaited
settled_next (Begun started) = if is_never started.part then Never else Begun started

-- a cursor that stands for another, of which it knows the same
pub record StandsAlike (old new : Cursor) : Type 0 where
  pub behind : (framer : Framer) (asked : Asked) (count first start : ℕ) (front : List ℕ)
      → IsBehindFrom framer asked count first start old front → IsBehindFrom framer asked count first start new front
  pub sound : (framer : Framer) (front : List ℕ) → IsSound framer old front → IsSound framer new front
  pub quiet : (framer : Framer) (front : List ℕ) → IsQuiet framer old front → IsQuiet framer new front

-- the same cursor where so many bytes more are let go
pub record IsMovedBy (gone : ℕ) (old new : Cursor) : Type 0 where
  pub behind : (framer : Framer) (asked : Asked) (count first start : ℕ) (front : List ℕ) → start + gone ≤ first + length front
      → IsBehindFrom framer asked count first start old front → IsBehindFrom framer asked count first (start + gone) new front
  pub sound : (framer : Framer) (front : List ℕ) → gone ≤ length front → IsSound framer old front → IsSound framer new (drop gone front)
  pub quiet : (framer : Framer) (front : List ℕ) → gone ≤ length front → IsQuiet framer old front → IsQuiet framer new (drop gone front)
