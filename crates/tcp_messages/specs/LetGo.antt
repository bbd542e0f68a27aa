-- Bytes of a direction that no later message needs, and its reader where they are let go.
use Rattle.std.specs.Prelude.{◌≡◌, ◌-◌, ℕ, Bool, not, List, Option, None, Some}
use Rattle.tcp_streams.specs.declared.segment.Segment.{Segment}
use Rattle.tcp_streams.specs.declared.streams.Streams.{Streams}
use Rattle.tcp_streams.specs.LetGo.{AreLetGo, StandsFrom}
use Rattle.tcp_streams.specs.Standing.{AreReady, bytes_so_far, streams_of, taken_so_far}
use Rattle.stream_messages.specs.Moved.{spare_of, IsMovedBy, StandsAlike}
use Rattle.tcp_messages.specs.declared.readers.Reader.{Reader}
use Rattle.tcp_messages.specs.declared.readers.Readers.{Readers}
use Rattle.tcp_messages.specs.Readers.{reader_of, starts_of}

-- bytes of a direction were let go, up to a position at most
pub record IsLetGoOf (number : ℕ) (side : Bool) (to : ℕ) (old new : Streams) : Type 0 where
  pub ways : AreLetGo number side to (streams_of old) (streams_of new)
  pub ready : AreReady new
  pub stands : (past : List Segment) → StandsFrom past old → StandsFrom past new

-- as many segments were taken, of as many bytes
pub record IsSameCount (old new : Streams) : Type 0 where
  pub taken : taken_so_far new ≡ taken_so_far old
  pub bytes : bytes_so_far new ≡ bytes_so_far old

-- how many bytes were let go
abbrev pub gone_of : ℕ → Bool → Streams → Streams → ℕ
gone_of number side old new = starts_of (streams_of new) number side - starts_of (streams_of old) number side

-- a reader whose cursor knows the same, and how many of so many bytes no later message needs
pub record IsSettled (old new : Reader) (len spare : ℕ) : Type 0 where
  pub alike : StandsAlike old.cursor new.cursor
  pub heads : new.heads.items ≡ old.heads.items
  pub spare_is : spare ≡ spare_of new.cursor len

-- a reader where so many bytes of its direction are let go
pub record IsMovedOn (gone : ℕ) (old new : Reader) : Type 0 where
  pub cursor : IsMovedBy gone old.cursor new.cursor
  pub heads : new.heads.items ≡ old.heads.items

-- the readers of a stream where so many bytes of one side are let go
pub record AreMovedOn (side : Bool) (gone : ℕ) (old new : Readers) : Type 0 where
  pub framer : new.framer ≡ old.framer
  pub own : IsMovedOn gone (reader_of old side) (reader_of new side)
  pub other : reader_of new (not side) ≡ reader_of old (not side)

-- the same where it may have none
abbrev pub IsMovedAt : Bool → ℕ → Option Readers → Option Readers → Type 0
IsMovedAt side gone None new = new ≡ None
IsMovedAt side gone (Some old) new = (readers : Readers) × (new ≡ Some readers) × AreMovedOn side gone old readers

-- a reader and its direction's bytes
pub record IsReaderLetGo (number : ℕ) (side : Bool) (old_streams new_streams : Streams) (old new : Reader) : Type 0 where
  pub to : ℕ
  pub streams : IsLetGoOf number side to old_streams new_streams
  pub reader : IsMovedOn (gone_of number side old_streams new_streams) old new

-- the readers of a stream, and the bytes of one side
pub record AreReadersLetGo (number : ℕ) (side : Bool) (old_streams new_streams : Streams) (old new : Readers) : Type 0 where
  pub to : ℕ
  pub streams : IsLetGoOf number side to old_streams new_streams
  pub readers : AreMovedOn side (gone_of number side old_streams new_streams) old new

pub record IsStreamLetGo (number : ℕ) (side : Bool) (old_streams new_streams : Streams) (old new : Option Readers) : Type 0 where
  pub to : ℕ
  pub streams : IsLetGoOf number side to old_streams new_streams
  pub readers : IsMovedAt side (gone_of number side old_streams new_streams) old new
