-- What a reader of a capture file stands for that holds the bytes of the header, record or block at hand and those read
-- ahead, and never the file.
use Rattle.std.specs.Prelude.{◌≡◌, ◌≢◌, ◌<◌, ◌≤◌, ℕ, suc, ◌+◌, ◌-◌, ◌^◌, Bool, if◌then◌else◌, List, [], ◌∷◌, ◌++◌, length, take, Option, Some, None}
use Rattle.pk_base.specs.Limits.{file_limit}
use Rattle.pk_base.specs.declared.found.Reason.TheVariants.{ShortHeader, RecordCut, BlockCut}
use Rattle.capture_formats.specs.Pcap.{pcap_head, pcap_item}
use Rattle.capture_formats.specs.declared.header.HeadStep.{HeadStep}
use Rattle.capture_formats.specs.declared.header.HeadStep.TheVariants as head
use Rattle.capture_formats.specs.declared.packet.ItemStep.{ItemStep}
use Rattle.capture_formats.specs.declared.packet.ItemStep.TheVariants as item
use Rattle.capture_formats.specs.Sections.{Scope, block_in, scope_after, scope_of, step_of}
use Rattle.capture_formats.specs.declared.step.BlockStep.{BlockStep}
use Rattle.capture_formats.specs.declared.step.BlockStep.TheVariants as step
use Rattle.capture_read.specs.Capture.{Reading, capture_of, ended, with_frame, is_large, is_pcapng, pieces, reading_of}
use Rattle.capture_read.specs.Ending.{end_of_bytes, unfinished}
use Rattle.capture_read.specs.Offsets.{AreInterfaces}
use Rattle.capture_read.specs.Pieces.{record_at, head_behind}
use Rattle.capture_read.specs.State.{scoped_block, scope_behind}
use Rattle.capture_read.specs.declared.ending.Ending.{Ending}
use Rattle.capture_read.specs.declared.frame.Frame.{Frame}
use Rattle.capture_read.specs.declared.kind.Kind.{Kind}
use Rattle.capture_read.specs.declared.kind.Kind.TheVariants.{Pcap, Pcapng}
use Rattle.capture_read.specs.declared.kind.Seen.{Seen}
use Rattle.capture_read.specs.declared.kind.Seen.TheVariants as seen
use Rattle.capture_read.specs.declared.kind.Phase.{Phase}
use Rattle.capture_read.specs.declared.kind.Phase.TheVariants as phase

-- how far a file is read: its kind where its header or first block was read, what is known of the blocks before, the next
-- frame's number, the place of the next header, record or block, the bytes held from there on, and what was seen behind them
pub record Reader : Type 0 where
  pub kind : Option Kind
  pub scope : Scope
  pub number : ℕ
  pub at : ℕ
  pub held : List ℕ
  pub seen : Seen

-- a reader as its callers see it
pub record ReaderShown : Type 0 where
  pub state : Reader
  pub phase : Phase

-- frames that were answered, the newest first, and then what is still to come
abbrev pub with_past : List Frame → Reading → Reading
with_past [] reading = reading
with_past (frame ∷ past) reading = with_past past (with_frame frame reading)

-- what bytes stand for from a place of a file on
abbrev pub reading_here : Bool → Option Kind → Scope → ℕ → ℕ → List ℕ → Reading
reading_here large None scope number at bytes = reading_of large bytes
reading_here large (Some (Pcap h)) scope number at bytes =
    pieces (record_at large) head_behind large h number at 0 bytes
reading_here large (Some Pcapng) scope number at bytes =
    pieces (scoped_block large) scope_behind large scope number at 0 bytes

-- a pcap file's header is passed over, as a block without a frame is
abbrev pub step_of_head : HeadStep → BlockStep
step_of_head (head.Need n) = step.Need n
step_of_head (head.Head h) = step.Skipped 24
step_of_head (head.Bad reason) = step.Bad reason

abbrev pub step_of_item : ItemStep → BlockStep
step_of_item (item.Need n) = step.Need n
step_of_item (item.Item found) = step.Item found
step_of_item (item.Bad reason) = step.Bad reason

-- the header, record or block that begins with the first of the bytes
abbrev pub step_here : Option Kind → Scope → List ℕ → BlockStep
step_here None scope bytes =
    if is_pcapng bytes then step_of (block_in scope bytes) else step_of_head (pcap_head bytes)
step_here (Some (Pcap h)) scope bytes = step_of_item (pcap_item h bytes)
step_here (Some Pcapng) scope bytes = step_of (block_in scope bytes)

-- the kind of file that a header tells
abbrev pub kind_of_head : HeadStep → Option Kind
kind_of_head (head.Need n) = None
kind_of_head (head.Head h) = Some (Pcap h)
kind_of_head (head.Bad reason) = None

-- the kind of a file that begins so, and that of one whose kind is known
abbrev pub told_kind : Option Kind → List ℕ → Option Kind
told_kind None bytes = if is_pcapng bytes then Some Pcapng else kind_of_head (pcap_head bytes)
told_kind (Some kind) bytes = Some kind

-- what is known behind a header, record or block that is whole, and otherwise where it begins
abbrev pub kind_then : BlockStep → Option Kind → List ℕ → Option Kind
kind_then (step.Need n) kind bytes = kind
kind_then (step.Item found) kind bytes = told_kind kind bytes
kind_then (step.Skipped size) kind bytes = told_kind kind bytes
kind_then (step.Bad reason) kind bytes = kind

abbrev pub scope_then : Option Kind → Scope → List ℕ → Scope
scope_then None scope bytes =
    if is_pcapng bytes then scope_after (block_in scope bytes) scope else scope
scope_then (Some (Pcap h)) scope bytes = scope
scope_then (Some Pcapng) scope bytes = scope_after (block_in scope bytes) scope

-- how a file ends where more bytes are needed than there are
abbrev pub ending_where : Bool → List ℕ → Ending → Ending
ending_where large [] cut = end_of_bytes large
ending_where large (b ∷ rest) cut = cut

abbrev pub cut_here : Option Kind → Bool → ℕ → List ℕ → Ending
cut_here None large at bytes =
    unfinished large at (if is_pcapng bytes then BlockCut else ShortHeader)
cut_here (Some (Pcap h)) large at bytes = ending_where large bytes (unfinished large at RecordCut)
cut_here (Some Pcapng) large at bytes = ending_where large bytes (unfinished large at BlockCut)

-- a file's start, or behind it; a block of a pcapng file stands behind a section
abbrev pub IsPlaced : Option Kind → Scope → ℕ → ℕ → Type 0
IsPlaced None scope number at = (scope ≡ scope_of []) × (number ≡ 1) × (at ≡ 0)
IsPlaced (Some (Pcap h)) scope number at = Unit {0}
IsPlaced (Some Pcapng) scope number at = scope.order ≢ None

-- what holds of each reader, whatever it reads
pub record IsKept (r : Reader) : Type 0 where
  pub few : r.number ≤ suc r.at
  pub within : r.at + length r.held ≤ file_limit
  pub placed : IsPlaced r.kind r.scope r.number r.at
  pub offsets : AreInterfaces r.scope.interfaces

-- whatever bytes come behind those before the reader's place, the file that they make stands for the frames answered, and
-- then what is read from the place on
abbrev pub IsOver : Reader → List ℕ → List Frame → Type 0
IsOver r before past = (more : List ℕ) → capture_of (before ++ more)
    ≡ with_past past (reading_here (is_large (before ++ more)) r.kind r.scope r.number r.at
    (take (file_limit - r.at) more))

-- the first bytes of a file, as a file by themselves, hold no more frames than these
abbrev pub HasFew : List ℕ → List Frame → ℕ → Type 0
HasFew file past front = length (capture_of (take front file)).frames ≤ length past

-- what was seen behind the bytes held: nothing yet, the file's end, or one byte past those that are looked at
abbrev pub IsSeenBehind : Seen → ℕ → List ℕ → List ℕ → Type 0
IsSeenBehind seen.Open place beyond left = beyond ≡ []
IsSeenBehind seen.Ended place beyond left = (beyond ≡ []) × (left ≡ [])
IsSeenBehind seen.Beyond place beyond left = (length beyond ≡ 1) × (place ≡ file_limit)

-- the reader reads this file, of which these bytes are left in the capture, and has answered these frames of it
pub record IsReading (r : Reader) (left file : List ℕ) (past : List Frame) : Type 0 where
  pub before : List ℕ
  pub beyond : List ℕ
  pub whole : file ≡ before ++ (r.held ++ (beyond ++ left))
  pub place : length before ≡ r.at
  pub within : r.at + length r.held ≤ file_limit
  pub behind : IsSeenBehind r.seen (r.at + length r.held) beyond left
  pub over : IsOver r before past
  pub few : (front : ℕ) → front < r.at → HasFew file past front
  pub near : (front : ℕ) → front + 2 ^ 16 ≤ r.at + (length r.held + length beyond)
      → HasFew file past front

-- the same where the capture tells what is left
unfoldable pub Stands : Reader → Option (List ℕ) → List ℕ → List Frame → Type 0
Stands r None file past = ⊥
Stands r (Some left) file past = IsReading r left file past

-- a file ends as it was answered to
abbrev pub EndsAs : Phase → List ℕ → List Frame → Type 0
EndsAs phase.Open file past = Unit {0}
EndsAs (phase.Ended ending) file past = capture_of file ≡ with_past past (ended ending)
EndsAs phase.Spent file past = Unit {0}

-- a reader stands for a file, of which the capture tells the bytes left, and for the frames of it that were answered
abbrev pub StandsFor : ReaderShown → Option (List ℕ) → List ℕ → List Frame → Type 0
StandsFor r left file past = Stands r.state left file past × EndsAs r.phase file past
