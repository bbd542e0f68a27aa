-- What is asked of the frames of a file that is written, and the frames that are read back from it.
use Rattle.std.specs.Prelude.{◌≡◌, ◌<◌, ◌^◌, ℕ, suc, ℤ, pos, negsuc, Bool, true, false, not, ◌==◌, nat_lt, if◌then◌else◌, List, [], ◌∷◌, Option, Some, None}
use Rattle.capture_read.specs.declared.frame.Frame.{Frame}

-- a time of so many nanoseconds since 1970, from 0 on and below a limit
abbrev pub is_time_below : ℕ → Option ℤ → Bool
is_time_below limit None = false
is_time_below limit (Some (pos n)) = nat_lt n limit
is_time_below limit (Some (negsuc n)) = false

-- the nanoseconds of such a time
abbrev pub nanoseconds_of : Option ℤ → ℕ
nanoseconds_of None = 0
nanoseconds_of (Some (pos n)) = n
nanoseconds_of (Some (negsuc n)) = 0

-- frames of link type 0 (LINKTYPE_NULL) begin with a number in the file's byte order, so they keep theirs
abbrev pub is_order_kept : Bool → Frame → Bool
is_order_kept little frame =
    if frame.link == 0 then (if little then frame.little else not frame.little) else true

-- the byte order of a file is that of its first frame
abbrev pub order_of : List Frame → Bool
order_of [] = true
order_of (frame ∷ frames) = frame.little

-- the link type of a file's first frame: Ethernet where there is none
abbrev pub link_of : List Frame → ℕ
link_of [] = 1
link_of (frame ∷ frames) = frame.link

-- the numbers of a frame are those of 16 and 32 bits
pub record IsFrame (frame : Frame) : Type 0 where
  pub link : frame.link < 2 ^ 16
  pub original : frame.original < 2 ^ 32

-- all of them are so
abbrev pub AreFrames : List Frame → Type 0
AreFrames [] = Unit {0}
AreFrames (frame ∷ frames) = IsFrame frame × AreFrames frames

-- the frame that is read back: all but its number and its byte order are kept
abbrev pub read_back : Bool → ℕ → Frame → Frame
read_back little number frame = record {
  number = number;
  time = frame.time;
  link = frame.link;
  little = little;
  bytes = frame.bytes;
  original = frame.original;
}

-- all of them, numbered one after the other
abbrev pub all_read_back : Bool → ℕ → List Frame → List Frame
all_read_back little number [] = []
all_read_back little number (frame ∷ frames) =
    read_back little number frame ∷ all_read_back little (suc number) frames

-- the byte order of each frame of link type 0 is the file's
abbrev pub AreOrdersKept : Bool → List Frame → Type 0
AreOrdersKept little [] = Unit {0}
AreOrdersKept little (frame ∷ frames) =
    (frame.link ≡ 0 → frame.little ≡ little) × AreOrdersKept little frames
