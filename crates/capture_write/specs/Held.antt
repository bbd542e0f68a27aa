-- What each format holds of a list of frames.
use Rattle.std.specs.Prelude.{◌≡◌, ◌<◌, ◌≤◌, ◌*◌, ◌^◌, ℕ, ℤ, pos, List, [], ◌∷◌, length, Option, Some, None}
use Rattle.std.specs.List.{AllByRecursion as Each}
use Rattle.pk_base.specs.Limits.{captured_limit}
use Rattle.capture_read.specs.declared.frame.Frame.{Frame}
use Rattle.capture_write.specs.declared.format.Format.{Format}
use Rattle.capture_write.specs.declared.format.Format.TheVariants.{Pcap, Pcapng}

-- a time of whole nanoseconds since 1970, from 0 on and below a limit
abbrev pub IsTimeBelow : ℕ → Option ℤ → Type 0
IsTimeBelow limit time = (n : ℕ) × (time ≡ Some (pos n)) × (n < limit)

-- a frame of a pcap file, whose first frame is given: the file has one link type and one byte order, and a record counts
-- seconds in 32 bits and the nanoseconds below the second. pcap-savefile(5)
pub record IsHeldInPcap (first frame : Frame) : Type 0 where
  pub short : length frame.bytes ≤ captured_limit
  -- frames of link type 0 (LINKTYPE_NULL) begin with a number in the file's byte order
  pub order : frame.link ≡ 0 → frame.little ≡ first.little
  pub link : frame.link ≡ first.link
  pub time : IsTimeBelow (2 ^ 32 * 10 ^ 9) frame.time

-- a frame with a time is an enhanced packet, which counts nanoseconds in 64 bits: draft-ietf-opsawg-pcapng, 4.3. One
-- without is a simple packet, which is of the first interface, and tells one length, so that it isn't cut: 4.4
abbrev pub IsTimeInPcapng : Frame → Frame → Option ℤ → Type 0
IsTimeInPcapng first frame None =
    (frame.link ≡ first.link) × (frame.original ≡ length frame.bytes)
IsTimeInPcapng first frame (Some time) = IsTimeBelow (2 ^ 64) (Some time)

-- a frame of a pcapng file of one section, which has one byte order
pub record IsHeldInPcapng (first frame : Frame) : Type 0 where
  pub short : length frame.bytes ≤ captured_limit
  pub order : frame.link ≡ 0 → frame.little ≡ first.little
  pub time : IsTimeInPcapng first frame frame.time

abbrev pub IsHeldIn : Format → Frame → Frame → Type 0
IsHeldIn Pcap = IsHeldInPcap
IsHeldIn Pcapng = IsHeldInPcapng

-- a format holds each of these frames
abbrev pub AreHeldIn : Format → List Frame → Type 0
AreHeldIn format [] = Unit {0}
AreHeldIn format (first ∷ frames) = Each (IsHeldIn format first) (first ∷ frames)
