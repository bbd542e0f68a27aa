-- The frames of several files in the order of their times, and what is read of the file that is written of them.
use Rattle.std.specs.Prelude.{◌≡◌, ◌≢◌, ◌<◌, ◌≤◌, ◌==◌, ℕ, suc, ℤ, Bool, true, false, List, length, take, filter, slice_get, Option, Some, None, IsPermutation}
use Rattle.std.specs.List.Sorted.{IsSortedByKey, IsStableByKey}
use Rattle.std.specs.Io.KnownBytes.{Appends}
use Rattle.std.specs.Option.{option_cmp}
use Rattle.std.specs.Ordering.{int_cmp}
use Rattle.std.specs.declared.cmp.Ordering.{Ordering}
use Rattle.pk_base.specs.Limits.{file_limit}
use Rattle.capture_read.specs.Capture.{capture_of}
use Rattle.capture_read.specs.declared.frame.Frame.{Frame}
use Rattle.capture_write.specs.Kept.{fits}
use Rattle.capture_write.specs.ReadBack.{IsReadingOf}
use Rattle.capture_write.specs.declared.format.Format.{Format}
use Rattle.merge_caps.specs.declared.place.Entry.{Entry}
use Rattle.merge_caps.specs.declared.status.MergeStatus.{MergeStatus}
use Rattle.merge_caps.specs.declared.status.MergeStatus.TheVariants.{CannotWrite}
use Rattle.merge_caps.specs.Merged.{placed_from, all_placed, frames_of}

-- the time that a frame is ordered by: its own, or else the latest before it in its file
abbrev pub time_of : Entry → Option ℤ
time_of entry = entry.place.time

-- no time comes before all times
abbrev pub time_cmp : Option ℤ → Option ℤ → Ordering
time_cmp a b = option_cmp int_cmp a b

abbrev pub is_of : ℕ → Entry → Bool
is_of place entry = entry.place.file == place

-- the frames of all files in the order of their times
pub record IsByTime (files : List (List ℕ)) (order : List Entry) : Type 0 where
  -- each frame of each file once, and no others
  pub each_once : IsPermutation (all_placed 0 files) order
  pub ascending : IsSortedByKey time_of time_cmp order
  -- frames of the same time stand in the order of the files, and then in the order of their file
  pub stable : IsStableByKey time_of time_cmp (all_placed 0 files) order
  -- the frames of a file whose times don't fall stand in its order
  pub kept : (place : ℕ) (file : List ℕ) → slice_get files place ≡ Some file
      → IsSortedByKey time_of time_cmp (placed_from None place (capture_of file).frames)
      → filter (is_of place) order ≡ placed_from None place (capture_of file).frames

-- so many of the frames were written: all, or those before the first that doesn't fit behind them, and the status says which
pub record IsFront (format : Format) (answer : MergeStatus) (frames : List Frame) (count : ℕ)
    : Type 0 where
  pub fit : fits format (take count frames) ≡ true
  pub all : answer ≢ CannotWrite → count ≡ length frames
  pub unfit : answer ≡ CannotWrite
      → (count < length frames) × (fits format (take (suc count) frames) ≡ false)

-- a capture file was written that is read as the frames of the files in the order of their times, with their bytes, times,
-- lengths on the wire and link types, unless it is too large
pub record WroteByTime (format : Format) (files : List (List ℕ)) (answer : MergeStatus)
    (old new : Option (List ℕ)) : Type 0 where
  pub order : List Entry
  pub by_time : IsByTime files order
  pub count : ℕ
  pub front : IsFront format answer (frames_of order) count
  pub bytes : List ℕ
  pub wrote : Appends old new bytes
  pub read : length bytes ≤ file_limit
      → IsReadingOf (take count (frames_of order)) (capture_of bytes)
