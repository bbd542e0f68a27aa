-- The frames of several files in the order of their times.
use Rattle.std.specs.Prelude.{◌≡◌, ℕ, suc, ℤ, List, [], ◌∷◌, ◌++◌, map, Option, None, IsPermutation}
use Rattle.std.specs.List.Sorted.{IsSortedByKey}
use Rattle.std.specs.Option.{option_or, option_cmp}
use Rattle.std.specs.Ordering.{ordering_then, nat_cmp, int_cmp}
use Rattle.std.specs.declared.cmp.Ordering.{Ordering}
use Rattle.capture_read.specs.Capture.{capture_of}
use Rattle.capture_read.specs.declared.frame.Frame.{Frame}
use Rattle.merge_caps.specs.declared.place.Entry.{Entry}
use Rattle.merge_caps.specs.declared.place.Place.{Place}

-- a frame by its place: a frame without a time is ordered by the latest time before it in its file
abbrev pub placed : Option ℤ → ℕ → Frame → Entry
placed latest file frame = record {
  place = record { time = option_or frame.time latest; file = file; number = frame.number };
  frame = frame;
}

-- the frames of a file behind others of it, of which the latest time is given
abbrev pub placed_from : Option ℤ → ℕ → List Frame → List Entry
placed_from latest file [] = []
placed_from latest file (frame ∷ frames) =
    placed latest file frame ∷ placed_from (option_or frame.time latest) file frames

-- the frames of files, of which the first has this place among all files
abbrev pub all_placed : ℕ → List (List ℕ) → List Entry
all_placed place [] = []
all_placed place (file ∷ files) =
    placed_from None place (capture_of file).frames ++ all_placed (suc place) files

-- places in ascending order: by the time, where none comes first, then by the file, then by the number
abbrev pub place_cmp : Place → Place → Ordering
place_cmp a b =
    ordering_then (option_cmp int_cmp a.time b.time)
    (ordering_then (nat_cmp a.file b.file) (nat_cmp a.number b.number))

abbrev pub place_of : Entry → Place
place_of entry = entry.place

abbrev pub frame_of : Entry → Frame
frame_of entry = entry.frame

-- frames numbered anew, one after the other
abbrev pub renumbered : ℕ → Frame → Frame
renumbered number frame = record frame { number = number }

abbrev pub numbered : ℕ → List Frame → List Frame
numbered number [] = []
numbered number (frame ∷ frames) = renumbered number frame ∷ numbered (suc number) frames

-- the frames with these places
abbrev pub frames_of : List Entry → List Frame
frames_of order = numbered 1 (map frame_of order)

-- the same frames, each once, in ascending order
pub record IsInOrder (entries order : List Entry) : Type 0 where
  pub same : IsPermutation entries order
  pub sorted : IsSortedByKey place_of place_cmp order

-- the frames of all files, each once, in ascending order of their places, numbered anew from 1
pub record IsMerged (files : List (List ℕ)) (merged : List Frame) : Type 0 where
  pub order : List Entry
  pub ordered : IsInOrder (all_placed 0 files) order
  pub frames : merged ≡ frames_of order
