-- What holds of merging, whatever the files.
use Rattle.std.specs.Prelude.{◌≡◌, ℕ, List}
use Rattle.capture_read.specs.declared.frame.Frame.{Frame}
use Rattle.merge_caps.specs.declared.place.Entry.{Entry}
use Rattle.merge_caps.specs.ByTime.{IsByTime}
use Rattle.merge_caps.specs.Merged.{IsMerged, frames_of}

-- files have one list of merged frames: no two places are the same
abbrev pub OneMerged : Type 0
OneMerged =
    (files : List (List ℕ)) (one other : List Frame) → IsMerged files one → IsMerged files other
    → one ≡ other

-- merged frames are those of the files in the order of their times
abbrev pub MergedByTime : Type 0
MergedByTime =
    (files : List (List ℕ)) (merged : List Frame) → IsMerged files merged
    → (order : List Entry) × IsByTime files order × (merged ≡ frames_of order)
