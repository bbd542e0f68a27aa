-- What is read of several files, one after the other.
use Rattle.std.specs.Prelude.{◌≡◌, ◌⊎◌, ◌≤◌, ℕ, suc, ◌+◌, Bool, true, false, ◌||◌, nat_lt, List, [], ◌∷◌, ◌++◌, length, take, slice_get, Option, None, Some, IfSome}
use Rattle.std.specs.List.{list_any}
use Rattle.pk_base.specs.Limits.{file_limit}
use Rattle.capture_read.specs.Capture.{Reading, capture_of}
use Rattle.capture_read.specs.FrameList.{captured_bytes}
use Rattle.capture_read.specs.Taken.{TookAtMost}
use Rattle.capture_read.specs.declared.ending.Ending.{Ending}
use Rattle.capture_read.specs.declared.ending.Ending.TheVariants as ending
use Rattle.capture_read.specs.declared.frame.Frame.{Frame}
use Rattle.merge_caps.specs.declared.place.Entry.{Entry}
use Rattle.merge_caps.specs.declared.readings.Readings.{Readings}
use Rattle.merge_caps.specs.Merged.{all_placed, placed_from}

-- the files of these names, where each is told
abbrev pub with_file : Option (List ℕ) → Option (List (List ℕ)) → Option (List (List ℕ))
with_file None files = None
with_file (Some file) None = None
with_file (Some file) (Some files) = Some (file ∷ files)

abbrev pub files_of : (List ℕ → Option (List ℕ)) → List (List ℕ) → Option (List (List ℕ))
files_of tell [] = Some []
files_of tell (name ∷ names) = with_file (tell name) (files_of tell names)

-- how each file ends
abbrev pub endings_of : List (List ℕ) → List Ending
endings_of [] = []
endings_of (file ∷ files) = (capture_of file).ending ∷ endings_of files

-- how many bytes were captured of the frames of all files
abbrev pub captured_of : List (List ℕ) → ℕ
captured_of [] = 0
captured_of (file ∷ files) = captured_bytes (capture_of file).frames + captured_of files

abbrev pub is_large_end : Ending → Bool
is_large_end ending.Whole = false
is_large_end (ending.Damaged damage) = false
is_large_end ending.TooLarge = true

-- a file is larger than is read, or more bytes were captured in all than are read of one file
abbrev pub is_too_much : List Ending → ℕ → Bool
is_too_much endings captured = list_any is_large_end endings || nat_lt file_limit captured

unfoldable pub are_too_large : List (List ℕ) → Bool
are_too_large files = is_too_much (endings_of files) (captured_of files)

-- what was read so far: the frames with their places, how each file ended, and how many bytes were captured
pub record ReadSoFar : Type 0 where
  pub entries : List Entry
  pub endings : List Ending
  pub captured : ℕ

abbrev pub so_far : Readings → ReadSoFar
so_far readings = record {
  entries = readings.entries.items;
  endings = readings.endings.items;
  captured = readings.captured;
}

-- the frames of one more file
abbrev pub with_frames : List Frame → ReadSoFar → ReadSoFar
with_frames frames read = record {
  entries = read.entries ++ placed_from None (length read.endings) frames;
  endings = read.endings;
  captured = read.captured + captured_bytes frames;
}

-- one more file
abbrev pub with_reading : Reading → ReadSoFar → ReadSoFar
with_reading reading read = record {
  entries = read.entries ++ placed_from None (length read.endings) reading.frames;
  endings = read.endings ++ reading.ending ∷ [];
  captured = read.captured + captured_bytes reading.frames;
}

abbrev pub is_too_much_of : ReadSoFar → Bool
is_too_much_of read = is_too_much read.endings read.captured

-- the same of one more file that ends so, with so many bytes captured in all, where those before it aren't too much
abbrev pub is_large_after : Ending → ℕ → Bool
is_large_after ending captured = is_large_end ending || nat_lt file_limit captured

-- all these files
abbrev pub read_of : List (List ℕ) → ReadSoFar
read_of files = record {
  entries = all_placed 0 files;
  endings = endings_of files;
  captured = captured_of files;
}

-- of the first names' files none is too large, nor are they together
abbrev pub AreSmallUpTo : (List ℕ → Option (List ℕ)) → List (List ℕ) → ℕ → Type 0
AreSmallUpTo tell names count =
    (n : ℕ) → n ≤ count → IfSome (files_of tell (take n names)) (λ files.
    are_too_large files ≡ false)

-- what is left is what was left before, or what follows at most 2^28 + 1 bytes of the file of this name
abbrev pub IsLeftOf : (List ℕ → Option (List ℕ)) → List ℕ → Option (List ℕ) → Option (List ℕ)
    → Type 0
IsLeftOf tell name old new = (new ≡ old) ⊎ TookAtMost (suc file_limit) (tell name) new

-- the same of one of these names
abbrev pub IsLeftOfOne : (List ℕ → Option (List ℕ)) → List (List ℕ) → Option (List ℕ)
    → Option (List ℕ) → Type 0
IsLeftOfOne tell names old new = (new ≡ old) ⊎ ((place : ℕ) × (name : List ℕ)
    × (slice_get names place ≡ Some name) × TookAtMost (suc file_limit) (tell name) new)
