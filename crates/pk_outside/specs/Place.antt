-- Where in a list of files the next read begins.
use Rattle.std.specs.Prelude.{ℕ, ◌<◌, ◌≤◌, List, [], Option, None, Some, ⊤, length, drop, slice_index_or}
use Rattle.pk_outside.specs.declared.memory_capture.Place.{Place}

-- the bytes of a file by its index
abbrev pub bytes_of : List (List ℕ × List ℕ) → ℕ → List ℕ
bytes_of files index = (slice_index_or files index ([], [])).1

-- the bytes from a place on, and none where no file was begun
abbrev pub bytes_from : List (List ℕ × List ℕ) → Option Place → List ℕ
bytes_from files None = []
bytes_from files (Some place) = drop place.at (bytes_of files place.file)

-- the place is in one of the files
abbrev pub IsInFiles : List (List ℕ × List ℕ) → Option Place → Type 0
IsInFiles files None = ⊤
IsInFiles files (Some place) =
    (place.file < length files) × (place.at ≤ length (bytes_of files place.file))
