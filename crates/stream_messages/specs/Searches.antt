-- What looking for a head's end from a place on says.
use Rattle.std.specs.Prelude.{◌≡◌, ◌≤◌, ◌<◌, ℕ, List, length, drop, Some, None}
use Rattle.stream_messages.specs.declared.ends.Seek.{Seek}
use Rattle.stream_messages.specs.declared.ends.Search.{Search}
use Rattle.stream_messages.specs.declared.ends.Search.TheVariants.{Ends, Goes}
use Rattle.stream_messages.specs.Ends.{behind_from, seek_after}

abbrev pub IsSearch : Seek → ℕ → List ℕ → Search → Type 0
IsSearch seek from bytes (Ends end) =
    (behind_from seek (drop from bytes) ≡ Some (drop end bytes)) × (from < end)
    × (end ≤ length bytes)
IsSearch seek from bytes (Goes next) =
    (behind_from seek (drop from bytes) ≡ None) × (seek_after seek (drop from bytes) ≡ next)
