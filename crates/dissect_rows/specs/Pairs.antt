-- How far a dissector is.
use Rattle.std.specs.Prelude.{◌≡◌, ◌*◌, ◌≤◌, ℕ}
use Rattle.dissect.specs.Stands.{DissectorShown}

-- so many frames, none of more than 1,000 bytes
abbrev pub HasTaken : ℕ → DissectorShown → Type 0
HasTaken count dissector = (dissector.taken ≡ count) × (dissector.captured ≤ 1000 * count)
