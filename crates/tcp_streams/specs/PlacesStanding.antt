-- The numbers of streams that stand for a list of segments.
use Rattle.std.specs.Prelude.{◌≡◌, ℕ, false, List, length}
use Rattle.tcp_streams.specs.declared.segment.Segment.{Segment}
use Rattle.tcp_streams.specs.declared.stream_places.StreamPlaces.{StreamPlaces}
use Rattle.tcp_streams.specs.Labels.{labels}
use Rattle.tcp_streams.specs.PlacesKept.{AgreesInPlaces}

-- how many segments were taken
abbrev pub places_taken : StreamPlaces → ℕ
places_taken places = places.kept.taken

pub record PlacesStandRight (past : List Segment) (places : StreamPlaces) : Type 0 where
  pub fresh : places.kept.spent ≡ false
  pub taken : places.kept.taken ≡ length past
  pub agrees : AgreesInPlaces (labels past) places.kept.newest places.kept.streams.items

-- the newest segment first
unfoldable pub PlacesStandFor : List Segment → StreamPlaces → Type 0
PlacesStandFor past places = PlacesStandRight past places
