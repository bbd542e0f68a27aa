-- What the tables read in the layer of a place, counted from 0.
use Rattle.std.specs.Prelude.{◌≡◌, ◌<◌, ℕ, Bool, false, List, length, Option, Some, option_and_then}
use Rattle.std.specs.List.{slice_get}
use Rattle.std.specs.Option.{option_map_or}
use Rattle.pk_base.specs.declared.heads.Address.{Address}
use Rattle.pk_fields.specs.Ids.{IP_DST, IP_SRC, TCP_STREAM}
use Rattle.pk_tree.specs.declared.layer.Layer.{Layer}
use Rattle.cap_stats.specs.declared.headers.Numbered.{Numbered}
use Rattle.cap_stats.specs.declared.party.Flight.{Flight}
use Rattle.cap_stats.specs.Told.{◌>>=◌, address_in, four_in, number_in, party_at, segment_of, six_in}

-- whether there is a layer that is so
abbrev pub has_there : (Layer → Bool) → List Layer → ℕ → Bool
has_there test layers place = option_map_or test (slice_get layers place) false

abbrev pub number_there : List Layer → ℕ → ℕ → Option ℕ
number_there layers place field = option_and_then (number_in field) (slice_get layers place)

abbrev pub four_there : List Layer → ℕ → ℕ → Option ℕ
four_there layers place field = option_and_then (four_in field) (slice_get layers place)

abbrev pub six_there : List Layer → ℕ → ℕ → Option ℕ
six_there layers place field = option_and_then (six_in field) (slice_get layers place)

abbrev pub address_there : List Layer → ℕ → ℕ → ℕ → Option Address
address_there layers place four six =
    option_and_then (address_in four six) (slice_get layers place)

-- a layer's place, and the stream's number in it
abbrev pub IsNumbered : List Layer → Numbered → Type 0
IsNumbered layers found =
    (found.place < length layers)
    × (Some found.stream ≡ number_there layers found.place TCP_STREAM)

-- the segment at a place, behind the IP header at another
abbrev pub segment_there : List Layer → ℕ → ℕ → Option (ℕ × Flight)
segment_there layers header at = do
  layer ← slice_get layers at
  ip ← slice_get layers header
  segment_of layers ip layer

-- what a stream, addresses and ports tell, where they are there
abbrev pub segment_told : Option ℕ → Option Address → Option Address → Option ℕ → Option ℕ → ℕ → Option (ℕ × Flight)
segment_told stream source target from to bytes = do
  number ← stream
  left ← source
  right ← target
  left_port ← from
  right_port ← to
  Some (
    number,
    record { from = party_at left left_port; to = party_at right right_port; bytes = bytes },
  )

-- two addresses, where both are there
abbrev pub both_told : Option ℕ → Option ℕ → Option (ℕ × ℕ)
both_told source target = do
  left ← source
  right ← target
  Some (left, right)

-- those of an IPv4 header
abbrev pub both_in : Layer → Option (ℕ × ℕ)
both_in layer = both_told (four_in IP_SRC layer) (four_in IP_DST layer)
