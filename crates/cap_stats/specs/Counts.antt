-- How frames are counted: each number is a sum over all that were noted, which are listed with the newest first.
use Rattle.std.specs.Prelude.{ℕ, ◌==◌, Bool, true, false, not, ◌&&◌, if◌then◌else◌, List, [], ◌∷◌, length, map, filter, sum, Option, Some, None}
use Rattle.pk_base.specs.declared.heads.Address.{Address}
use Rattle.pk_base.specs.declared.heads.Address.TheVariants.{Four, Six}
use Rattle.cap_stats.specs.declared.party.Party.{Party}
use Rattle.cap_stats.specs.declared.party.Flight.{Flight}
use Rattle.cap_stats.specs.declared.counts.Tally.{Tally}
use Rattle.cap_stats.specs.declared.counts.Talk.{Talk}

-- what was noted under a key
abbrev pub of_key : {K F : Type 0} → (K → K → Bool) → K → List (K × F) → List F
of_key same key [] = []
of_key same key (note ∷ notes) =
    if same note.0 key then note.1 ∷ of_key same key notes else of_key same key notes

-- frames of these lengths
abbrev pub tally_of : List ℕ → Tally
tally_of lengths = record { frames = length lengths; bytes = sum lengths }

-- the same, where there are some
unfoldable pub sizes_tally : List ℕ → Option Tally
sizes_tally [] = None
sizes_tally (size ∷ sizes) = Some (tally_of (size ∷ sizes))

abbrev pub is_same_address : Address → Address → Bool
is_same_address (Four one) (Four other) = one == other
is_same_address (Six one) (Six other) = one == other
is_same_address one other = false

abbrev pub is_same_port : Option ℕ → Option ℕ → Bool
is_same_port None None = true
is_same_port (Some one) (Some other) = one == other
is_same_port one other = false

abbrev pub is_same : Party → Party → Bool
is_same one other = is_same_address one.address other.address && is_same_port one.port other.port

-- the first of flights, one of which is there
abbrev pub first_of : Flight → List Flight → Flight
first_of flight [] = flight
first_of flight (next ∷ flights) = first_of next flights

abbrev pub leaves : Party → Flight → Bool
leaves party flight = is_same flight.from party

abbrev pub lengths_of : List Flight → List ℕ
lengths_of flights = map (λ (flight : Flight). flight.bytes) flights

-- the ends of a first flight, what came from the end that it left, and the rest
abbrev pub talk_between : Flight → List Flight → Talk
talk_between first flights =
    record {
      from = first.from;
      to = first.to;
      there = tally_of (lengths_of (filter (leaves first.from) flights));
      back =
          tally_of (lengths_of (filter (λ flight. not (leaves first.from flight)) flights));
    }

-- a conversation, where there are flights
unfoldable pub talk_of : List Flight → Option Talk
talk_of [] = None
talk_of (flight ∷ flights) = Some (talk_between (first_of flight flights) (flight ∷ flights))
