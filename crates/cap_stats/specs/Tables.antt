-- The tables' texts, over the list of the trees that were noted, the newest first.
use Rattle.std.specs.Prelude.{ℕ, List, [], ◌∷◌, ◌++◌, length, codes, decimal, Option, Some, None}
use Rattle.std.specs.List.{flat_map}
use Rattle.std.specs.Str.{bytes_eq}
use Rattle.pk_text.specs.Ip4.{ip4_shown}
use Rattle.pk_text.specs.Ip6.{ip6_shown}
use Rattle.pk_base.specs.declared.heads.Address.{Address}
use Rattle.pk_base.specs.declared.heads.Address.TheVariants.{Four, Six}
use Rattle.pk_tree.specs.Trees.{TreeShown}
use Rattle.cap_stats.specs.declared.counts.Tally.{Tally}
use Rattle.cap_stats.specs.declared.counts.Talk.{Talk}
use Rattle.cap_stats.specs.declared.kind.StatKind.{StatKind}
use Rattle.cap_stats.specs.declared.kind.StatKind.TheVariants.{ConvTcp, ConvIp, Phs}
use Rattle.cap_stats.specs.declared.party.Flight.{Flight}
use Rattle.cap_stats.specs.declared.party.Party.{Party}
use Rattle.cap_stats.specs.Counts.{of_key, sizes_tally, talk_of}
use Rattle.cap_stats.specs.Keys.{same_number, numbers_in, texts_in, same_pair, pairs_in}
use Rattle.cap_stats.specs.Told.{stream_in, packet_in, paths_in}

abbrev pub with_note : {X : Type 0} → Option X → List X → List X
with_note None notes = notes
with_note (Some note) notes = note ∷ notes

-- the segments, the packets and the paths that trees show, each under its key
abbrev pub segments_of : List TreeShown → List (ℕ × Flight)
segments_of [] = []
segments_of (t ∷ past) = with_note (stream_in t.layers) (segments_of past)

abbrev pub packets_of : List TreeShown → List ((ℕ × ℕ) × Flight)
packets_of [] = []
packets_of (t ∷ past) = with_note (packet_in t.layers) (packets_of past)

abbrev pub paths_of : List TreeShown → List (List ℕ × ℕ)
paths_of [] = []
paths_of (t ∷ past) = paths_in t.layers ++ paths_of past

-- an end, as `ADDR PORT` or `ADDR`
abbrev pub address_text : Address → List ℕ
address_text (Four address) = ip4_shown address
address_text (Six address) = ip6_shown address

abbrev pub port_text : Option ℕ → List ℕ
port_text None = []
port_text (Some port) = codes " " ++ decimal port

abbrev pub party_text : Party → List ℕ
party_text party = address_text party.address ++ port_text party.port

-- FRAMES BYTES
abbrev pub tally_text : Tally → List ℕ
tally_text tally = decimal tally.frames ++ (codes " " ++ decimal tally.bytes)

-- both ends, and what the first sent and the rest; 10 is a line feed
abbrev pub ends_text : Talk → List ℕ
ends_text talk =
    party_text talk.from ++ (codes " " ++ (party_text talk.to ++ codes " "))

abbrev pub tallies_text : Talk → List ℕ
tallies_text talk = tally_text talk.there ++ (codes " " ++ (tally_text talk.back ++ 10 ∷ []))

abbrev pub talk_text : Talk → List ℕ
talk_text talk = ends_text talk ++ tallies_text talk

abbrev pub stream_line : ℕ → Option Talk → List ℕ
stream_line number None = []
stream_line number (Some talk) = decimal number ++ (codes " " ++ talk_text talk)

abbrev pub pair_line : Option Talk → List ℕ
pair_line None = []
pair_line (Some talk) = talk_text talk

-- PATH frames F bytes B
abbrev pub path_line : List ℕ → Option Tally → List ℕ
path_line path None = []
path_line path (Some tally) =
    path
    ++ (codes " frames " ++ (decimal tally.frames
    ++ (codes " bytes " ++ (decimal tally.bytes ++ 10 ∷ []))))

-- a table: its name and how many lines follow, and these lines
abbrev pub table_with : {K : Type 0} → List ℕ → List K → (K → List ℕ) → List ℕ
table_with name keys line = name ++ (decimal (length keys) ++ (10 ∷ flat_map line keys))

unfoldable pub streams_table : List (ℕ × Flight) → List ℕ
streams_table notes =
    table_with (codes "conv tcp ") (numbers_in notes)
    (λ number. stream_line number (talk_of (of_key same_number number notes)))

unfoldable pub pairs_table : List ((ℕ × ℕ) × Flight) → List ℕ
pairs_table notes =
    table_with (codes "conv ip ") (pairs_in notes)
    (λ pair. pair_line (talk_of (of_key same_pair pair notes)))

unfoldable pub paths_table : List (List ℕ × ℕ) → List ℕ
paths_table notes =
    table_with (codes "phs ") (texts_in notes)
    (λ path. path_line path (sizes_tally (of_key bytes_eq path notes)))

-- the table of a kind
unfoldable pub table_of : StatKind → List TreeShown → List ℕ
table_of ConvTcp past = streams_table (segments_of past)
table_of ConvIp past = pairs_table (packets_of past)
table_of Phs past = paths_table (paths_of past)
