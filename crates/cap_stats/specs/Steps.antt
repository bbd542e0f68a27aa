-- What one more frame adds to what was counted.
use Rattle.std.specs.Prelude.{ℕ, ◌+◌, if◌then◌else◌, Option, Some, None}
use Rattle.cap_stats.specs.declared.party.Flight.{Flight}
use Rattle.cap_stats.specs.declared.party.Packet.{Packet}
use Rattle.cap_stats.specs.declared.party.Party.{Party}
use Rattle.cap_stats.specs.declared.counts.Tally.{Tally}
use Rattle.cap_stats.specs.declared.counts.Talk.{Talk}
use Rattle.cap_stats.specs.Counts.{is_same}
use Rattle.cap_stats.specs.Told.{host, pair_of}

abbrev pub tally_with : Tally → ℕ → Tally
tally_with tally bytes = record { frames = tally.frames + 1; bytes = tally.bytes + bytes }

abbrev pub tally_after : Option Tally → ℕ → Tally
tally_after None bytes = record { frames = 1; bytes = bytes }
tally_after (Some tally) bytes = tally_with tally bytes

-- where an end sent it
abbrev pub talk_by : Talk → Party → ℕ → Talk
talk_by talk from bytes =
    if is_same from talk.from
    then record talk { there = tally_with talk.there bytes }
    else record talk { back = tally_with talk.back bytes }

abbrev pub talk_with : Talk → Flight → Talk
talk_with talk flight = talk_by talk flight.from flight.bytes

abbrev pub first_talk : Flight → Talk
first_talk flight =
    record {
      from = flight.from;
      to = flight.to;
      there = record { frames = 1; bytes = flight.bytes };
      back = record { frames = 0; bytes = 0 };
    }

abbrev pub talk_after : Option Talk → Flight → Talk
talk_after None flight = first_talk flight
talk_after (Some talk) flight = talk_with talk flight

-- a packet's way, and what is noted of it, under its two addresses
abbrev pub flight_of : Packet → Flight
flight_of packet =
    record { from = host packet.source; to = host packet.target; bytes = packet.bytes }

abbrev pub packet_note : Packet → (ℕ × ℕ) × Flight
packet_note packet = (pair_of packet.source packet.target, flight_of packet)
