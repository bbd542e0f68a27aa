-- Where messages of DNS end in a stream.
use Rattle.std.specs.Prelude.{◌≡◌, ℕ, ◌+◌, ◌*◌, Bool, if◌then◌else◌, List, [], ◌∷◌, length, nat_le, Option, Some, None, option_map}
use Rattle.pk_fields.specs.declared.apps.App.TheVariants.{Dns}
use Rattle.stream_messages.specs.declared.framer.Framer.{Framer}
use Rattle.stream_messages.specs.declared.told.Told.TheVariants.{Sized}
use Rattle.stream_messages.specs.Tellings.{first_of}
use Rattle.app_layers.specs.Rows.{framer_of}

-- two bytes tell how many bytes follow them (RFC 1035, 4.2.2)
abbrev pub first_dns : List ℕ → Option ℕ
first_dns [] = None
first_dns (high ∷ []) = None
first_dns (high ∷ low ∷ rest) =
    if nat_le (high * 256 + low) (length rest) then Some (high * 256 + low + 2) else None

-- so a message of DNS is found, as the table of applications has it framed
abbrev pub DnsFramed : Type 0
DnsFramed = (framer : Framer) (asked : Bool) (bytes : List ℕ) → framer_of Dns ≡ Some framer → first_of framer asked bytes ≡ option_map Sized (first_dns bytes)
