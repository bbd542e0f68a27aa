-- Conversations: whose packets belong together, and how they are numbered.
use Rattle.std.specs.Prelude.{◌≡◌, ℕ, List, [], ◌∷◌, ◌++◌, None, Some, if◌then◌else◌}
use Rattle.std.specs.List.{list_any, position_or_len}
use Rattle.pk_base.specs.declared.heads.PacketHead.{PacketHead}
use Rattle.pk_base.specs.declared.heads.PortsHead.{PortsHead}
use Rattle.tcp_streams.specs.declared.ends.Ends.{Ends}
use Rattle.tcp_streams.specs.declared.newest.Newest.{Newest}
use Rattle.tcp_streams.specs.Conversations.{end_at, ends_between, number_of, same_ends}

-- the ends of a packet of UDP
abbrev pub udp_ends : PacketHead → PortsHead → Ends
udp_ends packet head = ends_between (end_at packet.source head.source) (end_at packet.target head.target)

-- the conversations with that of one packet more
unfoldable pub with_ends : List Ends → Ends → List Ends
with_ends known ends = if list_any (same_ends ends) known then known else known ++ ends ∷ []

-- how many conversations opened before this one
unfoldable pub number_in : List Ends → Ends → ℕ
number_in known ends = position_or_len (same_ends ends) known

-- each conversation has its place as its number, and no other has one
unfoldable pub AreNumbered : List Ends → Newest → Type 0
AreNumbered known numbers = (ends : Ends) → number_of numbers ends
    ≡ (if list_any (same_ends ends) known then Some (number_in known ends) else None)
