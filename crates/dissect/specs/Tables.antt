-- The tables that read the headers of plain frames.
use Rattle.std.specs.Prelude.{◌≡◌, ◌==◌, ℕ, ◌+◌, ◌-◌, ◌≤◌, Bool, true, false, List, [], ◌∷◌, nat_le}
use Rattle.pk_fields.specs.Ids.{DATA, DATA_DATA, ETH, FRAME, IP, IPV6, TCP, UDP, VLAN}
use Rattle.pk_source.specs.Picks.{ArePlaces, Knows}
use Rattle.pk_source.specs.declared.header.Header.{Header}
use Rattle.pk_source.specs.declared.picks.Picks.{Picks}
use Rattle.pk_source.specs.declared.picks.Table.{Table}
use Rattle.pk_tree.specs.Layouts.{StepsFit, reach}
use Rattle.pk_tree.specs.Tables.{steps_of}
use Rattle.pk_tree.specs.declared.layout.Reach.TheVariants.{All}
use Rattle.pk_tree.specs.declared.table.Slot.TheVariants.{Whole}
use Rattle.dis_link.specs.EtherTypes.{is_length}
use Rattle.dis_link.specs.Ethernet.{eth_layout, eth_type}
use Rattle.dis_link.specs.Vlan.{vlan_layout, vlan_type}
use Rattle.dis_ip.specs.Ip4.{ip4_conditions, ip4_header, ip4_layout}
use Rattle.dis_ip.specs.Ip6.{ip6_layout, ip6_version}
use Rattle.dis_ports.specs.Tcp.{header_len, tcp_rows}
use Rattle.dis_ports.specs.Udp.{is_udp_length, udp_layout, udp_length}
use Rattle.dissect.specs.Heads.{are_quiet}
use Rattle.dissect.specs.declared.tables.Tables.{Tables}

-- each has its protocol's layout, and is read to its end where the header is whole; of the options of TCP it has the bytes alone, and
-- no row names another frame
pub record AreTables (t : Tables) : Type 0 where
  pub frame : t.frame.now ≡ []
  pub eth_fits : (holds : List Bool) (sizes : List ℕ) → StepsFit ETH (steps_of holds sizes t.eth.now)
  pub eth_layout_is : (holds : List Bool) (sizes bytes : List ℕ) → false ≡ is_length (eth_type bytes) → steps_of holds sizes t.eth.now ≡ eth_layout bytes
  pub eth_whole : (holds : List Bool) (sizes : List ℕ) (end : ℕ) → 14 ≤ end → reach end (steps_of holds sizes t.eth.now) ≡ All
  pub vlan_fits : (holds : List Bool) (sizes : List ℕ) → StepsFit VLAN (steps_of holds sizes t.vlan.now)
  pub vlan_layout_is : (holds : List Bool) (sizes bytes : List ℕ) → false ≡ is_length (vlan_type bytes) → steps_of holds sizes t.vlan.now ≡ vlan_layout bytes
  pub vlan_whole : (holds : List Bool) (sizes : List ℕ) (end : ℕ) → 4 ≤ end → reach end (steps_of holds sizes t.vlan.now) ≡ All
  pub ip_fits : (holds : List Bool) (sizes : List ℕ) → StepsFit IP (steps_of holds sizes t.ip.now)
  pub ip_layout_is : (bytes : List ℕ) → steps_of (ip4_conditions bytes) ((ip4_header bytes - 20) ∷ []) t.ip.now ≡ ip4_layout bytes
  pub ip_whole : (end options : ℕ) → 20 ≤ end → 20 + options ≤ end → reach end (steps_of (true ∷ true ∷ true ∷ []) (options ∷ []) t.ip.now) ≡ All
  pub ip6_fits : (holds : List Bool) (sizes : List ℕ) → StepsFit IPV6 (steps_of holds sizes t.ip6.now)
  pub ip6_layout_is : (sizes bytes : List ℕ) → steps_of ((ip6_version bytes == 6) ∷ []) sizes t.ip6.now ≡ ip6_layout bytes
  pub ip6_whole : (sizes : List ℕ) (end : ℕ) → 40 ≤ end → reach end (steps_of (true ∷ []) sizes t.ip6.now) ≡ All
  pub tcp_fits : (holds : List Bool) (sizes : List ℕ) → StepsFit TCP (steps_of holds sizes t.tcp.now)
  pub tcp_rows_are : (bytes : List ℕ) → steps_of (nat_le 20 (header_len bytes) ∷ []) ((header_len bytes - 20) ∷ []) t.tcp.now ≡ tcp_rows bytes
  pub tcp_whole : (end options : ℕ) → 20 + options ≤ end → reach end (steps_of (true ∷ []) (options ∷ []) t.tcp.now) ≡ All
  pub udp_fits : (holds : List Bool) (sizes : List ℕ) → StepsFit UDP (steps_of holds sizes t.udp.now)
  pub udp_layout_is : (sizes bytes : List ℕ) → steps_of (is_udp_length (udp_length bytes) ∷ []) sizes t.udp.now ≡ udp_layout bytes
  pub udp_whole : (sizes : List ℕ) (end : ℕ) → 8 ≤ end → reach end (steps_of (true ∷ []) sizes t.udp.now) ≡ All
  pub payload : t.payload.now ≡ Whole DATA_DATA 0 0 ∷ []
  pub eth_quiet : are_quiet t.eth.now ≡ true
  pub vlan_quiet : are_quiet t.vlan.now ≡ true
  pub ip_quiet : are_quiet t.ip.now ≡ true
  pub ip6_quiet : are_quiet t.ip6.now ≡ true
  pub tcp_quiet : are_quiet t.tcp.now ≡ true
  pub udp_quiet : are_quiet t.udp.now ≡ true

-- each with its protocol
abbrev pub tables_listed : Tables → List Table
tables_listed t =
    (record { proto = FRAME; slots = t.frame }) ∷
    (record { proto = ETH; slots = t.eth }) ∷
    (record { proto = VLAN; slots = t.vlan }) ∷
    (record { proto = IP; slots = t.ip }) ∷
    (record { proto = IPV6; slots = t.ip6 }) ∷
    (record { proto = TCP; slots = t.tcp }) ∷
    (record { proto = UDP; slots = t.udp }) ∷
    (record { proto = DATA; slots = t.payload }) ∷
    []

-- the tables are those, and once their places are known they are theirs
pub record KnownBy (known : Bool) (tables : Tables) (places : List Picks) : Type 0 where
  pub are : AreTables tables
  pub placed : known ≡ true → ArePlaces (tables_listed tables) places

-- whatever places are those of the tables, they are those of this header
abbrev pub IsTabled : Tables → Header → Type 0
IsTabled tables h = (places : List Picks) → ArePlaces (tables_listed tables) places → Knows places h
