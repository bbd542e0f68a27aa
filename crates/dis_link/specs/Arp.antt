-- Address Resolution Protocol (RFC 826, "Packet format"). Nothing follows it; bytes behind it are padding.
--
--     0                   1                   2                   3
--     0 1 2 3 4 5 6 7 8 9 0 1 2 3 4 5 6 7 8 9 0 1 2 3 4 5 6 7 8 9 0 1
--    +-------------------------------+-------------------------------+
--    |    hardware address space     |    protocol address space     |
--    +---------------+---------------+-------------------------------+
--    | hardware size | protocol size |            opcode             |
--    +---------------+---------------+-------------------------------+
--    | sender: hardware address, protocol address; target: the same  |
use Rattle.std.specs.Prelude.{◌==◌, ℕ, ◌+◌, Bool, ◌&&◌, if◌then◌else◌, List, [], ◌∷◌}
use Rattle.pk_fields.specs.Ids.{ARP_HW_TYPE, ARP_PROTO_TYPE, ARP_HW_SIZE, ARP_PROTO_SIZE, ARP_OPCODE, ARP_SRC_HW_MAC, ARP_SRC_HW, ARP_SRC_PROTO_IPV4, ARP_SRC_PROTO, ARP_DST_HW_MAC, ARP_DST_HW, ARP_DST_PROTO_IPV4, ARP_DST_PROTO}
use Rattle.pk_tree.specs.declared.layout.Step.{Step}
use Rattle.pk_tree.specs.declared.layout.Step.TheVariants.{Row, Part}
use Rattle.pk_tree.specs.Layouts.{peeked}

abbrev pub hw_size : List ℕ → ℕ
hw_size bytes = peeked bytes 32 8

abbrev pub proto_size : List ℕ → ℕ
proto_size bytes = peeked bytes 40 8

-- Ethernet addresses of 6 bytes for IPv4 addresses of 4
unfoldable pub is_ip_over_ether : List ℕ → Bool
is_ip_over_ether bytes =
    peeked bytes 0 16 == 1 && hw_size bytes == 6 && peeked bytes 16 16 == 2048
    && proto_size bytes == 4

-- an address as a row of its own kind where its form is known, else as so many bytes
abbrev pub address : Bool → ℕ → ℕ → ℕ → ℕ → Step
address known row bytes at len = if known then Row row at else Part bytes at len

unfoldable pub arp_layout : List ℕ → List Step
arp_layout bytes =
    Row ARP_HW_TYPE 0 ∷
    Row ARP_PROTO_TYPE 2 ∷
    Row ARP_HW_SIZE 4 ∷
    Row ARP_PROTO_SIZE 5 ∷
    Row ARP_OPCODE 6 ∷
    address (is_ip_over_ether bytes) ARP_SRC_HW_MAC ARP_SRC_HW 8 (hw_size bytes) ∷
    address (is_ip_over_ether bytes) ARP_SRC_PROTO_IPV4 ARP_SRC_PROTO (8 + hw_size bytes)
    (proto_size bytes) ∷
    address (is_ip_over_ether bytes) ARP_DST_HW_MAC ARP_DST_HW
    (8 + hw_size bytes + proto_size bytes) (hw_size bytes) ∷
    address (is_ip_over_ether bytes) ARP_DST_PROTO_IPV4 ARP_DST_PROTO
    (8 + hw_size bytes + proto_size bytes + hw_size bytes) (proto_size bytes) ∷
    []

-- the sizes of a hardware address and of a protocol address, and where the addresses behind the first begin
abbrev pub arp_sizes : List ℕ → List ℕ
arp_sizes bytes =
    hw_size bytes ∷
    proto_size bytes ∷
    (8 + hw_size bytes) ∷
    (8 + hw_size bytes + proto_size bytes) ∷
    (8 + hw_size bytes + proto_size bytes + hw_size bytes) ∷
    []
