-- Dynamic Host Configuration Protocol (RFC 2131, 2). The message is that of BOOTP (RFC 951, 3).
--
--     0                   1                   2                   3
--     0 1 2 3 4 5 6 7 8 9 0 1 2 3 4 5 6 7 8 9 0 1 2 3 4 5 6 7 8 9 0 1
--    +---------------+---------------+---------------+---------------+
--    |      op       |     htype     |     hlen      |     hops      |
--    +---------------+---------------+---------------+---------------+
--    |                              xid                              |
--    +-------------------------------+-+-----------------------------+
--    |             secs              |B|            flags            |
--    +-------------------------------+-+-----------------------------+
--    |                 ciaddr: the client's address                  |
--    +---------------------------------------------------------------+
--    |                 yiaddr: your address                          |
--    +---------------------------------------------------------------+
--    |                 siaddr: the next server's address             |
--    +---------------------------------------------------------------+
--    |                 giaddr: the relay agent's address             |
--    +---------------------------------------------------------------+
--    |                 chaddr: the client's hardware address         |
--    |                         (16 bytes)                            |
--    +---------------------------------------------------------------+
--    |                 sname: the server's name (64 bytes)           |
--    +---------------------------------------------------------------+
--    |                 file: the boot file's name (128 bytes)        |
--    +---------------+---------------+---------------+---------------+
--    |      99       |      130      |      83       |      99       |
--    +---------------+---------------+---------------+---------------+
--    |                          options ..                           |
use Rattle.std.specs.Prelude.{◌==◌, ℕ, ◌+◌, ◌*◌, Bool, not, if◌then◌else◌, List, [], ◌∷◌, ◌++◌, length, take, drop, nat_le}
use Rattle.std.specs.List.{prefix_len}
use Rattle.pk_fields.specs.Ids.{DHCP_TYPE, DHCP_HW_TYPE, DHCP_HW_LEN, DHCP_HOPS, DHCP_ID, DHCP_SECS, DHCP_FLAGS, DHCP_FLAGS_BC, DHCP_IP_CLIENT, DHCP_IP_YOUR, DHCP_IP_SERVER, DHCP_IP_RELAY, DHCP_HW_MAC_ADDR, DHCP_HW_ADDR, DHCP_SERVER, DHCP_FILE, DHCP_COOKIE}
use Rattle.pk_tree.specs.declared.layout.Step.{Step}
use Rattle.pk_tree.specs.declared.layout.Step.TheVariants.{Row, Part, Check, Room}
use Rattle.pk_tree.specs.Layouts.{peeked}
use Rattle.dis_hosts.specs.DhcpOptions.{dhcp_options}

-- an Ethernet address where hlen says that it has six bytes
abbrev pub hardware_address : ℕ → Step
hardware_address hlen = if hlen == 6 then Row DHCP_HW_MAC_ADDR 28 else Part DHCP_HW_ADDR 28 16

-- whether all bytes of a field are there
abbrev pub room_for : List ℕ → ℕ → ℕ → Step
room_for bytes at size = Room (nat_le (at + size) (length bytes))

-- a name is the bytes before the first zero of its field
unfoldable pub name_len : List ℕ → ℕ → ℕ → ℕ
name_len bytes at size = prefix_len (λ byte. not (byte == 0)) (take size (drop at bytes))

-- the number that the bytes 99, 130, 83 and 99 spell (RFC 2131, 3)
abbrev pub magic_cookie : ℕ
magic_cookie = ((99 * 256 + 130) * 256 + 83) * 256 + 99

unfoldable pub dhcp_rows : List ℕ → List Step
dhcp_rows bytes =
    Row DHCP_TYPE 0 ∷
    Row DHCP_HW_TYPE 1 ∷
    Row DHCP_HW_LEN 2 ∷
    Row DHCP_HOPS 3 ∷
    Row DHCP_ID 4 ∷
    Row DHCP_SECS 8 ∷
    Row DHCP_FLAGS 10 ∷
    Row DHCP_FLAGS_BC 10 ∷
    Row DHCP_IP_CLIENT 12 ∷
    Row DHCP_IP_YOUR 16 ∷
    Row DHCP_IP_SERVER 20 ∷
    Row DHCP_IP_RELAY 24 ∷
    hardware_address (peeked bytes 16 8) ∷
    room_for bytes 44 64 ∷
    Part DHCP_SERVER 44 (name_len bytes 44 64) ∷
    room_for bytes 108 128 ∷
    Part DHCP_FILE 108 (name_len bytes 108 128) ∷
    Row DHCP_COOKIE 236 ∷
    Check (peeked bytes 1888 32 == magic_cookie) ∷
    []

-- the rows' conditions and sizes, in their order: whether the names' fields are there, and whether the cookie is DHCP's;
-- the bytes of the names, and of a hardware address that isn't an Ethernet address
abbrev pub row_conditions : List ℕ → List Bool
row_conditions bytes =
    nat_le (44 + 64) (length bytes) ∷
    nat_le (108 + 128) (length bytes) ∷
    (peeked bytes 1888 32 == magic_cookie) ∷
    []

abbrev pub row_sizes : List ℕ → List ℕ
row_sizes bytes = name_len bytes 44 64 ∷ name_len bytes 108 128 ∷ 16 ∷ []

unfoldable pub dhcp_layout : List ℕ → List Step
dhcp_layout bytes = dhcp_rows bytes ++ (dhcp_options bytes).steps
