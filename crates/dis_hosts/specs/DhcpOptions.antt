-- The options of a DHCP message, which fill it from byte 240 on (RFC 2132, 2).
--
--    pad (3.1)        end (3.2)        any other: the length counts the bytes of the data alone
--    +---------+      +---------+      +---------+---------+---- - -
--    |    0    |      |   255   |      |  code   | length  |  data ..
--    +---------+      +---------+      +---------+---------+---- - -
--
--    subnet mask (3.3), requested address (9.1), server identifier (9.7)
--    +---------+---------+---------+---------+---------+---------+
--    | 1 50 54 |    4    |                address                |
--    +---------+---------+---------+---------+---------+---------+
--
--    routers (3.5), domain name servers (3.8): n addresses
--    +---------+---------+---------+---------+---------+---------+---- - -
--    |   3 6   |   4 n   |              1st address              |  ..
--    +---------+---------+---------+---------+---------+---------+---- - -
--
--    host name (3.14)
--    +---------+---------+---- - -
--    |   12    |    n    |  name ..
--    +---------+---------+---- - -
--
--    address lease time (9.2)
--    +---------+---------+---------+---------+---------+---------+
--    |   51    |    4    |                seconds                |
--    +---------+---------+---------+---------+---------+---------+
--
--    message type (9.6)
--    +---------+---------+---------+
--    |   53    |    1    |  type   |
--    +---------+---------+---------+
use Rattle.std.specs.Prelude.{◌==◌, ℕ, ◌+◌, ◌/◌, ◌%◌, ◌&&◌, if◌then◌else◌, List, [], ◌∷◌, length, nat_le, slice_index}
use Rattle.pk_fields.specs.Ids.{DHCP_OPTION_TYPE, DHCP_OPTION_LENGTH, DHCP_OPTION_VALUE, DHCP_OPTION_SUBNET_MASK, DHCP_OPTION_ROUTER, DHCP_OPTION_DOMAIN_NAME_SERVER, DHCP_OPTION_HOSTNAME, DHCP_OPTION_REQUESTED_IP_ADDRESS, DHCP_OPTION_IP_ADDRESS_LEASE_TIME, DHCP_OPTION_DHCP, DHCP_OPTION_DHCP_SERVER_ID}
use Rattle.pk_tree.specs.declared.layout.Step.{Step}
use Rattle.pk_tree.specs.declared.layout.Step.TheVariants.{Row, Part}
use Rattle.pk_tree.specs.Entries.{Entry, ReadsTo, goes_on, ends, repeated}

-- one of the addresses of an option
abbrev pub address : ℕ → ℕ → Entry
address field at = goes_on (Row field at ∷ []) (at + 4)

-- the rows of an option's data by its code and its length, from the data's first byte on; of other codes, and of another
-- length than the code's, there are none
unfoldable pub option_data : ℕ → ℕ → ℕ → List Step
option_data code len at =
    if code == 1 && len == 4 then Row DHCP_OPTION_SUBNET_MASK at ∷ []
    else (if code == 3 && len % 4 == 0
    then (repeated (len / 4) (address DHCP_OPTION_ROUTER) at).steps
    else (if code == 6 && len % 4 == 0
    then (repeated (len / 4) (address DHCP_OPTION_DOMAIN_NAME_SERVER) at).steps
    else (if code == 12 then Part DHCP_OPTION_HOSTNAME at len ∷ []
    else (if code == 50 && len == 4 then Row DHCP_OPTION_REQUESTED_IP_ADDRESS at ∷ []
    else (if code == 51 && len == 4 then Row DHCP_OPTION_IP_ADDRESS_LEASE_TIME at ∷ []
    else (if code == 53 && len == 1 then Row DHCP_OPTION_DHCP at ∷ []
    else (if code == 54 && len == 4 then Row DHCP_OPTION_DHCP_SERVER_ID at ∷ []
    else [])))))))

-- an option that has a length; where its data goes past the end, that is a row that doesn't fit
unfoldable pub option_with_length : ℕ → ℕ → ℕ → Entry
option_with_length code len at =
    goes_on (Row DHCP_OPTION_TYPE at ∷ Row DHCP_OPTION_LENGTH (at + 1)
    ∷ Part DHCP_OPTION_VALUE (at + 2) len ∷ option_data code len (at + 2)) (at + 2 + len)

-- the option at a place in a message; a length byte that isn't there is a row that doesn't fit, and counts as 0
unfoldable pub option_at : List ℕ → ℕ → Entry
option_at bytes at =
    if nat_le (length bytes) at then ends []
    else (if slice_index bytes at == 0 then goes_on (Row DHCP_OPTION_TYPE at ∷ []) (at + 1)
    else (if slice_index bytes at == 255 then ends (Row DHCP_OPTION_TYPE at ∷ [])
    else option_with_length (slice_index bytes at) (slice_index bytes (at + 1)) at))

-- a message has fewer options than bytes: these are all of them (AllOptions)
unfoldable pub dhcp_options : List ℕ → Entry
dhcp_options bytes = repeated (length bytes) (option_at bytes) 240

-- of a message's options none is left out
abbrev pub AllOptions : Type 0
AllOptions = (bytes : List ℕ) → ReadsTo (length bytes) (dhcp_options bytes)

-- the fields of the options
abbrev pub option_fields : List ℕ
option_fields =
    DHCP_OPTION_TYPE ∷
    DHCP_OPTION_LENGTH ∷
    DHCP_OPTION_VALUE ∷
    DHCP_OPTION_SUBNET_MASK ∷
    DHCP_OPTION_ROUTER ∷
    DHCP_OPTION_DOMAIN_NAME_SERVER ∷
    DHCP_OPTION_HOSTNAME ∷
    DHCP_OPTION_REQUESTED_IP_ADDRESS ∷
    DHCP_OPTION_IP_ADDRESS_LEASE_TIME ∷
    DHCP_OPTION_DHCP ∷
    DHCP_OPTION_DHCP_SERVER_ID ∷
    []
