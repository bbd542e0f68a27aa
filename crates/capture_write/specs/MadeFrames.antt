-- The frames of a generated capture: Ethernet (IEEE 802.3), ARP (RFC 826), IPv4 (RFC 791), UDP (RFC 768), TCP (RFC 9293)
-- and DNS (RFC 1035). All their numbers are big-endian; a client is a number below 64. Checksums are 0.
use Rattle.std.specs.Prelude.{ℕ, zero, suc, ◌+◌, ◌%◌, List, [], ◌∷◌, ◌++◌, slice_index}
use Rattle.std.specs.Int.{w16, w32, to_be_bytes}

-- Ethernet goes from one address to another
abbrev pub source_hardware : List ℕ
source_hardware = 2 ∷ 0 ∷ 0 ∷ 0 ∷ 0 ∷ 1 ∷ []

abbrev pub target_hardware : List ℕ
target_hardware = 2 ∷ 0 ∷ 0 ∷ 0 ∷ 0 ∷ 2 ∷ []

-- 10.0.0.c, 10.0.1.1 and 10.0.2.c
abbrev pub client_address : ℕ → List ℕ
client_address c = 10 ∷ 0 ∷ 0 ∷ c ∷ []

abbrev pub server_address : List ℕ
server_address = 10 ∷ 0 ∷ 1 ∷ 1 ∷ []

abbrev pub told_address : ℕ → List ℕ
told_address c = 10 ∷ 0 ∷ 2 ∷ c ∷ []

-- target, source and type of a frame, before its payload
unfoldable pub ethernet_header : ℕ → List ℕ
ethernet_header type = target_hardware ++ source_hardware ++ to_be_bytes w16 type

-- an ARP request: hardware and protocol of Ethernet and IPv4, their lengths, operation 1, sender, target
unfoldable pub arp_request : ℕ → List ℕ
arp_request c =
    0 ∷ 1 ∷ 0x08 ∷ 0x00 ∷ 6 ∷ 4 ∷ 0 ∷ 1 ∷ []
    ++ source_hardware ++ client_address c ++ 0 ∷ 0 ∷ 0 ∷ 0 ∷ 0 ∷ 0 ∷ [] ++ server_address

-- an IPv4 header of 20 bytes before so many bytes: version and length, services, total length, identification,
-- flags and offset, time to live, protocol, checksum, source, target
unfoldable pub ip_header : ℕ → ℕ → List ℕ → List ℕ → List ℕ
ip_header size protocol source target =
    0x45 ∷ 0 ∷ [] ++ to_be_bytes w16 (20 + size) ++ 0 ∷ 0 ∷ 0 ∷ 0 ∷ 64 ∷ protocol ∷ 0 ∷ 0 ∷ []
    ++ source ++ target

-- a UDP header before so many bytes: ports, length, checksum
unfoldable pub udp_header : ℕ → ℕ → ℕ → List ℕ
udp_header size source target =
    to_be_bytes w16 source ++ to_be_bytes w16 target ++ to_be_bytes w16 (8 + size) ++ 0 ∷ 0 ∷ []

-- a TCP header of 20 bytes: ports, sequence number, acknowledgement 1, length, PSH and ACK, window, checksum, urgent pointer
unfoldable pub tcp_header : ℕ → ℕ → ℕ → List ℕ
tcp_header source target number =
    to_be_bytes w16 source ++ to_be_bytes w16 target ++ to_be_bytes w32 number ++ to_be_bytes w32 1
    ++ 0x50 ∷ 0x18 ∷ 0xFF ∷ 0xFF ∷ 0 ∷ 0 ∷ 0 ∷ 0 ∷ []

-- the header of a DNS message: its id, flags, one question, so many answers
unfoldable pub dns_header : ℕ → ℕ → ℕ → List ℕ
dns_header id flags answers =
    to_be_bytes w16 id ++ to_be_bytes w16 flags ++ to_be_bytes w16 1 ++ to_be_bytes w16 answers
    ++ 0 ∷ 0 ∷ 0 ∷ 0 ∷ []

-- the question for the address (type 1) of `h.test` in the internet (class 1)
unfoldable pub question : List ℕ
question = 1 ∷ 104 ∷ 4 ∷ 116 ∷ 101 ∷ 115 ∷ 116 ∷ 0 ∷ 0 ∷ 1 ∷ 0 ∷ 1 ∷ []

-- the answer to it: a pointer to the question's name, type, class, 60 seconds to live, the address
unfoldable pub answer : ℕ → List ℕ
answer c =
    0xC0 ∷ 0x0C ∷ 0 ∷ 1 ∷ 0 ∷ 1 ∷ [] ++ to_be_bytes w32 60 ++ to_be_bytes w16 4 ++ told_address c

-- an HTTP request of 27 bytes: GET / HTTP/1.1, Host: h, and an empty line
unfoldable pub request : List ℕ
request =
    71 ∷ 69 ∷ 84 ∷ 32 ∷ 47 ∷ 32 ∷ 72 ∷ 84 ∷ 84 ∷ 80 ∷ 47 ∷ 49 ∷ 46 ∷ 49 ∷ 13 ∷ 10
    ∷ 72 ∷ 111 ∷ 115 ∷ 116 ∷ 58 ∷ 32 ∷ 104 ∷ 13 ∷ 10 ∷ 13 ∷ 10 ∷ []

-- so many bytes of its endless repetition, from a place on
unfoldable pub requests : ℕ → ℕ → List ℕ
requests from zero = []
requests from (suc size) = requests from size ++ slice_index request ((from + size) % 27) ∷ []

-- the four frames of a client; of its requests so many bytes were sent before, and so many follow
unfoldable pub arp_frame : ℕ → List ℕ
arp_frame c = ethernet_header 0x0806 ++ arp_request c

unfoldable pub query_frame : ℕ → List ℕ
query_frame c =
    ethernet_header 0x0800 ++ ip_header 32 17 (client_address c) server_address
    ++ udp_header 24 (40000 + c) 53 ++ dns_header c 0x0100 0 ++ question

unfoldable pub answer_frame : ℕ → List ℕ
answer_frame c =
    ethernet_header 0x0800 ++ ip_header 48 17 server_address (client_address c)
    ++ udp_header 40 53 (40000 + c) ++ dns_header c 0x8180 1 ++ question ++ answer c

unfoldable pub request_frame : ℕ → ℕ → ℕ → List ℕ
request_frame c before size =
    ethernet_header 0x0800 ++ ip_header (20 + size) 6 (client_address c) server_address
    ++ tcp_header (41000 + c) 80 (1 + before) ++ requests before size
