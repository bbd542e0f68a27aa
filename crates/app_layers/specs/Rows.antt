-- How messages of applications are read. Written by tools/make_protocols from tools/protocols.txt.
use Rattle.std.specs.Prelude.{ℕ, Bool, true, false, List, [], ◌∷◌, Option, Some, None}
use Rattle.pk_base.specs.declared.span.Span.{Span}
use Rattle.pk_base.specs.declared.heads.After.{After}
use Rattle.pk_base.specs.declared.heads.After.TheVariants.{End}
use Rattle.pk_fields.specs.Ids.{HTTP, DNS, DHCP, NTP, MDNS, DATA}
use Rattle.pk_fields.specs.declared.apps.App.{App}
use Rattle.pk_fields.specs.declared.apps.App.TheVariants.{Http, Dns, Dhcp, Ntp, Mdns, Plain}
use Rattle.pk_tree.specs.declared.layout.Step.{Step}
use Rattle.stream_messages.specs.declared.framer.Framer.{Framer}
use Rattle.stream_messages.specs.declared.framer.Framer.TheVariants as framers
use Rattle.dis_dns.specs.Dns.{dns_layout, mdns_layout}
use Rattle.dis_hosts.specs.Dhcp.{dhcp_layout}
use Rattle.dis_hosts.specs.Ntp.{ntp_layout, ntp_after}

-- whether datagrams carry its messages
unfoldable pub in_datagrams : App → Bool
in_datagrams Http = false
in_datagrams Dns = true
in_datagrams Dhcp = true
in_datagrams Ntp = true
in_datagrams Mdns = true
in_datagrams Plain = false

-- the protocol of its layers
abbrev pub proto_of : App → ℕ
proto_of Http = HTTP
proto_of Dns = DNS
proto_of Dhcp = DHCP
proto_of Ntp = NTP
proto_of Mdns = MDNS
proto_of Plain = DATA

-- the layer of a message, in a stream or in a datagram; there is none of what has its own reader
unfoldable pub layout_of : App → Bool → List ℕ → List Step
layout_of Http streamed bytes = []
layout_of Dns streamed bytes = dns_layout streamed bytes
layout_of Dhcp streamed bytes = dhcp_layout bytes
layout_of Ntp streamed bytes = ntp_layout bytes
layout_of Mdns streamed bytes = mdns_layout bytes
layout_of Plain streamed bytes = []

-- what follows it
unfoldable pub rest_of : App → Span → List ℕ → After
rest_of Http span bytes = End
rest_of Dns span bytes = End
rest_of Dhcp span bytes = End
rest_of Ntp span bytes = ntp_after span bytes
rest_of Mdns span bytes = End
rest_of Plain span bytes = End

-- how its messages follow one another in a stream, where streams carry them
abbrev pub framer_of : App → Option Framer
framer_of Http = Some framers.Http
framer_of Dns = Some (framers.LengthPrefix 2 0 2)
framer_of Dhcp = None
framer_of Ntp = None
framer_of Mdns = None
framer_of Plain = None

-- those whose messages streams carry
abbrev pub framed_apps : List App
framed_apps = Http ∷ Dns ∷ []

-- whether a datagram's message of which nothing is asked is passed over
abbrev pub is_passed : App → Bool
is_passed Http = false
is_passed Dns = true
is_passed Dhcp = true
is_passed Ntp = false
is_passed Mdns = true
is_passed Plain = false

-- those of which that is so
abbrev pub passed_apps : List App
passed_apps = Dns ∷ Dhcp ∷ Mdns ∷ []
