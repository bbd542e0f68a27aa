-- The applications that ports lead to. Written by tools/make_protocols from tools/protocols.txt.
use Rattle.std.specs.Prelude.{◌==◌, ℕ, Bool, true, not, ◌||◌, if◌then◌else◌, List, codes, Option, Some, None}
use Rattle.std.specs.Str.{bytes_eq}
use Rattle.pk_fields.specs.declared.apps.App.{App}
use Rattle.pk_fields.specs.declared.apps.App.TheVariants.{Http, Dns, Dhcp, Ntp, Mdns, Plain}

-- the application of a port of UDP: dns 53 (RFC 1035, 4.2); dhcp 67 and 68 (RFC 2131, 4.1); ntp 123 (RFC 5905, 7.2); mdns 5353 (RFC 6762, 3)
abbrev pub usual_udp : ℕ → Option App
usual_udp port =
    if port == 53 then Some Dns
    else (if port == 67 || port == 68 then Some Dhcp
    else (if port == 123 then Some Ntp
    else (if port == 5353 then Some Mdns
    else None)))

-- the application of a port of TCP: http 80 and 8080 (RFC 9110, 4.2.1; 8080 by IANA, http-alt); dns 53 (RFC 1035, 4.2)
abbrev pub usual_tcp : ℕ → Option App
usual_tcp port =
    if port == 80 || port == 8080 then Some Http
    else (if port == 53 then Some Dns
    else None)

-- whether its messages are read in streams of TCP, or else in datagrams of UDP
abbrev pub app_fits : Bool → App → Bool
app_fits tcp Http = tcp
app_fits tcp Dns = true
app_fits tcp Dhcp = not tcp
app_fits tcp Ntp = not tcp
app_fits tcp Mdns = not tcp
app_fits tcp Plain = true

-- the application of a name that a rule may give; `data` is none
abbrev pub app_named : List ℕ → Option App
app_named text =
    if bytes_eq text (codes "http") then Some Http
    else if bytes_eq text (codes "dns") then Some Dns
    else if bytes_eq text (codes "dhcp") then Some Dhcp
    else if bytes_eq text (codes "data") then Some Plain
    else None

-- its name
abbrev pub app_name : App → List ℕ
app_name Http = codes "http"
app_name Dns = codes "dns"
app_name Dhcp = codes "dhcp"
app_name Ntp = codes "ntp"
app_name Mdns = codes "mdns"
app_name Plain = codes "data"
