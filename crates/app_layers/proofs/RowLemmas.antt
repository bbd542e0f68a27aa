-- What holds of each application's row. Written by tools/make_protocols from tools/protocols.txt.
use Rattle.std.proofs.Common.{◌≡◌, ◌==◌, ◌<◌, ℕ, true, false, List, Some, refl, sym, arith, true≢false}
use Rattle.std.specs.Prelude.{IsSome}
use Rattle.std.specs.List.{AllByRecursion as Each}
use Rattle.pk_base.specs.declared.heads.After.TheVariants.{End}
use Rattle.pk_base.specs.declared.span.Span.{Span}
use Rattle.pk_fields.specs.Fields.{IsField, row_of}
use Rattle.pk_fields.specs.Ids.{TCP}
use Rattle.pk_fields.specs.Table.{rows}
use Rattle.pk_fields.specs.declared.apps.App.{App}
use Rattle.pk_fields.specs.declared.apps.App.TheVariants.{Http, Dns, Dhcp, Ntp, Mdns, Plain}
use Rattle.pk_tree.specs.Layouts.{StepsFit}
use Rattle.pk_tree.specs.Values.{is_proto}
use Rattle.stream_messages.specs.declared.framer.Framer.TheVariants as framers
use Rattle.dis_dns.proofs.DnsFits.{layout_fits as dns_fits}
use Rattle.dis_hosts.proofs.DhcpFits.{layout_fits as dhcp_fits}
use Rattle.dis_dns.proofs.MdnsFits.{layout_fits as mdns_fits}
use Rattle.app_layers.specs.MessageLayers.{app_among, tells_length}
use Rattle.app_layers.specs.Rows.{framed_apps, framer_of, in_datagrams, is_passed, layout_of, passed_apps, proto_of, rest_of}

pub proto_some : (app : App) → 0 < proto_of app
proto_some Http = omega arith
proto_some Dns = omega arith
proto_some Dhcp = omega arith
proto_some Ntp = omega arith
proto_some Mdns = omega arith
proto_some Plain = omega arith

pub not_tcp : (app : App) → (proto_of app == TCP) ≡ false
not_tcp Http = refl
not_tcp Dns = refl
not_tcp Dhcp = refl
not_tcp Ntp = refl
not_tcp Mdns = refl
not_tcp Plain = refl

pub home_of : (app : App) → (row_of (proto_of app)).proto ≡ proto_of app
unfolding row_of rows
home_of Http = refl
home_of Dns = refl
home_of Dhcp = refl
home_of Ntp = refl
home_of Mdns = refl
home_of Plain = refl

pub is_field : (app : App) → IsField (proto_of app)
is_field Http = omega arith
is_field Dns = omega arith
is_field Dhcp = omega arith
is_field Ntp = omega arith
is_field Mdns = omega arith
is_field Plain = omega arith

pub is_protocol : (app : App) → is_proto (row_of (proto_of app)).kind ≡ true
unfolding row_of rows
is_protocol Http = refl
is_protocol Dns = refl
is_protocol Dhcp = refl
is_protocol Ntp = refl
is_protocol Mdns = refl
is_protocol Plain = refl

-- those that streams carry
pub framed_each : (P : App → Type 0) → Each P framed_apps → (app : App) → IsSome (framer_of app) → P app
framed_each P each Http some = each.0
framed_each P each Dns some = each.1.0
framed_each P each Dhcp some = absurd (true≢false (sym some))
framed_each P each Ntp some = absurd (true≢false (sym some))
framed_each P each Mdns some = absurd (true≢false (sym some))
framed_each P each Plain some = absurd (true≢false (sym some))

pub framed_found : (app : App) → IsSome (framer_of app) → app_among framed_apps (proto_of app) ≡ Some app
framed_found Http some = refl
framed_found Dns some = refl
framed_found Dhcp some = absurd (true≢false (sym some))
framed_found Ntp some = absurd (true≢false (sym some))
framed_found Mdns some = absurd (true≢false (sym some))
framed_found Plain some = absurd (true≢false (sym some))

-- those whose messages have a head that tells their length
pub rows_fit : (app : App) → tells_length (framer_of app) ≡ true → (bytes : List ℕ) → StepsFit (proto_of app) (layout_of app true bytes)
unfolding layout_of
rows_fit Http sized bytes = absurd (true≢false (sym sized))
rows_fit Dns sized bytes = dns_fits true bytes
rows_fit Dhcp sized bytes = absurd (true≢false (sym sized))
rows_fit Ntp sized bytes = absurd (true≢false (sym sized))
rows_fit Mdns sized bytes = absurd (true≢false (sym sized))
rows_fit Plain sized bytes = absurd (true≢false (sym sized))

-- those of which a datagram's message is passed over where nothing of it is asked
pub passed_each : (P : App → Type 0) → Each P passed_apps → (app : App) → is_passed app ≡ true → P app
passed_each P each Http over = absurd (true≢false (sym over))
passed_each P each Dns over = each.0
passed_each P each Dhcp over = each.1.0
passed_each P each Ntp over = absurd (true≢false (sym over))
passed_each P each Mdns over = each.1.1.0
passed_each P each Plain over = absurd (true≢false (sym over))

pub passed_read : (app : App) → is_passed app ≡ true → in_datagrams app ≡ true
unfolding in_datagrams
passed_read Http over = absurd (true≢false (sym over))
passed_read Dns over = refl
passed_read Dhcp over = refl
passed_read Ntp over = absurd (true≢false (sym over))
passed_read Mdns over = refl
passed_read Plain over = absurd (true≢false (sym over))

pub passed_end : (app : App) → is_passed app ≡ true → (span : Span) (bytes : List ℕ) → rest_of app span bytes ≡ End
unfolding rest_of
passed_end Http over span bytes = absurd (true≢false (sym over))
passed_end Dns over span bytes = refl
passed_end Dhcp over span bytes = refl
passed_end Ntp over span bytes = absurd (true≢false (sym over))
passed_end Mdns over span bytes = refl
passed_end Plain over span bytes = absurd (true≢false (sym over))

pub passed_fit : (app : App) → is_passed app ≡ true → (bytes : List ℕ) → StepsFit (proto_of app) (layout_of app false bytes)
unfolding layout_of
passed_fit Http over bytes = absurd (true≢false (sym over))
passed_fit Dns over bytes = dns_fits false bytes
passed_fit Dhcp over bytes = dhcp_fits bytes
passed_fit Ntp over bytes = absurd (true≢false (sym over))
passed_fit Mdns over bytes = mdns_fits bytes
passed_fit Plain over bytes = absurd (true≢false (sym over))

-- the one that is framed as HTTP is
pub http_row : (P : App → Type 0) → P Http → (app : App) → framer_of app ≡ Some framers.Http → P app
http_row P http Http framed = http
http_row P http Dns framed = absurd (cc)
http_row P http Dhcp framed = absurd (cc)
http_row P http Ntp framed = absurd (cc)
http_row P http Mdns framed = absurd (cc)
http_row P http Plain framed = absurd (cc)
