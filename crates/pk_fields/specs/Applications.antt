-- The application that ports tell, by rules and then by what is usual.
use Rattle.std.specs.Prelude.{◌==◌, ℕ, Bool, true, false, ◌&&◌, nat_le, if◌then◌else◌, List, Option, option_map}
use Rattle.std.specs.List.{find}
use Rattle.std.specs.Option.{option_or}
use Rattle.pk_fields.specs.declared.apps.App.{App}
use Rattle.pk_fields.specs.declared.rules.PortRule.{PortRule}
use Rattle.pk_fields.specs.Apps.{usual_tcp, usual_udp}
use Rattle.pk_fields.specs.Rules.{same_transport}

-- the application of the first rule for a port of a transport
abbrev pub is_for : Bool → ℕ → PortRule → Bool
is_for tcp port rule = same_transport rule.tcp tcp && rule.port == port

abbrev pub rule_of : Bool → ℕ → List PortRule → Option App
rule_of tcp port rules = option_map (λ rule. rule.app) (find (is_for tcp port) rules)

-- a rule takes the place of the usual application
abbrev pub app_known : Bool → (ℕ → Option App) → List PortRule → ℕ → Option App
app_known tcp usual rules port = option_or (rule_of tcp port rules) (usual port)

-- the lower port is asked first, then the higher
abbrev pub app_between : (ℕ → Option App) → ℕ → ℕ → Option App
app_between known source target =
    if nat_le source target then option_or (known source) (known target) else option_or (known target) (known source)

unfoldable pub udp_app : List PortRule → ℕ → ℕ → Option App
udp_app rules source target = app_between (app_known false usual_udp rules) source target

unfoldable pub tcp_app : List PortRule → ℕ → ℕ → Option App
tcp_app rules source target = app_between (app_known true usual_tcp rules) source target
