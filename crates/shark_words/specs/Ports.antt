-- What `-d` sets: a port of one transport, as `tcp.port==N` or `udp.port==N`, a comma, and the application that its payload
-- is read as.
use Rattle.std.specs.Prelude.{ℕ, suc, ◌^◌, ◌-◌, ◌==◌, Bool, true, false, ◌&&◌, List, [], ◌∷◌, ◌++◌, take, drop, codes, Option, Some, None, option_and_then, option_map, option_to_list, if◌then◌else◌}
use Rattle.std.specs.Option.{option_or}
use Rattle.pk_fields.specs.declared.apps.App.{App}
use Rattle.pk_fields.specs.declared.rules.PortRule.{PortRule}
use Rattle.pk_fields.specs.Apps.{app_fits, app_named}
use Rattle.pk_fields.specs.Rules.{same_transport}
use Rattle.shark_words.specs.declared.port.Port.{Port}
use Rattle.shark_words.specs.Keys.{behind_name}
use Rattle.shark_words.specs.Numbers.{at_most, comma_in, decimal_of}

-- what stands before a port of TCP, else of UDP
abbrev pub transport_name : Bool → List ℕ
transport_name true = codes "tcp.port=="
transport_name false = codes "udp.port=="

abbrev pub port : Bool → ℕ → Port
port tcp number = record { tcp = tcp; number = number }

-- a port of this transport
abbrev pub port_over : Bool → List ℕ → Option Port
port_over tcp text =
    option_map (port tcp)
    (option_and_then (at_most (2 ^ 16 - 1))
    (option_and_then decimal_of (behind_name (transport_name tcp) text)))

unfoldable pub port_of : List ℕ → Option Port
port_of text = option_or (port_over true text) (port_over false text)

-- the port that a text begins with, whatever stands behind its first comma
abbrev pub port_before : List ℕ → Option ℕ → Option Port
port_before text None = port_of text
port_before text (Some comma) = port_of (take comma text)

unfoldable pub port_in : List ℕ → Option Port
port_in text = port_before text (comma_in text)

-- an application that a transport carries
abbrev pub carried : Bool → App → Option App
carried tcp app = if app_fits tcp app then Some app else None

abbrev pub app_of : Bool → List ℕ → Option App
app_of tcp text = option_and_then (carried tcp) (app_named text)

-- a port's rule, by the name of its application
abbrev pub rule : Port → App → PortRule
rule one app = record { tcp = one.tcp; port = one.number; app = app }

abbrev pub rule_for : Port → List ℕ → Option PortRule
rule_for one text = option_map (rule one) (app_of one.tcp text)

abbrev pub rule_by : Option Port → List ℕ → Option PortRule
rule_by None name = None
rule_by (Some one) name = rule_for one name

abbrev pub rule_at : List ℕ → Option ℕ → Option PortRule
rule_at text None = None
rule_at text (Some comma) = rule_by (port_of (take comma text)) (drop (suc comma) text)

unfoldable pub rule_of : List ℕ → Option PortRule
rule_of text = rule_at text (comma_in text)

-- the rules of texts, in their order
abbrev pub rules_in : List (List ℕ) → List PortRule
rules_in [] = []
rules_in (text ∷ texts) = option_to_list (rule_of text) ++ rules_in texts

abbrev pub is_same_port : Port → Port → Bool
is_same_port one other = same_transport one.tcp other.tcp && one.number == other.number
