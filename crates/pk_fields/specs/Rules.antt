-- Rules that name the application of a port.
use Rattle.std.specs.Prelude.{◌==◌, Bool, true, false, ◌&&◌, not, List, All, IsTrue}
use Rattle.std.specs.List.{IsDistinct}
use Rattle.pk_fields.specs.declared.rules.PortRule.{PortRule}
use Rattle.pk_fields.specs.Apps.{app_fits}

abbrev pub same_transport : Bool → Bool → Bool
same_transport true tcp = tcp
same_transport false tcp = not tcp

-- two rules for the same port of one transport
abbrev pub same_port : PortRule → PortRule → Bool
same_port one other = same_transport one.tcp other.tcp && one.port == other.port

-- each rule's application fits its transport, and no port of a transport stands twice
pub record AreRules (rules : List PortRule) : Type 0 where
  pub fit : All (λ (rule : PortRule). IsTrue (app_fits rule.tcp rule.app)) rules
  pub once : IsDistinct same_port rules
