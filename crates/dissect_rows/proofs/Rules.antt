-- The rules of a command line that names none, or one.
use Rattle.std.proofs.Common.{◌≡◌, [], ◌∷◌, true, rules}
use Rattle.std.specs.List.{IsDistinct}
use Rattle.pk_fields.specs.declared.rules.PortRule.{PortRule}
use Rattle.pk_fields.specs.Apps.{app_fits}
use Rattle.pk_fields.specs.Rules.{AreRules}

pub no_rules : AreRules []
unfolding IsDistinct
no_rules = record { fit = search rules; once = tt }

pub one_rule : (rule : PortRule) → app_fits rule.tcp rule.app ≡ true → AreRules (rule ∷ [])
unfolding IsDistinct
one_rule rule fits = record { fit = search rules; once = search rules }
