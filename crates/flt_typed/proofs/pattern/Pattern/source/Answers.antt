use Rattle.std.proofs.Common.{IsUtf8, subst}
use Rattle.regex.specs.Bytes.{regex_source}
use Rattle.regex.specs.declared.bytes.regex.Regex.{Regex}
use Rattle.flt_typed.proofs.Compiled.{is_pattern}
use Rattle.flt_typed.proofs.pattern.Pattern.source.Goals as goal

pub returns-clause-pattern : goal.returns-clause-pattern
returns-clause-pattern c =
    let utf8 = subst (λ (r : Regex). IsUtf8 (regex_source r)) c.deref.ensures (rw c.as_str.ensures at c.as_str.utf8) in
    rw (← c.self.view_is) (is_pattern _ c.self.invariant utf8)
