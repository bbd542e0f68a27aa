use Rattle.std.proofs.Common.{rules, IsTrue, IsUtf8, subst, sym}
use Rattle.flt_typed.specs.Patterns.{IsPattern}
use Rattle.flt_typed.proofs.Compiled.{is_pattern}
use Rattle.flt_typed.proofs.pattern.searchable.Goals as goal

pub returns-then-branch-clause-err : goal.returns-then-branch-clause-err
returns-then-branch-clause-err c =
    let costly : IsTrue c.in_ok-is_costly.field-0 = search rules in
    record {
      pattern = subst IsPattern c.requires.source (is_pattern _ c.requires.ours (subst IsUtf8 (sym c.requires.source) c.utf8.text));
      cause = c.in_ok-is_costly.ensures.costly costly;
    }
