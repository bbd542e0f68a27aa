use Rattle.std.proofs.Common.{rules, ◌≡◌, IsUtf8, IfOk, Result, Ok, Err, subst, sym}
use Rattle.regex.specs.Bytes.{regex_source}
use Rattle.flt_typed.specs.Compiled.{IsOurs}
use Rattle.flt_typed.specs.Patterns.{IsPattern}
use Rattle.flt_typed.proofs.Compiled.{is_pattern}
use Rattle.flt_typed.proofs.pattern.Pattern.new.Goals as goal

always : {A E : Type 0} (P : Type 0) (r : Result A E) → P → IfOk r (λ _. P)
always P (Ok x) p = p
always P (Err e) p = tt

pub returns-in-Ok-build_bytes-clause-read : goal.returns-in-Ok-build_bytes-clause-read
returns-in-Ok-build_bytes-clause-read c =
    let source : regex_source c.in-Ok-build_bytes.regex ≡ c.args.pattern.now = search rules in
    let ours : IsOurs c.in-Ok-build_bytes.regex = search rules in
    always (IsPattern c.args.pattern.now) c.searchable.result (subst IsPattern source (is_pattern _ ours (subst IsUtf8 (sym source) c.in-Ok.ensures.cases.1)))
