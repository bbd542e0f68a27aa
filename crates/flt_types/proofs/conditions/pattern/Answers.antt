use Rattle.std.proofs.Common.{subst}
use Rattle.flt_typed.specs.Patterns.{HasCause}
use Rattle.flt_types.proofs.conditions.pattern.Goals as goal

pub returns-in-Err-clause-err : goal.returns-in-Err-clause-err
returns-in-Err-clause-err c =
    c.pattern_fault.ensures c.args.quote.now.bytes
    (subst (λ text. HasCause text c.in-Err.cause) c.bytes.ensures c.in-Err.ensures.err)
