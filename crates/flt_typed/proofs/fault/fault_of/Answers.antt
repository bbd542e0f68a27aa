use Rattle.flt_typed.proofs.Refused.{no_pattern, read_pattern}
use Rattle.flt_typed.proofs.fault.fault_of.Goals as goal

pub returns-in-Syntax : goal.returns-in-Syntax
returns-in-Syntax c =
    no_pattern _ _ (c.requires.refused c.in-Syntax.field-0 c.in-Syntax.is) (rw c.in-Syntax.is at c.requires.kind)

pub returns-in-CompiledTooBig : goal.returns-in-CompiledTooBig
returns-in-CompiledTooBig c =
    let read = read_pattern _ c.utf8.text (rw c.in-CompiledTooBig.is at c.requires.kind) in
    record { pattern = read; cause = c.may_be_large.ensures.0 c.if-may_be_large.true }
