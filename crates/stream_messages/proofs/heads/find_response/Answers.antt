use Rattle.std.proofs.Common.{arith}
use Rattle.stream_messages.proofs.HeadLemmas.{response_complete, response_refused, response_over}
use Rattle.stream_messages.proofs.heads.find_response.Goals as goal

pub returns-in-Ok-Complete-clause-some : goal.returns-in-Ok-Complete-clause-some
returns-in-Ok-Complete-clause-some c =
    let of = rw c.in-Ok-Complete.field-0-is at c.in-Ok-Complete.ensures.complete in
    (of.0, response_complete _ _ _ of.0 of.1 (omega arith) c.requires.short, of.1)

pub returns-in-Ok-Partial-clause-none : goal.returns-in-Ok-Partial-clause-none
returns-in-Ok-Partial-clause-none c =
    let never = rw c.in-Ok-Partial.field-0-is at c.in-Ok-Partial.ensures.partial in
    response_refused _ _ never

pub returns-in-Err-clause-none : goal.returns-in-Err-clause-none
returns-in-Err-clause-none c = response_over _ _ c.in-Err.ensures.no_room
