use Rattle.std.proofs.Common.{arith}
use Rattle.stream_messages.specs.HttpMessages.{by_planned, resumed_head}
use Rattle.stream_messages.proofs.GoingLemmas.{head_begins, head_stops, head_waits, ok_goes}
use Rattle.stream_messages.proofs.resuming.resume_head.Goals as goal

pub returns-in-Ends : goal.returns-in-Ends
returns-in-Ends c =
    ok_goes (resumed_head c.args.head) (by_planned c.plan_in-planned.result) c.args.bytes.now c.begin_body.result
    (λ framing go. head_begins c.args.head c.args.bytes.now c.head_window.result.now c.in-Ends.end c.plan_in-planned.result framing c.head_window.ensures c.in-Ends.ensures c.plan_in-planned.ensures.value go)
    c.begin_body.ensures

pub returns-in-Goes : goal.returns-in-Goes
returns-in-Goes c =
    head_stops c.args.head c.args.bytes.now c.head_window.result.now c.in-Goes.field-0 c.head_window.ensures c.in-Goes.ensures (omega (arith, c.head_limit.ensures.value, c.if-bytes-head_limit.true))

pub returns-in-Goes-2 : goal.returns-in-Goes-2
returns-in-Goes-2 c =
    head_waits c.args.head c.args.bytes.now c.head_window.result.now c.in-Goes.field-0 c.max.result c.head_window.ensures c.in-Goes.ensures
    (omega (arith, c.head_limit.ensures.value, c.if-bytes-head_limit.false)) (omega (arith, c.max.ensures)) (omega (arith, c.max.ensures))
