use Rattle.std.proofs.Common.{refl}
use Rattle.stream_messages.specs.Limits.{field_limit}
use Rattle.stream_messages.specs.Plans.{planned}
use Rattle.stream_messages.proofs.HeadLawProofs.{found_in_room}
use Rattle.stream_messages.proofs.plans.plan_of_many.Goals as goal

pub returns-clause-value : goal.returns-clause-value
unfolding field_limit
returns-clause-value c =
    found_in_room (planned c.args.asked) c.args.bytes.now 128 c.plan_within.result refl c.plan_within.ensures.some c.plan_within.ensures.none
