use Rattle.std.proofs.Common.{Option, None, Some}
use Rattle.std.specs.Prelude.{IfOk, IfSome, Result, Ok, Err}
use Rattle.dissect.specs.declared.carried.Carried.{Carried}
use Rattle.dissect.proofs.state.State.carry.Goals as goal

if_found : {E : Type 0} (P Q : Carried → Type 0) (r : Result (Option Carried) E) → ((c : Carried) → P c → Q c) → IfOk r (λ (found : Option Carried). IfSome found P) → IfOk r (λ (found : Option Carried). IfSome found Q)
if_found P Q (Ok None) more is = tt
if_found P Q (Ok (Some c)) more is = more c is
if_found P Q (Err e) more is = tt

pub returns-in-Segment-clause-tells : goal.returns-in-Segment-clause-tells
returns-in-Segment-clause-tells c = rw c.in-Segment.is
    (if_found _ _ c.carry_segment.result (λ carried tells. tells c.args.passes) c.carry_segment.ensures.tells)

pub returns-in-Datagram-clause-tells : goal.returns-in-Datagram-clause-tells
returns-in-Datagram-clause-tells c = rw c.in-Datagram.is c.carry_datagram.ensures.tells
