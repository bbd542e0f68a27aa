use Rattle.flt_types.proofs.Clear.{members_done}
use Rattle.flt_types.proofs.Lists.{element_fault, more_clear, more_members}
use Rattle.flt_types.proofs.sets.members.Goals as goal
use Rattle.std.proofs.Math.ListN.{drop_of_length-le}

pub returns-clause-ok : goal.returns-clause-ok
returns-clause-ok c =
    members_done c.args.kind c.args.elements.now c.loop-element.element-index c.loop-element.members.items
    (drop_of_length-le c.args.elements.now c.loop-element-test.false) c.loop-element.invariant.members

pub loop-element-preserved : goal.loop-element-preserved
loop-element-preserved c =
    let kind = c.args.kind in
    let elements = c.args.elements.now in
    let i = c.loop-element.element-index in
    record {
      members = more_members kind elements i c.element-item.result c.in-Ok.member c.loop-element.members.items c.push.new.self.items c.loop-element-test.true c.element-item.is
          c.in-Ok.ensures.ok c.in_ok-push-in-Ok.ensures.items c.loop-element.invariant.members;
      rest = more_clear kind elements i c.element-item.result c.in-Ok.member c.loop-element-test.true c.element-item.is c.in-Ok.ensures.ok c.loop-element.invariant.rest;
    }

pub returns-in-Err-clause-err : goal.returns-in-Err-clause-err
returns-in-Err-clause-err c =
    rw c.refused.ensures
    (element_fault c.args.kind c.args.elements.now c.loop-element.element-index c.element-item.result c.in-Err.error c.loop-element-test.true c.element-item.is
    c.loop-element.invariant.rest c.in-Err.ensures.err)
