use Rattle.std.proofs.Common.{refl, arith}
use Rattle.pk_base.specs.declared.heads.After.TheVariants as afters
use Rattle.dissect.specs.declared.todo.Todo.TheVariants as todos
use Rattle.dissect.proofs.Opens.{ready-at}
use Rattle.dissect.proofs.Spaces.{few_all, few_same}
use Rattle.dissect.specs.Walks.{followed, go_on, stop}
use Rattle.dissect.proofs.Told.{walked_same}
use Rattle.dissect.proofs.state.State.follow.Goals as goal

pub returns-in-Next-clause-walked : goal.returns-in-Next-clause-walked
unfolding followed
returns-in-Next-clause-walked c = rw c.in-Next.is
    (λ es stands. walked_same c.args.rules.now (go_on c.args.tree.now es (record { which = c.in-Next.which; span = c.in-Next.span; packet = c.args.packet.now; mode = c.args.mode })) c.args.self.now c.args.tree.now _ stands refl refl)

pub returns-in-Packet-clause-walked : goal.returns-in-Packet-clause-walked
unfolding followed
returns-in-Packet-clause-walked c = rw c.in-Packet.is
    (λ es stands. walked_same c.args.rules.now (go_on c.args.tree.now es (record { which = c.in-Packet.which; span = c.in-Packet.span; packet = c.in-Packet.packet; mode = c.args.mode })) c.args.self.now c.args.tree.now _ stands refl refl)

pub returns-in-End-clause-walked : goal.returns-in-End-clause-walked
unfolding followed
returns-in-End-clause-walked c = rw c.in-End.is
    (λ es stands. walked_same c.args.rules.now (stop c.args.tree.now es) c.args.self.now c.args.tree.now todos.Done stands refl refl)

pub returns-in-Datagram-clause-walked : goal.returns-in-Datagram-clause-walked
unfolding followed
returns-in-Datagram-clause-walked c = rw c.in-Datagram.is
    c.datagram.ensures.walked

pub returns-in-Fragment-clause-few : goal.returns-in-Fragment-clause-few
returns-in-Fragment-clause-few c = few_all 4 2 c.args.tree.now c.fragment.new.tree c.fragment.result (omega arith) c.fragment.ensures.buffers c.fragment.ensures.most

pub returns-in-Datagram-clause-few : goal.returns-in-Datagram-clause-few
returns-in-Datagram-clause-few c = few_same 4 4 c.args.tree.now c.datagram.new.tree c.datagram.result (omega arith) c.datagram.ensures.buffers c.datagram.ensures.most

pub fragment-requires-clause-ready : goal.fragment-requires-clause-ready
fragment-requires-clause-ready c = ready-at 2 4 c.args.self.now c.args.tree.now c.args.after.now (afters.Fragment c.in-Fragment.head c.in-Fragment.span) (omega arith) c.in-Fragment.is c.requires.ready

pub datagram-requires-clause-ready : goal.datagram-requires-clause-ready
datagram-requires-clause-ready c = ready-at 4 4 c.args.self.now c.args.tree.now c.args.after.now (afters.Datagram c.in-Datagram.head c.in-Datagram.span) (omega arith) c.in-Datagram.is c.requires.ready

pub segment-requires-clause-ready : goal.segment-requires-clause-ready
segment-requires-clause-ready c = ready-at 2 4 c.args.self.now c.args.tree.now c.args.after.now (afters.Segment c.in-Segment.head c.in-Segment.span) (omega arith) c.in-Segment.is c.requires.ready

pub returns-in-Fragment-clause-adds : goal.returns-in-Fragment-clause-adds
returns-in-Fragment-clause-adds c = rw c.in-Fragment.is c.fragment.ensures.adds

pub returns-in-Datagram-clause-adds : goal.returns-in-Datagram-clause-adds
returns-in-Datagram-clause-adds c = rw c.in-Datagram.is c.datagram.ensures.adds

pub returns-in-Segment-clause-adds : goal.returns-in-Segment-clause-adds
returns-in-Segment-clause-adds c = rw c.in-Segment.is c.segment.ensures.adds
