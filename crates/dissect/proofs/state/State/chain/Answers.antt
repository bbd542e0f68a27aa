use Rattle.std.proofs.Common.{arith, rules}
use Rattle.dissect.proofs.Chains.{goes-first, goes-on, goes-done, goes-rest}
use Rattle.dissect.proofs.Opens.{adds-none, adds-both, adds-on, adds-most, kept-most, room-now, room-on}
use Rattle.dissect.proofs.Spaces.{space_now, space_on}
use Rattle.dissect.proofs.state.State.chain.Goals as goal

pub loop-todo-init : goal.loop-todo-init
loop-todo-init c = record {
  goes = goes-first c.args.rules.now c.args.frame.now c.args.most c.args.self.now c.args.tree.now c.args.first;
  inside = c.requires.inside;
  adds = λ before bytes adds. adds;
  room = c.requires.few;
  space = c.requires.space;
}

pub returns-then-left-eq0 : goal.returns-then-left-eq0
returns-then-left-eq0 c = record {
  walked = goes-rest c.args.rules.now c.args.frame.now c.args.most c.args.self.now c.args.tree.now c.args.first c.loop-todo.left c.loop-todo.self c.loop-todo.tree c.loop-todo.todo c.in-Head.head c.rest.new.self c.rest.new.tree _ (search rules) (search rules) c.loop-todo.invariant.goes (c.in_ok-rest.ensures.walked c.args.rules.now);
  added = λ before bytes adds.
      adds-both before c.loop-todo.self _ (adds-none bytes before c.loop-todo.self c.loop-todo.todo c.in-Head.head (search rules) (c.loop-todo.invariant.adds before bytes adds)).0 c.rest.ensures.added;
  kept = λ before bytes adds.
      omega (
        arith,
        (adds-none bytes before c.loop-todo.self c.loop-todo.todo c.in-Head.head (search rules) (c.loop-todo.invariant.adds before bytes adds)).1,
        kept-most 0 c.loop-todo.self c.rest.new.self _ c.in_ok-rest.ensures.adds,
      );
}

pub loop-todo-preserved : goal.loop-todo-preserved
loop-todo-preserved c =
    let now = room-now c.loop-todo.self c.loop-todo.todo c.in-Head.head (search rules) c.loop-todo.invariant.room in
    let space = space_now c.loop-todo.left c.loop-todo.tree c.loop-todo.todo c.in-Head.head (search rules) c.loop-todo.invariant.space in
    record {
      goes = goes-on c.args.rules.now c.args.frame.now c.args.most c.args.self.now c.args.tree.now c.args.first c.loop-todo.left c.loop-todo.self c.loop-todo.tree c.loop-todo.todo c.in-Head.head c.head.new.self c.head.new.tree c.in_ok-todo.todo (search rules) (search rules) c.loop-todo.invariant.goes c.in_ok-todo.ensures.walked;
      inside = c.in_ok-todo.ensures.inside;
      adds = λ before bytes adds. adds-on bytes before c.loop-todo.self c.head.new.self c.loop-todo.todo c.in_ok-todo.todo c.in-Head.head (search rules) (c.loop-todo.invariant.adds before bytes adds) c.in_ok-todo.ensures.adds;
      room = room-on c.in-Head.head.span.len c.loop-todo.self c.head.new.self c.in_ok-todo.todo now c.in_ok-todo.ensures.adds;
      space = space_on c.loop-todo.left c.loop-todo.tree c.head.new.tree c.in_ok-todo.todo (search rules) space.0 space.1 c.in_ok-todo.ensures.few;
    }

pub returns : goal.returns
returns c = record {
  walked = goes-done c.args.rules.now c.args.frame.now c.args.most c.args.self.now c.args.tree.now c.args.first c.loop-todo.left c.loop-todo.self c.loop-todo.tree c.loop-todo.todo (search rules) c.loop-todo.invariant.goes;
  added = λ before bytes adds. adds-most bytes before c.loop-todo.self c.loop-todo.todo (c.loop-todo.invariant.adds before bytes adds);
  kept = λ before bytes adds. kept-most bytes before c.loop-todo.self c.loop-todo.todo (c.loop-todo.invariant.adds before bytes adds);
}

pub returns-in_err-rest-clause-added : goal.returns-in_err-rest-clause-added
returns-in_err-rest-clause-added c = λ before bytes adds.
    adds-both before c.loop-todo.self _ (adds-none bytes before c.loop-todo.self c.loop-todo.todo c.in-Head.head (search rules) (c.loop-todo.invariant.adds before bytes adds)).0 c.rest.ensures.added

pub returns-in_err-todo-clause-added : goal.returns-in_err-todo-clause-added
returns-in_err-todo-clause-added c = λ before bytes adds.
    adds-both before c.loop-todo.self _ (adds-none bytes before c.loop-todo.self c.loop-todo.todo c.in-Head.head (search rules) (c.loop-todo.invariant.adds before bytes adds)).0 c.head.ensures.added

pub rest-requires-clause-room : goal.rest-requires-clause-room
rest-requires-clause-room c =
    let space = space_now c.loop-todo.left c.loop-todo.tree c.loop-todo.todo c.in-Head.head (search rules) c.loop-todo.invariant.space in
    omega (arith, space.0)

pub head-requires-clause-ready : goal.head-requires-clause-ready
head-requires-clause-ready c =
    let space = space_now c.loop-todo.left c.loop-todo.tree c.loop-todo.todo c.in-Head.head (search rules) c.loop-todo.invariant.space in
    record {
      state = room-now c.loop-todo.self c.loop-todo.todo c.in-Head.head (search rules) c.loop-todo.invariant.room;
      layers = omega (arith, space.0);
      buffers = omega (arith, space.1);
    }
