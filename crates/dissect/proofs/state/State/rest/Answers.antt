use Rattle.std.proofs.Common.{refl}
use Rattle.dissect.specs.declared.todo.Todo.TheVariants as todos
use Rattle.app_layers.specs.DataLayer.{data_over}
use Rattle.dissect.proofs.Told.{told_same}
use Rattle.dissect.proofs.state.State.rest.Goals as goal

pub returns-clause-walked : goal.returns-clause-walked
returns-clause-walked c = λ rules es stands. record {
  stands = stands;
  tree = told_same c.args.self.now todos.Done (data_over c.args.tree.now c.args.span) c.add_data.new.tree c.in_ok-add_data.ensures.tree;
  todo = refl;
}
