use Rattle.flt_parse.proofs.Moves.{begin_inside}
use Rattle.flt_parse.proofs.steps.begin_test.Goals as goal

pub returns : goal.returns
returns c = begin_inside c.args.outer c.begun.result c.args.kind c.wanted.result c.requires c.begun.ensures c.wanted.ensures
