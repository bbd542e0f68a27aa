use Rattle.flt_code.specs.Owners.{owners_of}
use Rattle.flt_code.proofs.CodeLemmas.{joins_put}
use Rattle.flt_code.proofs.code.comparison.Goals as goal
use Rattle.flt_program.specs.declared.instr.Instr.TheVariants as instr

pub returns-clause-code : goal.returns-clause-code
returns-clause-code c =
    joins_put c.emit.result (owners_of c.load.new.owners.items) (owners_of c.load-2.new.owners.items) c.args.left.now c.args.right.now (λ l r. instr.Test c.args.choice c.args.relation l r) c.in_ok-left.left
    c.in_ok-right.right c.args.code.now.items c.load.new.code.items c.load-2.new.code.items c.emit.new.code.items c.in_ok-left.ensures.code c.in_ok-right.ensures.grows c.in_ok-right.ensures.code c.emit.ensures
