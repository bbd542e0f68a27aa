use Rattle.flt_code.specs.Owners.{owners_of}
use Rattle.flt_code.proofs.CodeLemmas.{among_plain, among_turned}
use Rattle.flt_code.proofs.code.membership.Goals as goal

pub returns-clause-code : goal.returns-clause-code
returns-clause-code c =
    among_plain (owners_of c.load.new.owners.items) c.args.term.now c.args.choice c.in_ok-register.register c.args.members.now c.in_ok-copied_members.field-0 c.args.negated c.args.code.now.items c.load.new.code.items
    c.emit.new.code.items c.if-negated.false c.in_ok-copied_members.ensures c.in_ok-register.ensures.code c.in_ok-emit.ensures

pub returns-then-negated-clause-code : goal.returns-then-negated-clause-code
returns-then-negated-clause-code c =
    among_turned c.emit-then-negated.result (owners_of c.load.new.owners.items) c.args.term.now c.args.choice c.in_ok-register.register c.args.members.now c.in_ok-copied_members.field-0 c.args.negated
    c.args.code.now.items c.load.new.code.items c.emit.new.code.items c.emit-then-negated.new.code.items c.if-negated.true c.in_ok-copied_members.ensures c.in_ok-register.ensures.code c.in_ok-emit.ensures
    c.emit-then-negated.ensures
