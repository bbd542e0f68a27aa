use Rattle.std.proofs.Common.{arith}
use Rattle.flt_code.specs.Owners.{owners_of}
use Rattle.flt_program.specs.Sources.{sources_of}
use Rattle.flt_code.proofs.CodeLemmas.{matches_put, pattern_last}
use Rattle.flt_code.proofs.code.search.Goals as goal

pub returns-clause-code : goal.returns-clause-code
returns-clause-code c =
    let at = pattern_last c.args.patterns.now.items c.push.new.self.items c.args.pattern c.len-number.result c.in_ok-push.ensures.items (omega (arith, c.len-number.ensures, c.args.patterns.now.ok.0)) in
    matches_put c.emit.result (owners_of c.load.new.owners.items) (sources_of c.push.new.self.items) c.args.term.now c.args.pattern.now c.args.choice c.len-number.result c.in_ok-register.register c.args.code.now.items
    c.load.new.code.items c.emit.new.code.items at c.in_ok-register.ensures.code c.emit.ensures
