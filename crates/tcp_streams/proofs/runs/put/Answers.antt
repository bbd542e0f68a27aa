use Rattle.std.proofs.lemmas.Result.{on_ok_weaker}
use Rattle.tcp_streams.proofs.RunLemmas.{one_longer, one_apart, one_first}
use Rattle.tcp_streams.proofs.runs.put.Goals as goal

pub returns-then-from-end : goal.returns-then-from-end
returns-then-from-end c = on_ok_weaker c.set.result
    (λ put. one_longer c.args.runs.now.entries c.set.new.runs.entries c.in-Some.start c.in-Some.end c.args.from c.args.to c.max.result c.in-Some.ensures.some c.if-from-end.true c.requires c.max.ensures put)
    c.set.ensures

pub returns-else-from-end : goal.returns-else-from-end
returns-else-from-end c = on_ok_weaker c.set-else-from-end.result
    (λ put. one_apart c.args.runs.now.entries c.set-else-from-end.new.runs.entries c.in-Some.start c.in-Some.end c.args.from c.args.to c.in-Some.ensures.some c.if-from-end.false c.requires put)
    c.set-else-from-end.ensures

pub returns-in-None : goal.returns-in-None
returns-in-None c = on_ok_weaker c.set-in-None.result
    (λ put. one_first c.args.runs.now.entries c.set-in-None.new.runs.entries c.args.from c.args.to c.in-None.ensures.none c.requires put) c.set-in-None.ensures
