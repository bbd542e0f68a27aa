use Rattle.flt_lists.proofs.KeyLemmas.{sorted_same}
use Rattle.flt_lists.proofs.keys.sorted_keys.Goals as goal

pub returns-clause-same : goal.returns-clause-same
returns-clause-same c =
    sorted_same c.args.prefix c.args.values.now c.in_ok-keys.keys.items c.sort_unstable.new.self.items c.in_ok-keys.ensures c.sort_unstable.ensures.permutation
