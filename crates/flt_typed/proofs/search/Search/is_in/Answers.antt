use Rattle.std.proofs.Common.{arith}
use Rattle.flt_typed.proofs.Compiled.{finds_matches}
use Rattle.flt_typed.proofs.search.Search.is_in.Goals as goal

pub returns-clause-found : goal.returns-clause-found
returns-clause-found c =
    rw (c.is_match.ensures.found, c.self.invariant.pattern, ← c.self.view_is)
    (finds_matches c.args.bytes.now (λ k. let fits = c.type_inv.bytes k in omega (arith, fits)) _ c.self.invariant.ours)
