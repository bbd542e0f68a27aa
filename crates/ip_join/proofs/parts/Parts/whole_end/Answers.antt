use Rattle.std.proofs.Common.{sym, ◌∙◌}
use Rattle.ip_join.proofs.ShortLemmas.{ends_short}
use Rattle.ip_join.proofs.parts.Parts.whole_end.Goals as goal

pub returns-in-Some-clause-short : goal.returns-in-Some-clause-short
returns-in-Some-clause-short c =
    ends_short c.self.inside.counted.items c.self.inside.held c.in-Some.end c.end_if_held.result (sym c.in-Some.is ∙ c.self.invariant.end_is) c.self.invariant.short c.end_if_held.ensures.end
