use Rattle.std.proofs.Common.{List, sym, ap, ◌∙◌}
use Rattle.ip_join.specs.declared.fragment.Fragment.{Fragment}
use Rattle.ip_join.specs.Datagrams.{has_two_ends}
use Rattle.ip_join.proofs.KeptLemmas.{two_ends}
use Rattle.ip_join.proofs.parts.Parts.has_two_ends.Goals as goal

pub returns-then-not-new : goal.returns-then-not-new
returns-then-not-new c =
    two_ends c.self.inside.counted.items c.args.new.now c.self.inside.end c.end.result c.self.inside.last c.self.invariant.end_is c.self.invariant.last_is
    (sym c.misses_end.ensures ∙ c.if-misses_end.false) c.if-not-new.true c.end.ensures
    ∙ ap (λ (gs : List Fragment). has_two_ends gs c.args.new.now) c.self.view_is
