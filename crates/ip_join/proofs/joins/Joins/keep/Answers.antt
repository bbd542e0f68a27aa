use Rattle.std.proofs.lemmas.Result.{on_ok_weaker}
use Rattle.ip_join.specs.declared.kept.Kept.TheVariants.{Many}
use Rattle.ip_join.proofs.joins.Joins.keep.Goals as goal

pub returns-clause-kept : goal.returns-clause-kept
returns-clause-kept c = on_ok_weaker c.put.result (λ kept. (Many c.in_ok-new.field-0, λ head. c.in_ok-new.ensures.ok, kept)) c.put.ensures.kept
