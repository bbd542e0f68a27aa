use Rattle.std.proofs.Common.{List, sum_by, ap, arith}
use Rattle.std.specs.Map.{values_of}
use Rattle.ip_join.specs.declared.kept.Kept.{Kept}
use Rattle.ip_join.specs.declared.key.FourKey.{FourKey}
use Rattle.ip_join.specs.declared.key.WideKey.{WideKey}
use Rattle.ip_join.specs.Forms.{bytes_kept}
use Rattle.ip_join.specs.Waiting.{bytes_waiting}
use Rattle.ip_join.proofs.joins.Joins.new.Goals as goal

pub returns-clause-waiting : goal.returns-clause-waiting
unfolding bytes_waiting
returns-clause-waiting c = omega (
  arith,
  ap (λ (es : List (FourKey × Kept)). sum_by bytes_kept (values_of es)) c.new.ensures.empty,
  ap (λ (es : List (WideKey × Kept)). sum_by bytes_kept (values_of es)) c.new-2.ensures.empty,
)
