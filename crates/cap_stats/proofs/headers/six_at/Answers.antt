use Rattle.std.proofs.Common.{◌∙◌}
use Rattle.cap_stats.proofs.PlaceLemmas.{six_is}
use Rattle.cap_stats.proofs.headers.six_at.Goals as goal

pub returns : goal.returns
returns c = c.six_of.ensures ∙ six_is c.args.outline.now.layers c.args.place c.args.field c.in_ok-value.value c.in_ok-value.ensures
