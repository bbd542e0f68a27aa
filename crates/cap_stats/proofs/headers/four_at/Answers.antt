use Rattle.std.proofs.Common.{◌∙◌}
use Rattle.cap_stats.proofs.PlaceLemmas.{four_is}
use Rattle.cap_stats.proofs.headers.four_at.Goals as goal

pub returns : goal.returns
returns c = c.four_of.ensures ∙ four_is c.args.outline.now.layers c.args.place c.args.field c.in_ok-value.value c.in_ok-value.ensures
