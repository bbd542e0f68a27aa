use Rattle.std.proofs.Common.{◌∙◌}
use Rattle.cap_stats.proofs.PlaceLemmas.{number_is}
use Rattle.cap_stats.proofs.headers.number_at.Goals as goal

pub returns : goal.returns
returns c = c.number_of.ensures ∙ number_is c.args.outline.now.layers c.args.place c.args.field c.in_ok-value.value c.in_ok-value.ensures
