use Rattle.std.proofs.Common.{◌≤◌, length, ap, ◌∙◌, arith}
use Rattle.run_frames.proofs.TotalsLemmas.{counted, same_length}
use Rattle.run_frames.proofs.totals.headers_in.Goals as goal

pub returns-clause-count : goal.returns-clause-count
returns-clause-count c = c.count_in.ensures.count ∙ counted c.args.proto c.headers.result.now c.args.outline.now.layers c.headers.ensures

pub returns-clause-few : goal.returns-clause-few
returns-clause-few c = omega (arith, c.count_in.ensures.most, same_length c.headers.result.now c.args.outline.now.layers c.headers.ensures, c.fits.ensures.count)
