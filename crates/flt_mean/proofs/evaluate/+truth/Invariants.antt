use Rattle.std.proofs.Common.{◌≡◌, ◌+◌, ◌*◌, vec_len}
use Rattle.flt_chains.specs.Chains.{Reaches}
use Rattle.flt_mean.specs.Meaning.{meaning}
use Rattle.flt_chains.specs.Parts.{filters_in, left_of_filter}
use Rattle.flt_mean.proofs.evaluate.+truth.Given as goal

abbrev pub decreases-is_true : goal.decreases-is_true
decreases-is_true l = 2 * filters_in l.filter.now + 1

abbrev pub decreases-is_joined_true : goal.decreases-is_joined_true
decreases-is_joined_true l = 2 * filters_in l.filter.now

abbrev pub decreases-is_single_true : goal.decreases-is_single_true
decreases-is_single_true l = 2 * filters_in l.filter.now

abbrev pub invariant-is_true-above : goal.invariant-is_true-above
invariant-is_true-above l = Reaches left_of_filter (λ part. l.truth ≡ meaning part l.fn.tree) l.fn.filter l.above.items

abbrev pub decreases-is_true-above : goal.decreases-is_true-above
decreases-is_true-above l = vec_len l.above
