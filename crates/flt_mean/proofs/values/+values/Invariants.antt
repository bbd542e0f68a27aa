use Rattle.std.proofs.Common.{◌≡◌, ◌+◌, ◌*◌, vec_len}
use Rattle.flt_chains.specs.Chains.{Reaches}
use Rattle.flt_mean.specs.Values.{values_of_term}
use Rattle.flt_chains.specs.Parts.{left_of_term, terms_in}
use Rattle.flt_mean.proofs.values.+values.Given as goal

abbrev pub decreases-values_of_term : goal.decreases-values_of_term
decreases-values_of_term l = 2 * terms_in l.term.now + 1

abbrev pub decreases-values_of_part : goal.decreases-values_of_part
decreases-values_of_part l = 2 * terms_in l.term.now

abbrev pub decreases-values_joined : goal.decreases-values_joined
decreases-values_joined l = 2 * terms_in l.term.now

abbrev pub invariant-values_of_term-above : goal.invariant-values_of_term-above
invariant-values_of_term-above l = Reaches left_of_term (λ part. l.values.items ≡ values_of_term part l.fn.tree) l.fn.term l.above.items

abbrev pub decreases-values_of_term-above : goal.decreases-values_of_term-above
decreases-values_of_term-above l = vec_len l.above
