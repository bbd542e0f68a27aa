use Rattle.std.proofs.Common.{◌≡◌, ◌+◌, ◌*◌, ◌++◌, vec_len}
use Rattle.flt_chains.specs.Chains.{Reaches}
use Rattle.flt_program.specs.Programs.{patterns_of}
use Rattle.flt_program.specs.Sources.{sources_of}
use Rattle.flt_chains.specs.Parts.{filters_in, left_of_filter}
use Rattle.flt_program.proofs.patterns.+patterns.Given as goal

abbrev pub decreases-add_patterns : goal.decreases-add_patterns
decreases-add_patterns l = 2 * filters_in l.filter.now + 1

abbrev pub decreases-add_right : goal.decreases-add_right
decreases-add_right l = 2 * filters_in l.filter.now

abbrev pub decreases-add_single : goal.decreases-add_single
decreases-add_single l = 2 * filters_in l.filter.now

abbrev pub invariant-add_patterns-above : goal.invariant-add_patterns-above
invariant-add_patterns-above l = Reaches left_of_filter (λ part. sources_of l.patterns.items ≡ sources_of l.fn.patterns.items ++ patterns_of part) l.fn.filter l.above.items

abbrev pub decreases-add_patterns-above : goal.decreases-add_patterns-above
decreases-add_patterns-above l = vec_len l.above
