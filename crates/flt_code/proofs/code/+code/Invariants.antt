use Rattle.std.proofs.Common.{◌≡◌, ◌+◌, ◌*◌, ◌++◌, vec_len}
use Rattle.flt_code.specs.Code.{Adds, IsCode}
use Rattle.flt_code.specs.Owners.{Grows, owners_of}
use Rattle.flt_chains.specs.Chains.{Reaches}
use Rattle.flt_chains.specs.Parts.{filters_in, left_of_filter}
use Rattle.flt_program.specs.Programs.{patterns_of}
use Rattle.flt_program.specs.Sources.{sources_of}
use Rattle.flt_code.proofs.code.+code.Given as goal

abbrev pub decreases-code_for : goal.decreases-code_for
decreases-code_for l = 2 * filters_in l.filter.now + 1

abbrev pub decreases-code_joined : goal.decreases-code_joined
decreases-code_joined l = 2 * filters_in l.filter.now

abbrev pub decreases-code_alone : goal.decreases-code_alone
decreases-code_alone l = 2 * filters_in l.filter.now

abbrev pub invariant-code_for-above : goal.invariant-code_for-above
invariant-code_for-above l = record {
  chain : Reaches left_of_filter (λ part. Adds (IsCode (owners_of l.owners.items) (sources_of l.patterns.items) part) l.fn.code.items l.code.items
      × (sources_of l.patterns.items ≡ sources_of l.fn.patterns.items ++ patterns_of part)) l.fn.filter l.above.items;
  grows : Grows (owners_of l.fn.owners.items) (owners_of l.owners.items);
}

abbrev pub decreases-code_for-above : goal.decreases-code_for-above
decreases-code_for-above l = vec_len l.above
