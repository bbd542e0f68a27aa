use Rattle.std.proofs.Common.{◌+◌, ◌*◌, vec_len}
use Rattle.flt_code.specs.Code.{Adds, Loads}
use Rattle.flt_code.specs.Owners.{Grows, owners_of}
use Rattle.flt_chains.specs.Chains.{Reaches}
use Rattle.flt_chains.specs.Parts.{left_of_term, terms_in}
use Rattle.flt_code.proofs.load.+load.Given as goal

abbrev pub decreases-load : goal.decreases-load
decreases-load l = 6 * terms_in l.term.now + 5

abbrev pub decreases-load_joined : goal.decreases-load_joined
decreases-load_joined l = 6 * terms_in l.term.now + 4

abbrev pub decreases-load_part : goal.decreases-load_part
decreases-load_part l = 6 * terms_in l.term.now + 4

abbrev pub decreases-load_slice : goal.decreases-load_slice
decreases-load_slice l = 6 * terms_in l.inner.now + 7

abbrev pub decreases-load_mask : goal.decreases-load_mask
decreases-load_mask l = 6 * terms_in l.inner.now + 7

abbrev pub decreases-load_call : goal.decreases-load_call
decreases-load_call l = 6 * terms_in l.inner.now + 9

abbrev pub decreases-load_count : goal.decreases-load_count
decreases-load_count l = 6 * terms_in l.inner.now + 8

abbrev pub decreases-load_extreme : goal.decreases-load_extreme
decreases-load_extreme l = 6 * terms_in l.inner.now + 8

abbrev pub decreases-load_each : goal.decreases-load_each
decreases-load_each l = 6 * terms_in l.inner.now + 7

abbrev pub decreases-load_inner : goal.decreases-load_inner
decreases-load_inner l = 6 * terms_in l.inner.now + 6

abbrev pub invariant-load-above : goal.invariant-load-above
invariant-load-above l = record {
  chain : Reaches left_of_term (λ part. Adds (Loads (owners_of l.owners.items) l.fn.extreme part l.register) l.fn.code.items l.code.items) l.fn.term l.above.items;
  grows : Grows (owners_of l.fn.owners.items) (owners_of l.owners.items);
}

abbrev pub decreases-load-above : goal.decreases-load-above
decreases-load-above l = vec_len l.above
