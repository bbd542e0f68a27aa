use Rattle.std.proofs.Common.{◌+◌, ◌*◌, vec_len}
use Rattle.flt_chains.specs.Chains.{Reaches}
use Rattle.flt_chains.specs.Parts.{left_of_tree, trees_in}
use Rattle.flt_syntax.specs.Written.{written}
use Rattle.flt_typing.specs.Typing.{HasType}
use Rattle.flt_types.proofs.typing.+filters.Given as goal

abbrev pub decreases-typed : goal.decreases-typed
decreases-typed l = 3 * trees_in l.ast.now + 1

abbrev pub decreases-single : goal.decreases-single
decreases-single l = 3 * trees_in l.ast.now

abbrev pub decreases-negated : goal.decreases-negated
decreases-negated l = 3 * trees_in l.ast.now + 2

abbrev pub decreases-with : goal.decreases-with
decreases-with l = 3 * trees_in l.ast.now

abbrev pub decreases-joined : goal.decreases-joined
decreases-joined l = 3 * trees_in l.ast.now + 2

abbrev pub invariant-typed-above : goal.invariant-typed-above
invariant-typed-above l = Reaches left_of_tree (λ part. HasType (written part) l.filter) l.fn.ast l.above.items

abbrev pub decreases-typed-above : goal.decreases-typed-above
decreases-typed-above l = vec_len l.above
