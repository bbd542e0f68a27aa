-- What a sign or comma joins, by that of its left part.
use Rattle.std.specs.Prelude.{◌&&◌, ◌||◌, Bool as Truth, List, ◌++◌}
use Rattle.flt_lists.specs.Pairs.{values_calculated}
use Rattle.flt_mean.specs.Meaning.{exactly_one, meaning}
use Rattle.flt_mean.specs.Values.{values_of_term}
use Rattle.flt_typed.specs.declared.typed.Term.{Term}
use Rattle.flt_typed.specs.declared.typed.Term.TheVariants as terms
use Rattle.flt_typed.specs.declared.typed.Typed.{Typed}
use Rattle.flt_typed.specs.declared.typed.Typed.TheVariants.{Either', Differ', Both'}
use Rattle.pk_tree.specs.Trees.{TreeShown}
use Rattle.pk_base.specs.declared.value.Value.{Value}

-- the truth of two filters
abbrev pub truth_with : Typed → Truth → TreeShown → Truth
truth_with (Either' p left q right) truth tree = truth || meaning right tree
truth_with (Differ' p left q right) truth tree = exactly_one truth (meaning right tree)
truth_with (Both' p left q right) truth tree = truth && meaning right tree
truth_with filter truth tree = truth

-- the values of two terms
abbrev pub values_with : Term → List Value → TreeShown → List Value
values_with (terms.Computed' a p left q right) values tree =
    values_calculated a values (values_of_term right tree)
values_with (terms.Arguments' p left q right) values tree = values ++ values_of_term right tree
values_with term values tree = values
