-- What a filter asks of a tree (wireshark-filter(4)).
use Rattle.std.specs.Prelude.{◌&&◌, ◌||◌, Bool as Truth, true, false, not}
use Rattle.std.specs.List.{list_any}
use Rattle.flt_lists.specs.Passes.{compares, is_some_value, passes}
use Rattle.flt_lists.specs.Questions.{is_among, is_matched}
use Rattle.flt_mean.specs.Values.{values_of_term, prefix_of_term}
use Rattle.flt_typed.specs.declared.typed.Typed.{Typed}
use Rattle.flt_typed.specs.declared.typed.Typed.TheVariants.{Either', Differ', Both', Not', Exists, AnyBit, Compare, Among, Matches}
use Rattle.flt_typed.specs.Calls.{is_nonzero}
use Rattle.pk_tree.specs.Trees.{TreeShown}

abbrev pub opposite : Truth → Truth → Truth
opposite true truth = not truth
opposite false truth = truth

-- whether exactly one of two is true
abbrev pub exactly_one : Truth → Truth → Truth
exactly_one left right = (left || right) && not (left && right)

-- the truth of a filter in a tree
abbrev pub meaning : Typed → TreeShown → Truth
meaning (Either' p left q right) tree = meaning left tree || meaning right tree
meaning (Differ' p left q right) tree = exactly_one (meaning left tree) (meaning right tree)
meaning (Both' p left q right) tree = meaning left tree && meaning right tree
meaning (Not' p filter) tree = not (meaning filter tree)
meaning (Exists term) tree = is_some_value (values_of_term term tree)
meaning (AnyBit term) tree = list_any is_nonzero (values_of_term term tree)
meaning (Compare relation choice left right) tree =
    compares relation choice (values_of_term left tree) (values_of_term right tree)
    (prefix_of_term right)
meaning (Among negated choice term ms) tree =
    opposite negated (passes choice (λ v. is_among ms.items v) (values_of_term term tree))
meaning (Matches choice term pattern) tree =
    passes choice (λ v. is_matched pattern v) (values_of_term term tree)
