-- What a sign or comma joins, by that of its left part.
use Rattle.std.proofs.Common.{◌≡◌, Bool as Truth, Some, List, ◌&&◌, ◌||◌, ◌++◌, ap, sym, ◌∙◌}
use Rattle.std.proofs.lemmas.Option.{same_Some}
use Rattle.flt_lists.specs.Pairs.{values_calculated}
use Rattle.flt_mean.specs.Joined.{truth_with, values_with}
use Rattle.flt_mean.specs.Meaning.{exactly_one, meaning}
use Rattle.flt_mean.specs.Values.{values_of_term}
use Rattle.flt_chains.specs.Parts.{left_of_filter, left_of_term}
use Rattle.flt_typed.specs.declared.typed.Term.{Term}
use Rattle.flt_typed.specs.declared.typed.Term.TheVariants as terms
use Rattle.flt_typed.specs.declared.typed.Typed.{Typed}
use Rattle.flt_typed.specs.declared.typed.Typed.TheVariants.{Either', Differ', Both'}
use Rattle.pk_tree.specs.Trees.{TreeShown}
use Rattle.pk_base.specs.declared.value.Value.{Value}

with_left : (tree : TreeShown) (filter part : Typed) → left_of_filter filter ≡ Some part → truth_with filter (meaning part tree) tree ≡ meaning filter tree
with_left tree (Either' p left q right) part is = ap (λ x. meaning x tree || meaning right tree) (sym (same_Some left part is))
with_left tree (Differ' p left q right) part is = ap (λ x. exactly_one (meaning x tree) (meaning right tree)) (sym (same_Some left part is))
with_left tree (Both' p left q right) part is = ap (λ x. meaning x tree && meaning right tree) (sym (same_Some left part is))
with_left tree filter part is = cc

pub truth_up : (tree : TreeShown) (filter : Typed) (truth new : Truth) → new ≡ truth_with filter truth tree →
    (part : Typed) → left_of_filter filter ≡ Some part → truth ≡ meaning part tree → new ≡ meaning filter tree
truth_up tree filter truth new by part is first = by ∙ ap (λ x. truth_with filter x tree) first ∙ with_left tree filter part is

behind_left : (tree : TreeShown) (term part : Term) → left_of_term term ≡ Some part → values_with term (values_of_term part tree) tree ≡ values_of_term term tree
behind_left tree (terms.Computed' a p left q right) part is = ap (λ x. values_calculated a (values_of_term x tree) (values_of_term right tree)) (sym (same_Some left part is))
behind_left tree (terms.Arguments' p left q right) part is = ap (λ x. values_of_term x tree ++ values_of_term right tree) (sym (same_Some left part is))
behind_left tree term part is = cc

pub values_up : (tree : TreeShown) (term : Term) (values new : List Value) → new ≡ values_with term values tree →
    (part : Term) → left_of_term term ≡ Some part → values ≡ values_of_term part tree → new ≡ values_of_term term tree
values_up tree term values new by part is first = by ∙ ap (λ x. values_with term x tree) first ∙ behind_left tree term part is
