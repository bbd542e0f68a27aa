-- The values of a term in a tree.
use Rattle.std.specs.Prelude.{ℕ, List, [], ◌∷◌, ◌++◌, Option, None}
use Rattle.std.specs.List.{filter_map}
use Rattle.flt_lists.specs.Called.{values_called}
use Rattle.flt_lists.specs.Pairs.{values_calculated}
use Rattle.flt_typed.specs.declared.typed.Term.{Term}
use Rattle.flt_typed.specs.declared.typed.Term.TheVariants as terms
use Rattle.flt_typed.specs.Calls.{masked}
use Rattle.flt_typed.specs.Slices.{sliced}
use Rattle.pk_tree.specs.FieldValues.{values_of}
use Rattle.pk_tree.specs.Trees.{TreeShown}
use Rattle.pk_base.specs.declared.value.Value.{Value}

-- a constant has itself, a field what it has in the chosen layers; a slice has nothing for a value without all its
-- bytes (wireshark-filter(4)); arithmetic has what its pairs give, and arguments have all their values
abbrev pub values_of_term : Term → TreeShown → List Value
values_of_term (terms.Constant constant) tree = constant.value ∷ []
values_of_term (terms.Field field layers) tree = values_of tree field layers
values_of_term (terms.Slice' p term ranges) tree =
    filter_map (λ value. sliced value ranges.items) (values_of_term term tree)
values_of_term (terms.Mask' p term mask) tree =
    filter_map (λ value. masked mask value) (values_of_term term tree)
values_of_term (terms.Called' function p term) tree =
    values_called function (values_of_term term tree)
values_of_term (terms.Computed' a p left q right) tree =
    values_calculated a (values_of_term left tree) (values_of_term right tree)
values_of_term (terms.Arguments' p left q right) tree =
    values_of_term left tree ++ values_of_term right tree

-- the prefix length that a constant is written with
abbrev pub prefix_of_term : Term → Option ℕ
prefix_of_term (terms.Constant constant) = constant.prefix
prefix_of_term term = None
