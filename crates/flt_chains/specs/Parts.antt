-- What stands to the left of the outermost sign or comma, and how many parts there are.
use Rattle.std.specs.Prelude.{ℕ, ◌+◌, Option, Some, None}
use Rattle.flt_syntax.specs.declared.ast.Ast.{Ast}
use Rattle.flt_syntax.specs.declared.ast.Ast.TheVariants as trees
use Rattle.flt_syntax.specs.declared.ast.Operand.{Operand}
use Rattle.flt_syntax.specs.declared.ast.Operand.TheVariants as operands
use Rattle.flt_typed.specs.declared.typed.Term.{Term}
use Rattle.flt_typed.specs.declared.typed.Term.TheVariants as terms
use Rattle.flt_typed.specs.declared.typed.Typed.{Typed}
use Rattle.flt_typed.specs.declared.typed.Typed.TheVariants as filters

abbrev pub left_of_operand : Operand → Option Operand
left_of_operand (operands.Computed' a at p l q r) = Some l
left_of_operand (operands.Arguments' p l q r) = Some l
left_of_operand operand = None

abbrev pub left_of_tree : Ast → Option Ast
left_of_tree (trees.Or' p l q r) = Some l
left_of_tree (trees.Xor' p l q r) = Some l
left_of_tree (trees.And' p l q r) = Some l
left_of_tree tree = None

abbrev pub left_of_term : Term → Option Term
left_of_term (terms.Computed' a p left q right) = Some left
left_of_term (terms.Arguments' p left q right) = Some left
left_of_term term = None

abbrev pub left_of_filter : Typed → Option Typed
left_of_filter (filters.Either' p left q right) = Some left
left_of_filter (filters.Differ' p left q right) = Some left
left_of_filter (filters.Both' p left q right) = Some left
left_of_filter filter = None

abbrev pub operands_in : Operand → ℕ
operands_in (operands.Sliced' p o at rs) = operands_in o + 1
operands_in (operands.Masked' p o at w) = operands_in o + 1
operands_in (operands.Called' f at p o) = operands_in o + 1
operands_in (operands.Computed' a at p l q r) = operands_in l + operands_in r + 1
operands_in (operands.Arguments' p l q r) = operands_in l + operands_in r + 1
operands_in operand = 0

abbrev pub trees_in : Ast → ℕ
trees_in (trees.Or' p l q r) = trees_in l + trees_in r + 1
trees_in (trees.Xor' p l q r) = trees_in l + trees_in r + 1
trees_in (trees.And' p l q r) = trees_in l + trees_in r + 1
trees_in (trees.Not' n p t) = trees_in t + 1
trees_in (trees.Group' p t) = trees_in t + 1
trees_in tree = 0

abbrev pub terms_in : Term → ℕ
terms_in (terms.Slice' p term ranges) = terms_in term + 1
terms_in (terms.Mask' p term mask) = terms_in term + 1
terms_in (terms.Called' function p term) = terms_in term + 1
terms_in (terms.Computed' a p left q right) = terms_in left + terms_in right + 1
terms_in (terms.Arguments' p left q right) = terms_in left + terms_in right + 1
terms_in term = 0

abbrev pub filters_in : Typed → ℕ
filters_in (filters.Either' p left q right) = filters_in left + filters_in right + 1
filters_in (filters.Differ' p left q right) = filters_in left + filters_in right + 1
filters_in (filters.Both' p left q right) = filters_in left + filters_in right + 1
filters_in (filters.Not' p filter) = filters_in filter + 1
filters_in filter = 0
