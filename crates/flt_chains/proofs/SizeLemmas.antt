-- A part of a chain has no more parts than the whole.
use Rattle.std.proofs.Common.{◌≡◌, ◌≤◌, ◌<◌, Bor, List, Some, ap, arith}
use Rattle.std.proofs.lemmas.Option.{same_Some}
use Rattle.flt_chains.specs.Chains.{Stands}
use Rattle.flt_chains.specs.Parts.{filters_in, left_of_filter, left_of_operand, left_of_term, left_of_tree, operands_in, terms_in, trees_in}
use Rattle.flt_syntax.specs.declared.ast.Ast.{Ast}
use Rattle.flt_syntax.specs.declared.ast.Ast.TheVariants as trees
use Rattle.flt_syntax.specs.declared.ast.Operand.{Operand}
use Rattle.flt_syntax.specs.declared.ast.Operand.TheVariants as operands
use Rattle.flt_typed.specs.declared.typed.Term.{Term}
use Rattle.flt_typed.specs.declared.typed.Term.TheVariants as terms
use Rattle.flt_typed.specs.declared.typed.Typed.{Typed}
use Rattle.flt_typed.specs.declared.typed.Typed.TheVariants as filters
use Rattle.flt_chains.proofs.ChainLemmas.{part_size}

operand_smaller : (a b : Operand) → left_of_operand a ≡ Some b → operands_in b < operands_in a
operand_smaller (operands.Computed' a at p l q r) b is = let e = ap operands_in (same_Some l b is) in omega (arith, e)
operand_smaller (operands.Arguments' p l q r) b is = let e = ap operands_in (same_Some l b is) in omega (arith, e)
operand_smaller a b is = cc

tree_smaller : (a b : Ast) → left_of_tree a ≡ Some b → trees_in b < trees_in a
tree_smaller (trees.Or' p l q r) b is = let e = ap trees_in (same_Some l b is) in omega (arith, e)
tree_smaller (trees.Xor' p l q r) b is = let e = ap trees_in (same_Some l b is) in omega (arith, e)
tree_smaller (trees.And' p l q r) b is = let e = ap trees_in (same_Some l b is) in omega (arith, e)
tree_smaller a b is = cc

term_smaller : (a b : Term) → left_of_term a ≡ Some b → terms_in b < terms_in a
term_smaller (terms.Computed' a p left q right) b is = let e = ap terms_in (same_Some left b is) in omega (arith, e)
term_smaller (terms.Arguments' p left q right) b is = let e = ap terms_in (same_Some left b is) in omega (arith, e)
term_smaller a b is = cc

filter_smaller : (a b : Typed) → left_of_filter a ≡ Some b → filters_in b < filters_in a
filter_smaller (filters.Either' p left q right) b is = let e = ap filters_in (same_Some left b is) in omega (arith, e)
filter_smaller (filters.Differ' p left q right) b is = let e = ap filters_in (same_Some left b is) in omega (arith, e)
filter_smaller (filters.Both' p left q right) b is = let e = ap filters_in (same_Some left b is) in omega (arith, e)
filter_smaller a b is = cc

pub operand_within : (whole : Operand) (ns : List (Bor Operand)) (part : Operand) → Stands left_of_operand whole ns part → operands_in part ≤ operands_in whole
operand_within whole ns part s = part_size left_of_operand operands_in operand_smaller whole ns part s

pub tree_within : (whole : Ast) (ns : List (Bor Ast)) (part : Ast) → Stands left_of_tree whole ns part → trees_in part ≤ trees_in whole
tree_within whole ns part s = part_size left_of_tree trees_in tree_smaller whole ns part s

pub term_within : (whole : Term) (ns : List (Bor Term)) (part : Term) → Stands left_of_term whole ns part → terms_in part ≤ terms_in whole
term_within whole ns part s = part_size left_of_term terms_in term_smaller whole ns part s

pub filter_within : (whole : Typed) (ns : List (Bor Typed)) (part : Typed) → Stands left_of_filter whole ns part → filters_in part ≤ filters_in whole
filter_within whole ns part s = part_size left_of_filter filters_in filter_smaller whole ns part s
