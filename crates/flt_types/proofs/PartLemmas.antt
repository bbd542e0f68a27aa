-- The parts of operands and of trees, one after the other.
use Rattle.std.proofs.Common.{◌≡◌, ℕ, true, List, ◌++◌, Some, None, ap, sym, subst, Bor}
use Rattle.std.proofs.lemmas.Option.{same_Some}
use Rattle.flt_chains.specs.Chains.{Stands}
use Rattle.flt_chains.specs.Parts.{left_of_operand, left_of_tree}
use Rattle.flt_syntax.specs.Written.{WrittenOperand, ComputedOf, ArgumentsOf, JoinedOf, operand_of, written}
use Rattle.flt_syntax.specs.declared.ast.Arithmetic.{Arithmetic}
use Rattle.flt_syntax.specs.declared.ast.Ast.{Ast}
use Rattle.flt_syntax.specs.declared.ast.Ast.TheVariants.{Or', Xor', And'}
use Rattle.flt_syntax.specs.declared.ast.Operand.{Operand}
use Rattle.flt_syntax.specs.declared.ast.Operand.TheVariants.{Computed', Arguments'}
use Rattle.flt_syntax.specs.declared.fault.FilterError.{FilterError}
use Rattle.flt_syntax.specs.declared.fault.FilterReason.TheVariants.{TypeMismatch}
use Rattle.flt_typing.specs.Terms.{IsTerm, kind_of}
use Rattle.flt_typing.specs.declared.standing.Standing.{Standing}
use Rattle.flt_typing.specs.declared.standing.Standing.TheVariants.{Free}
use Rattle.flt_typed.specs.declared.typed.Term.{Term}
use Rattle.flt_syntax.specs.declared.token.Join.TheVariants as joins
use Rattle.flt_types.specs.Faults.{IsAnswer, faults, given, kind_written, number_faults, operand_faults}
use Rattle.flt_types.specs.Operands.{tree_with, with_left}
use Rattle.flt_types.specs.Blame.{by_itself, sign_for}
use Rattle.flt_types.specs.declared.position.Side.{Side}
use Rattle.flt_types.proofs.Answers.{answer_left, answer_right, clear_unless}
use Rattle.flt_types.proofs.Clear.{behind, behind_clear, term_clear}
use Rattle.flt_typed.specs.Kinds.{is_number}
use Rattle.flt_chains.proofs.ChainLemmas.{rises}

-- arithmetic: the left side's own faults, then its sign's; the right side's own, then its sign's
pub left_part : (side : Side) (s : Standing) (a : Arithmetic) (at : ℕ) (o r : WrittenOperand) (e : FilterError) → IsAnswer (operand_faults side s o) e
    → IsAnswer (operand_faults side s (ComputedOf a at o r)) e
left_part side s a at o r e h =
    let first = given (kind_written s o) (number_faults (sign_for s at)) in
    let other = given (kind_written (Free (Some at)) r) (number_faults at) in
    answer_left (operand_faults side s o ++ first) (operand_faults (by_itself side) (Free (Some at)) r ++ other) e (answer_left (operand_faults side s o) first e h)

pub left_number : (side : Side) (s : Standing) (a : Arithmetic) (at : ℕ) (o r : WrittenOperand) (left : Term) (e : FilterError) → IsTerm s o left
    → IsAnswer (number_faults (sign_for s at) (kind_of left)) e → IsAnswer (operand_faults side s (ComputedOf a at o r)) e
left_number side s a at o r left e is h =
    let first = number_faults (sign_for s at) in
    let other = given (kind_written (Free (Some at)) r) (number_faults at) in
    answer_left (operand_faults side s o ++ given (kind_written s o) first) (operand_faults (by_itself side) (Free (Some at)) r ++ other) e (behind side s o left first e is h)

behind_left : (side : Side) (s : Standing) (a : Arithmetic) (at : ℕ) (o r : WrittenOperand) (left : Term) (e : FilterError) → IsTerm s o left → is_number (kind_of left) ≡ true
    → IsAnswer (operand_faults (by_itself side) (Free (Some at)) r ++ given (kind_written (Free (Some at)) r) (number_faults at)) e → IsAnswer (operand_faults side s (ComputedOf a at o r)) e
behind_left side s a at o r left e is number h =
    let first = number_faults (sign_for s at) in
    let other = given (kind_written (Free (Some at)) r) (number_faults at) in
    answer_right (operand_faults side s o ++ given (kind_written s o) first) (operand_faults (by_itself side) (Free (Some at)) r ++ other) e
    (behind_clear side s o left first is (clear_unless (is_number (kind_of left)) (sign_for s at) TypeMismatch number)) h

pub right_part : (side : Side) (s : Standing) (a : Arithmetic) (at : ℕ) (o r : WrittenOperand) (left : Term) (e : FilterError) → IsTerm s o left → is_number (kind_of left) ≡ true
    → IsAnswer (operand_faults (by_itself side) (Free (Some at)) r) e → IsAnswer (operand_faults side s (ComputedOf a at o r)) e
right_part side s a at o r left e is number h =
    behind_left side s a at o r left e is number (answer_left (operand_faults (by_itself side) (Free (Some at)) r) (given (kind_written (Free (Some at)) r) (number_faults at)) e h)

pub right_number : (side : Side) (s : Standing) (a : Arithmetic) (at : ℕ) (o r : WrittenOperand) (left right : Term) (e : FilterError) → IsTerm s o left → is_number (kind_of left) ≡ true
    → IsTerm (Free (Some at)) r right → IsAnswer (number_faults at (kind_of right)) e → IsAnswer (operand_faults side s (ComputedOf a at o r)) e
right_number side s a at o r left right e is number other h =
    behind_left side s a at o r left e is number (behind (by_itself side) (Free (Some at)) r right (number_faults at) e other h)

-- a further argument
pub next_argument : (side : Side) (s : Standing) (o r : WrittenOperand) (left : Term) (e : FilterError) → IsTerm s o left → IsAnswer (operand_faults (by_itself side) (Free None) r) e
    → IsAnswer (operand_faults side s (ArgumentsOf o r)) e
next_argument side s o r left e is h = answer_right (operand_faults side s o) (operand_faults (by_itself side) (Free None) r) e (term_clear side s o left is) h

-- the fault of a left part is that of the whole
left_fault : (side : Side) (s : Standing) (e : FilterError) (o part : Operand) → left_of_operand o ≡ Some part → IsAnswer (operand_faults side s (operand_of part)) e
    → IsAnswer (operand_faults side s (operand_of o)) e
left_fault side s e (Computed' a at p l q r) part is h =
    left_part side s a at (operand_of l) (operand_of r) e (subst (λ x. IsAnswer (operand_faults side s (operand_of x)) e) (sym (same_Some l part is)) h)
left_fault side s e (Arguments' p l q r) part is h =
    answer_left (operand_faults side s (operand_of l)) (operand_faults (by_itself side) (Free None) (operand_of r)) e
    (subst (λ x. IsAnswer (operand_faults side s (operand_of x)) e) (sym (same_Some l part is)) h)
left_fault side s e o part is h = cc

pub fault_of_whole : (side : Side) (s : Standing) (e : FilterError) (ns : List (Bor Operand)) (whole part : Operand) → Stands left_of_operand whole ns part
    → IsAnswer (operand_faults side s (operand_of part)) e → IsAnswer (operand_faults side s (operand_of whole)) e
fault_of_whole side s e ns whole part stands h =
    rises left_of_operand (λ o. IsAnswer (operand_faults side s (operand_of o)) e) (left_fault side s e) whole ns part stands h

tree_fault : (e : FilterError) (t part : Ast) → left_of_tree t ≡ Some part → IsAnswer (faults (written part)) e → IsAnswer (faults (written t)) e
tree_fault e (Or' p l q r) part is h = answer_left (faults (written l)) (faults (written r)) e (subst (λ x. IsAnswer (faults (written x)) e) (sym (same_Some l part is)) h)
tree_fault e (Xor' p l q r) part is h = answer_left (faults (written l)) (faults (written r)) e (subst (λ x. IsAnswer (faults (written x)) e) (sym (same_Some l part is)) h)
tree_fault e (And' p l q r) part is h = answer_left (faults (written l)) (faults (written r)) e (subst (λ x. IsAnswer (faults (written x)) e) (sym (same_Some l part is)) h)
tree_fault e t part is h = cc

pub tree_fault_of_whole : (e : FilterError) (ns : List (Bor Ast)) (whole part : Ast) → Stands left_of_tree whole ns part → IsAnswer (faults (written part)) e
    → IsAnswer (faults (written whole)) e
tree_fault_of_whole e ns whole part stands h = rises left_of_tree (λ t. IsAnswer (faults (written t)) e) (tree_fault e) whole ns part stands h

-- what stands above a part, with the part to its left, is what it was
pub own_left : (o part : Operand) → left_of_operand o ≡ Some part → with_left (operand_of o) (operand_of part) ≡ operand_of o
own_left (Computed' a at p l q r) part is = ap (λ x. ComputedOf a at (operand_of x) (operand_of r)) (sym (same_Some l part is))
own_left (Arguments' p l q r) part is = ap (λ x. ArgumentsOf (operand_of x) (operand_of r)) (sym (same_Some l part is))
own_left o part is = cc

pub own_left_tree : (t part : Ast) → left_of_tree t ≡ Some part → tree_with (written t) (written part) ≡ written t
own_left_tree (Or' p l q r) part is = ap (λ x. JoinedOf joins.Or (written x) (written r)) (sym (same_Some l part is))
own_left_tree (Xor' p l q r) part is = ap (λ x. JoinedOf joins.Xor (written x) (written r)) (sym (same_Some l part is))
own_left_tree (And' p l q r) part is = ap (λ x. JoinedOf joins.And (written x) (written r)) (sym (same_Some l part is))
own_left_tree t part is = cc
