-- A filter as it is written: the tree of `Ast` without the places in memory of its parts.
use Rattle.std.specs.Prelude.{ℕ, Bool, List, Option, Some, None}
use Rattle.flt_syntax.specs.declared.ast.Arithmetic.{Arithmetic}
use Rattle.flt_syntax.specs.declared.ast.Ast.{Ast}
use Rattle.flt_syntax.specs.declared.ast.Ast.TheVariants.{Or', Xor', And', Not', Group', Alone, Test}
use Rattle.flt_syntax.specs.declared.ast.Choice.{Choice}
use Rattle.flt_syntax.specs.declared.ast.Element.{Element}
use Rattle.flt_syntax.specs.declared.ast.Function.{Function}
use Rattle.flt_syntax.specs.declared.ast.Layer.{Layer}
use Rattle.flt_syntax.specs.declared.ast.LayerRange.{LayerRange}
use Rattle.flt_syntax.specs.declared.ast.Negation.{Negation}
use Rattle.flt_syntax.specs.declared.ast.Operand.{Operand}
use Rattle.flt_syntax.specs.declared.ast.Operand.TheVariants.{Text, Named, OnLayer, OnLayers, Sliced', Masked', Called', Computed', Arguments'}
use Rattle.flt_syntax.specs.declared.ast.Operator.{Operator}
use Rattle.flt_syntax.specs.declared.ast.SliceRange.{SliceRange}
use Rattle.flt_syntax.specs.declared.ast.Tail.{Tail}
use Rattle.flt_syntax.specs.declared.ast.Tail.TheVariants.{Compare, In, Matches}
use Rattle.flt_syntax.specs.declared.token.Join.{Join}
use Rattle.flt_syntax.specs.declared.token.Join.TheVariants as joins
use Rattle.flt_syntax.specs.declared.word.Quote.{Quote}
use Rattle.flt_syntax.specs.declared.word.Word.{Word}

-- an operand; what is sliced, masked, called or computed stands inside. A comma joins the arguments of a call
pub data WrittenOperand : Type 0 where
  TextOf : (q : Quote) → WrittenOperand
  NamedOf : (w : Word) → WrittenOperand
  OnLayerOf : (w : Word) (l : Layer) → WrittenOperand
  OnLayersOf : (w : Word) (ls : List LayerRange) → WrittenOperand
  SlicedOf : (o : WrittenOperand) (at : ℕ) (rs : List SliceRange) → WrittenOperand
  MaskedOf : (o : WrittenOperand) (at : ℕ) (w : Word) → WrittenOperand
  CalledOf : (f : Function) (at : ℕ) (o : WrittenOperand) → WrittenOperand
  ComputedOf : (a : Arithmetic) (at : ℕ) (l r : WrittenOperand) → WrittenOperand
  ArgumentsOf : (l r : WrittenOperand) → WrittenOperand

-- what a test asks of its left operand
pub data WrittenTail : Type 0 where
  CompareOf : (operator : Operator) (at : ℕ) (right : WrittenOperand) → WrittenTail
  InOf : (negated : Bool) (elements : List Element) → WrittenTail
  MatchesOf : (at : ℕ) (pattern : Quote) → WrittenTail

-- a filter; what joins two is data
pub data Written : Type 0 where
  JoinedOf : (j : Join) (l r : Written) → Written
  NotOf : (n : Negation) (t : Written) → Written
  GroupOf : (t : Written) → Written
  AloneOf : (o : WrittenOperand) → Written
  TestOf : (c : Option Choice) (o : WrittenOperand) (tail : WrittenTail) → Written

abbrev pub operand_of : Operand → WrittenOperand
operand_of (Text q) = TextOf q
operand_of (Named w) = NamedOf w
operand_of (OnLayer w l) = OnLayerOf w l
operand_of (OnLayers w ls) = OnLayersOf w ls.items
operand_of (Sliced' p o at rs) = SlicedOf (operand_of o) at rs.items
operand_of (Masked' p o at w) = MaskedOf (operand_of o) at w
operand_of (Called' f at p o) = CalledOf f at (operand_of o)
operand_of (Computed' a at p l q r) = ComputedOf a at (operand_of l) (operand_of r)
operand_of (Arguments' p l q r) = ArgumentsOf (operand_of l) (operand_of r)

-- the word that an operand is, if it is no more than that
abbrev pub word_alone : WrittenOperand → Option Word
word_alone (NamedOf w) = Some w
word_alone o = None

abbrev pub tail_of : Tail → WrittenTail
tail_of (Compare operator at right) = CompareOf operator at (operand_of right)
tail_of (In negated elements) = InOf negated elements.items
tail_of (Matches at pattern) = MatchesOf at pattern

-- the tree that a value of `Ast` is
abbrev pub written : Ast → Written
written (Or' p l q r) = JoinedOf joins.Or (written l) (written r)
written (Xor' p l q r) = JoinedOf joins.Xor (written l) (written r)
written (And' p l q r) = JoinedOf joins.And (written l) (written r)
written (Not' n p t) = NotOf n (written t)
written (Group' p t) = GroupOf (written t)
written (Alone o) = AloneOf (operand_of o)
written (Test c o tail) = TestOf c (operand_of o) (tail_of tail)
