-- Filters with their types: a relation between a syntax tree and what it asks of a tree of fields (wireshark-filter(4)).
use Rattle.std.specs.Prelude.{◌≡◌, true, IsTrue, List, [], ◌∷◌, Option, Some, None}
use Rattle.flt_syntax.specs.Written.{Written, WrittenOperand, WrittenTail, NamedOf, OnLayerOf, OnLayersOf, SlicedOf, MaskedOf, ArgumentsOf, CompareOf, InOf, MatchesOf, JoinedOf, NotOf, GroupOf, AloneOf, TestOf}
use Rattle.flt_syntax.specs.declared.ast.Choice.{Choice}
use Rattle.flt_syntax.specs.declared.ast.Choice.TheVariants.{Any, All}
use Rattle.flt_syntax.specs.declared.ast.Element.{Element}
use Rattle.flt_syntax.specs.declared.ast.Element.TheVariants as elements
use Rattle.flt_syntax.specs.declared.ast.Literal.{Literal}
use Rattle.flt_syntax.specs.declared.ast.Operator.{Operator}
use Rattle.flt_syntax.specs.declared.ast.Operator.TheVariants as operators
use Rattle.flt_syntax.specs.declared.token.Join.TheVariants as joins
use Rattle.flt_typed.specs.Patterns.{IsPattern}
use Rattle.flt_typing.specs.Constants.{end_read, literal_of, literal_read, side_read}
use Rattle.flt_typing.specs.Terms.{IsTerm, kind_of}
use Rattle.flt_typing.specs.declared.standing.Standing.TheVariants.{First, Free}
use Rattle.flt_typed.specs.declared.typed.Member.{Member}
use Rattle.flt_typed.specs.declared.typed.Member.TheVariants as members
use Rattle.flt_typed.specs.declared.typed.Term.{Term}
use Rattle.flt_typed.specs.declared.typed.Term.TheVariants as terms
use Rattle.flt_typed.specs.declared.typed.Typed.{Typed}
use Rattle.flt_typed.specs.declared.typed.Typed.TheVariants.{Either', Differ', Both', Not', Exists, AnyBit, Compare, Among, Matches}
use Rattle.flt_typed.specs.Kinds.{is_searched, same_class, takes}
use Rattle.flt_typing.specs.declared.literal.Reading.TheVariants.{Reads}
use Rattle.flt_typed.specs.declared.relation.Relation.{Relation}
use Rattle.flt_typed.specs.declared.relation.Relation.TheVariants as relations
use Rattle.pk_fields.specs.declared.value_kind.ValueKind.{ValueKind}

-- the relation that an operator asks for
abbrev pub relation_of : Operator → Relation
relation_of operators.Equal = relations.Equal
relation_of operators.Unequal = relations.Unequal
relation_of operators.AnyEqual = relations.Equal
relation_of operators.AllUnequal = relations.Unequal
relation_of operators.AllEqual = relations.Equal
relation_of operators.AnyUnequal = relations.Unequal
relation_of operators.Greater = relations.Greater
relation_of operators.Less = relations.Less
relation_of operators.AtLeast = relations.AtLeast
relation_of operators.AtMost = relations.AtMost
relation_of operators.Contains = relations.Contains

-- whether an operator asks any of the pairs of values, or all: `!=` and `===` ask all
abbrev pub choice_of : Operator → Choice
choice_of operators.Unequal = All
choice_of operators.AllUnequal = All
choice_of operators.AllEqual = All
choice_of operator = Any

-- the word before a test chooses; else what is asked by itself
abbrev pub chosen : Option Choice → Choice → Choice
chosen None own = own
chosen (Some choice) own = choice

-- a right operand: a literal, read by the left one's kind, or a term of its class
abbrev pub IsRight : Relation → ValueKind → WrittenOperand → Term → Type 0
IsRight relation kind o (terms.Constant constant) =
    (literal : Literal) × (literal_of o ≡ Some literal)
    × (side_read relation kind literal ≡ Reads constant)
IsRight relation kind o term =
    (literal_of o ≡ None) × IsTerm (Free None) o term × IsTrue (same_class kind (kind_of term))

-- the elements of a set
abbrev pub IsMember : ValueKind → Element → Member → Type 0
IsMember kind (elements.One literal) (members.One constant) =
    literal_read true kind literal ≡ Reads constant
IsMember kind (elements.Between low high) (members.Between first last) =
    (end_read kind low ≡ Reads first) × (end_read kind high ≡ Reads last)
IsMember kind element member = ⊥

abbrev pub AreMembers : ValueKind → List Element → List Member → Type 0
AreMembers kind [] [] = Unit {0}
AreMembers kind (e ∷ es) (m ∷ ms) = IsMember kind e m × AreMembers kind es ms
AreMembers kind es ms = ⊥

-- a test of what the left operand is
abbrev pub IsTest : Option Choice → WrittenOperand → WrittenTail → Typed → Type 0
IsTest choice left (CompareOf operator at o) (Compare relation pairs term right) =
    IsTerm First left term × (relation ≡ relation_of operator)
    × (pairs ≡ chosen choice (choice_of operator))
    × IsTrue (takes relation (kind_of term)) × IsRight relation (kind_of term) o right
IsTest choice left (InOf negated es) (Among opposite pairs term ms) =
    IsTerm First left term × (opposite ≡ negated) × (pairs ≡ chosen choice Any)
    × AreMembers (kind_of term) es ms.items
IsTest choice left (MatchesOf at q) (Matches pairs term pattern) =
    IsTerm First left term × (pairs ≡ chosen choice Any) × IsTrue (is_searched (kind_of term))
    × (pattern ≡ q.bytes) × IsPattern q.bytes
IsTest choice left tail filter = ⊥

-- an operand alone asks whether there is a value; a masked one, whether one has a bit of the mask. Strings, calls and
-- arithmetic don't stand alone; arguments do so in no text.
abbrev pub IsAlone : WrittenOperand → Typed → Type 0
IsAlone (NamedOf w) (Exists term) = IsTerm First (NamedOf w) term
IsAlone (OnLayerOf w l) (Exists term) = IsTerm First (OnLayerOf w l) term
IsAlone (OnLayersOf w ls) (Exists term) = IsTerm First (OnLayersOf w ls) term
IsAlone (SlicedOf o at rs) (Exists term) = IsTerm First (SlicedOf o at rs) term
IsAlone (MaskedOf o at w) (AnyBit term) = IsTerm First (MaskedOf o at w) term
IsAlone (ArgumentsOf l r) (Exists term) = IsTerm First (ArgumentsOf l r) term
IsAlone o filter = ⊥

-- the tree is this filter
abbrev pub HasType : Written → Typed → Type 0
HasType (JoinedOf joins.Or l r) (Either' p left q right) = HasType l left × HasType r right
HasType (JoinedOf joins.Xor l r) (Differ' p left q right) = HasType l left × HasType r right
HasType (JoinedOf joins.And l r) (Both' p left q right) = HasType l left × HasType r right
HasType (NotOf n t) (Not' p filter) = HasType t filter
HasType (GroupOf t) filter = HasType t filter
HasType (AloneOf o) filter = IsAlone o filter
HasType (TestOf choice o tail) filter = IsTest choice o tail filter
HasType t filter = ⊥
