-- The grammar of filters, as what each tree is written as:
--
--   filter  = or
--   or      = xor { ( "or" | "||" ) xor }
--   xor     = and { ( "xor" | "^^" ) and }
--   and     = unary { ( "and" | "&&" ) unary }
--   unary   = ( "not" | "!" ) unary | "(" or ")" | test
--   test    = ( "any" | "all" ) operand tail | operand [ tail ]
--   tail    = operator operand | [ "not" ] "in" set | ( "matches" | "~" ) string
--   operand = product { ( "+" | "-" ) product }
--   product = part { "*" part }
--   part    = base [ "&" word ]
--   base    = string | word [ "#" layers ] [ "[" range { "," range } "]" ]
--           | ( "len" | "count" | "upper" | "lower" ) "(" operand ")" [ "[" range { "," range } "]" ]
--           | ( "min" | "max" ) "(" operand { "," operand } ")"
--   layers  = digits | "[" layer range { "," layer range } "]"
--   layer range = digits [ "-" digits ]
--   range   = n | n ":" digits | n "-" n | ":" digits | n ":"
--   n       = [ "-" ] digits
--   set     = "{" element { "," element } "}"
--   element = literal [ ".." literal ]       literal = word | string
use Rattle.std.specs.Prelude.{◌≡◌, ◌≤◌, ◌<◌, ℕ, ◌+◌, max, Bool, true, false, not, if◌then◌else◌, IsTrue, List, [], ◌∷◌, ◌++◌, Option, Some, None}
use Rattle.flt_syntax.specs.Written.{Written, WrittenOperand, WrittenTail, TextOf, NamedOf, OnLayerOf, OnLayersOf, SlicedOf, MaskedOf, CalledOf, ComputedOf, ArgumentsOf, CompareOf, InOf, MatchesOf, JoinedOf, NotOf, GroupOf, AloneOf, TestOf}
use Rattle.flt_syntax.specs.declared.ast.Arithmetic.{Arithmetic}
use Rattle.flt_syntax.specs.declared.ast.Arithmetic.TheVariants as arithmetic
use Rattle.flt_syntax.specs.declared.ast.Choice.{Choice}
use Rattle.flt_syntax.specs.declared.ast.Element.{Element}
use Rattle.flt_syntax.specs.declared.ast.Element.TheVariants as elements
use Rattle.flt_syntax.specs.declared.ast.Function.{Function}
use Rattle.flt_syntax.specs.declared.ast.Function.TheVariants.{Min, Max}
use Rattle.flt_syntax.specs.declared.ast.LayerRange.{LayerRange}
use Rattle.flt_syntax.specs.declared.ast.Literal.{Literal}
use Rattle.flt_syntax.specs.declared.ast.Literal.TheVariants as literals
use Rattle.flt_syntax.specs.declared.ast.Negation.TheVariants as negations
use Rattle.flt_syntax.specs.declared.ast.Operator.{Operator}
use Rattle.flt_syntax.specs.declared.ast.Operator.TheVariants as operators
use Rattle.flt_syntax.specs.declared.ast.Place.{Place}
use Rattle.flt_syntax.specs.declared.ast.RangePart.{RangePart}
use Rattle.flt_syntax.specs.declared.ast.RangePart.TheVariants as parts
use Rattle.flt_syntax.specs.declared.ast.SliceRange.{SliceRange}
use Rattle.flt_syntax.specs.declared.token.Join.{Join}
use Rattle.flt_syntax.specs.declared.token.Join.TheVariants as joins
use Rattle.flt_syntax.specs.declared.token.Kind.{Kind}
use Rattle.flt_syntax.specs.declared.token.Kind.TheVariants as kinds

-- one range of layers
abbrev pub last_layer : Option ℕ → List Kind
last_layer None = []
last_layer (Some n) = kinds.Minus ∷ kinds.Number n ∷ []

abbrev pub layer_range : LayerRange → List Kind
layer_range r = kinds.Number r.first ∷ last_layer r.last

-- the ranges behind the first, each with its comma, and the bracket that ends them
abbrev pub more_layers : List LayerRange → List Kind
more_layers [] = kinds.CloseBracket ∷ []
more_layers (r ∷ rs) = kinds.NextRange r.at ∷ (layer_range r ++ more_layers rs)

abbrev pub layers : List LayerRange → List Kind
layers [] = []
layers (r ∷ rs) = kinds.OpenLayers r.at ∷ (layer_range r ++ more_layers rs)

-- one range of bytes
abbrev pub sign_of_place : Bool → List Kind
sign_of_place true = kinds.Minus ∷ []
sign_of_place false = []

abbrev pub place : Place → List Kind
place p = sign_of_place p.from_end ++ kinds.Number p.offset ∷ []

abbrev pub range : RangePart → List Kind
range (parts.One p) = place p
range (parts.Counted p n) = place p ++ kinds.Colon ∷ kinds.Number n ∷ []
range (parts.Between p q) = place p ++ kinds.Minus ∷ place q
range (parts.Front n) = kinds.Colon ∷ kinds.Number n ∷ []
range (parts.ToEnd p) = place p ++ kinds.Colon ∷ []

abbrev pub more_ranges : List SliceRange → List Kind
more_ranges [] = kinds.CloseBracket ∷ []
more_ranges (r ∷ rs) = kinds.NextRange r.at ∷ (range r.part ++ more_ranges rs)

abbrev pub ranges : ℕ → List SliceRange → List Kind
ranges at [] = []
ranges at (r ∷ rs) = kinds.OpenRanges at r.at ∷ (range r.part ++ more_ranges rs)

-- an operand
abbrev pub operand : WrittenOperand → List Kind
operand (TextOf q) = kinds.Text q ∷ []
operand (NamedOf w) = kinds.Name w ∷ []
operand (OnLayerOf w l) = kinds.Name w ∷ kinds.Hash ∷ kinds.LayerNumber l ∷ []
operand (OnLayersOf w ls) = kinds.Name w ∷ kinds.Hash ∷ layers ls
operand (SlicedOf o at rs) = operand o ++ ranges at rs
operand (MaskedOf o at w) = operand o ++ kinds.Mask at ∷ kinds.Name w ∷ []
operand (CalledOf f at o) = kinds.Calls f at ∷ (operand o ++ kinds.Close ∷ [])
operand (ComputedOf a at l r) = operand l ++ kinds.Computes a at ∷ operand r
operand (ArgumentsOf l r) = operand l ++ kinds.Comma ∷ operand r

-- a set
abbrev pub literal : Literal → Kind
literal (literals.Bare w) = kinds.Name w
literal (literals.Text q) = kinds.Text q

abbrev pub element : Element → List Kind
element (elements.One l) = literal l ∷ []
element (elements.Between l m) = literal l ∷ kinds.DotDot ∷ literal m ∷ []

abbrev pub more_elements : List Element → List Kind
more_elements [] = kinds.CloseBrace ∷ []
more_elements (e ∷ es) = kinds.Comma ∷ (element e ++ more_elements es)

abbrev pub set : List Element → List Kind
set [] = []
set (e ∷ es) = kinds.OpenBrace ∷ (element e ++ more_elements es)

abbrev pub not_before : Bool → List Kind
not_before true = kinds.Negates negations.Word ∷ []
not_before false = []

abbrev pub tail : WrittenTail → List Kind
tail (CompareOf operator at right) = kinds.Compares operator at ∷ operand right
tail (InOf negated es) = not_before negated ++ kinds.In ∷ set es
tail (MatchesOf at q) = kinds.Matches at ∷ kinds.Text q ∷ []

abbrev pub choice : Option Choice → List Kind
choice None = []
choice (Some c) = kinds.Chooses c ∷ []

-- the tokens that a filter is written as
abbrev pub spelled : Written → List Kind
spelled (JoinedOf j l r) = spelled l ++ kinds.Joins j ∷ spelled r
spelled (NotOf n t) = kinds.Negates n ∷ spelled t
spelled (GroupOf t) = kinds.Open ∷ (spelled t ++ kinds.Close ∷ [])
spelled (AloneOf o) = operand o
spelled (TestOf c o t) = choice c ++ (operand o ++ tail t)

-- at least one
abbrev pub IsFilled : {A : Type 0} → List A → Type 0
IsFilled [] = ⊥
IsFilled (x ∷ xs) = Unit {0}

-- `min` and `max` have one argument or more, and no slice
abbrev pub takes_more : Function → Bool
takes_more Min = true
takes_more Max = true
takes_more f = false

-- words and calls are sliced, and whatever is no mask and nothing computed is masked
abbrev pub takes_slice : WrittenOperand → Bool
takes_slice (NamedOf w) = true
takes_slice (OnLayerOf w l) = true
takes_slice (OnLayersOf w ls) = true
takes_slice (CalledOf f at o) = not (takes_more f)
takes_slice o = false

abbrev pub takes_mask : WrittenOperand → Bool
takes_mask (MaskedOf o at w) = false
takes_mask (ComputedOf a at l r) = false
takes_mask (ArgumentsOf l r) = false
takes_mask o = true

-- how tightly an operand's outermost sign binds: the comma of arguments less than `+` and `-`, these less than `*`, and
-- a part, which has none, more than all
abbrev pub arguments : ℕ
arguments = 10

abbrev pub sum : ℕ
sum = 20

abbrev pub product : ℕ
product = 30

abbrev pub part : ℕ
part = 40

abbrev pub binds_arithmetic : Arithmetic → ℕ
binds_arithmetic arithmetic.Sum = sum
binds_arithmetic arithmetic.Difference = sum
binds_arithmetic arithmetic.Product = product

abbrev pub tightness : WrittenOperand → ℕ
tightness (ComputedOf a at l r) = binds_arithmetic a
tightness (ArgumentsOf l r) = arguments
tightness o = part

-- only the calls of `min` and `max` have a comma between arguments
abbrev pub least_in : Function → ℕ
least_in f = if takes_more f then arguments else sum

-- what binds less tightly stands to neither side of a sign, and equal signs join from the left
abbrev pub IsOperand : WrittenOperand → Type 0
IsOperand (TextOf q) = Unit {0}
IsOperand (NamedOf w) = Unit {0}
IsOperand (OnLayerOf w l) = Unit {0}
IsOperand (OnLayersOf w ls) = IsFilled ls
IsOperand (SlicedOf o at rs) = IsOperand o × IsTrue (takes_slice o) × IsFilled rs
IsOperand (MaskedOf o at w) = IsOperand o × IsTrue (takes_mask o)
IsOperand (CalledOf f at o) = IsOperand o × (least_in f ≤ tightness o)
IsOperand (ComputedOf a at l r) =
    IsOperand l × IsOperand r
    × (binds_arithmetic a ≤ tightness l) × (binds_arithmetic a < tightness r)
IsOperand (ArgumentsOf l r) =
    IsOperand l × IsOperand r × (arguments ≤ tightness l) × (arguments < tightness r)

-- an operand of a test, which no comma joins
abbrev pub IsTestOperand : WrittenOperand → Type 0
IsTestOperand o = IsOperand o × (sum ≤ tightness o)

-- the operators that say nothing yet of which pairs they ask; `contains` asks any
abbrev pub is_open : Operator → Bool
is_open operators.AnyEqual = false
is_open operators.AllUnequal = false
is_open operators.AllEqual = false
is_open operators.AnyUnequal = false
is_open operator = true

-- behind the word `any` or `all` only these stand
abbrev pub takes_operator : Option Choice → Operator → Bool
takes_operator None operator = true
takes_operator (Some c) operator = is_open operator

abbrev pub IsTail : Option Choice → WrittenTail → Type 0
IsTail c (CompareOf operator at right) = IsTestOperand right × IsTrue (takes_operator c operator)
IsTail c (InOf negated es) = IsFilled es
IsTail c (MatchesOf at q) = Unit {0}

-- how strongly a filter's outermost sign binds: `or` less than `and`, and all others more
abbrev pub binds : Join → ℕ
binds joins.Or = 10
binds joins.Xor = 20
binds joins.And = 30

abbrev pub unary : ℕ
unary = 40

abbrev pub strength : Written → ℕ
strength (JoinedOf j l r) = binds j
strength t = unary

-- what binds less tightly stands in parentheses; equal signs join from the left
abbrev pub IsGrouped : Written → Type 0
IsGrouped (JoinedOf j l r) =
    IsGrouped l × IsGrouped r × (binds j ≤ strength l) × (binds j < strength r)
IsGrouped (NotOf n t) = IsGrouped t × (unary ≤ strength t)
IsGrouped (GroupOf t) = IsGrouped t
IsGrouped (AloneOf o) = IsTestOperand o
IsGrouped (TestOf c o t) = IsTestOperand o × IsTail c t

-- how many calls, negations and parentheses are open at once, at most
abbrev pub calls : WrittenOperand → ℕ
calls (SlicedOf o at rs) = calls o
calls (MaskedOf o at w) = calls o
calls (CalledOf f at o) = calls o + 1
calls (ComputedOf a at l r) = max (calls l) (calls r)
calls (ArgumentsOf l r) = max (calls l) (calls r)
calls o = 0

abbrev pub calls_behind : WrittenTail → ℕ
calls_behind (CompareOf operator at right) = calls right
calls_behind t = 0

abbrev pub depth : Written → ℕ
depth (JoinedOf j l r) = max (depth l) (depth r)
depth (NotOf n t) = depth t + 1
depth (GroupOf t) = depth t + 1
depth (AloneOf o) = calls o
depth (TestOf c o t) = max (calls o) (calls_behind t)

-- these tokens are this filter, in which at most so many are open at once
pub record IsFilter (limit : ℕ) (tokens : List Kind) (filter : Written) : Type 0 where
  pub spells : spelled filter ≡ tokens
  pub grouped : IsGrouped filter
  pub shallow : depth filter ≤ limit
