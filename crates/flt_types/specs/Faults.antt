-- The faults of a syntax tree, in the order in which they are looked for: the tests from left to right; in each the left
-- operand from inside out, the operator for its kind, the right side from left to right, the two kinds together. Only
-- the first one counts, so what stands behind one may be anything.
use Rattle.std.specs.Prelude.{◌≡◌, ◌⊎◌, ◌&&◌, ℕ, Bool as Truth, true, false, List, [], ◌∷◌, ◌++◌, Option, Some, None, is_some}
use Rattle.std.specs.Option.{option_map, option_map_or}
use Rattle.flt_syntax.specs.Written.{Written, WrittenOperand, WrittenTail, TextOf, NamedOf, OnLayerOf, OnLayersOf, SlicedOf, MaskedOf, CalledOf, ComputedOf, ArgumentsOf, CompareOf, InOf, MatchesOf, JoinedOf, NotOf, GroupOf, AloneOf, TestOf}
use Rattle.flt_syntax.specs.declared.ast.Element.{Element}
use Rattle.flt_syntax.specs.declared.ast.Element.TheVariants as elements
use Rattle.flt_syntax.specs.declared.ast.Function.{Function}
use Rattle.flt_syntax.specs.declared.ast.Function.TheVariants.{Count, Min, Max}
use Rattle.flt_syntax.specs.declared.ast.LayerRange.{LayerRange}
use Rattle.flt_syntax.specs.declared.ast.Literal.{Literal}
use Rattle.flt_syntax.specs.declared.ast.SliceRange.{SliceRange}
use Rattle.flt_syntax.specs.declared.fault.FilterError.{FilterError}
use Rattle.flt_syntax.specs.declared.fault.FilterError.TheVariants.{Fault, NoMemory}
use Rattle.flt_syntax.specs.declared.fault.FilterReason.{FilterReason}
use Rattle.flt_syntax.specs.declared.fault.FilterReason.TheVariants.{UnknownField, TypeMismatch, OutOfRange, BadPattern, PatternSize}
use Rattle.flt_syntax.specs.declared.word.Word.{Word}
use Rattle.flt_typed.specs.Patterns.{IsPattern, IsNoPattern, MayBeLarge}
use Rattle.flt_typing.specs.Layers.{is_layer, is_layers}
use Rattle.flt_typing.specs.Constants.{end_read, literal_of, literal_read, place_of_literal, side_read}
use Rattle.flt_typing.specs.Ranges.{is_range}
use Rattle.flt_typing.specs.Standing.{argument, in_slice, within}
use Rattle.flt_typing.specs.Terms.{number_kind}
use Rattle.flt_typing.specs.Typing.{relation_of}
use Rattle.flt_typing.specs.declared.standing.Standing.{Standing}
use Rattle.flt_typing.specs.declared.standing.Standing.TheVariants.{First, Free, Within, Sliced}
use Rattle.flt_types.specs.Blame.{blamed, by_itself, sign_for, taken, taken_by}
use Rattle.flt_types.specs.declared.position.Side.{Side}
use Rattle.flt_types.specs.declared.position.Side.TheVariants as sides
use Rattle.flt_typed.specs.Kinds.{is_masked, is_number, is_searched, is_sliced, kind_of_call, same_class, takes, takes_call}
use Rattle.flt_typing.specs.Literals.{word_read}
use Rattle.flt_typing.specs.declared.literal.Reading.{Reading}
use Rattle.flt_typing.specs.declared.literal.Reading.TheVariants.{Reads, Beyond, Unread}
use Rattle.flt_typed.specs.declared.relation.Relation.{Relation}
use Rattle.pk_fields.specs.Fields.{field_named, row_of}
use Rattle.pk_fields.specs.declared.value_kind.ValueKind.{ValueKind}
use Rattle.pk_fields.specs.declared.value_kind.ValueKind.TheVariants as kinds

-- a fault at a place, or a pattern at its place, whose own fault no definition computes
pub data Found : Type 0 where
  At : (place : ℕ) (reason : FilterReason) → Found
  PatternAt : (place : ℕ) (pattern : List ℕ) → Found

abbrev pub unless : Truth → ℕ → FilterReason → List Found
unless true at reason = []
unless false at reason = At at reason ∷ []

-- the faults for a kind, where there is one; it is wanting only behind another fault
abbrev pub given : Option ValueKind → (ValueKind → List Found) → List Found
given None found = []
given (Some kind) found = found kind

abbrev pub reading_faults : ℕ → Reading → List Found
reading_faults at (Reads constant) = []
reading_faults at Beyond = At at OutOfRange ∷ []
reading_faults at Unread = At at TypeMismatch ∷ []

-- a string where only a field or a number may stand: on the left side of a test the fault is at the string; on the right
-- side, where a mask takes the string, at its `&`, where `len`, `count`, `upper` or `lower` takes it, at the function, and
-- at the string else
abbrev pub misplaced : Side → ℕ → List Found
misplaced side at = At (blamed side at) TypeMismatch ∷ []

-- a word that names no field: where only a field may stand, the fault is at the word; in what takes no literal, that gets
-- the blame on either side. Else the word is a number
abbrev pub nameless : Standing → Word → List Found
nameless First w = At w.at UnknownField ∷ []
nameless Sliced w = At w.at UnknownField ∷ []
nameless (Within around) w = At around TypeMismatch ∷ []
nameless (Free before) w = reading_faults w.at (word_read false number_kind w.text)

abbrev pub word_faults : Option ℕ → Standing → Word → List Found
word_faults (Some field) s w = []
word_faults None s w = nameless s w

abbrev pub layers_faults : List LayerRange → List Found
layers_faults [] = []
layers_faults (r ∷ rs) = unless (is_layers r) r.at OutOfRange ++ layers_faults rs

abbrev pub ranges_faults : List SliceRange → List Found
ranges_faults [] = []
ranges_faults (r ∷ rs) = unless (is_range r.part) r.at OutOfRange ++ ranges_faults rs

-- the kind of what is written, where its names are fields or numbers
abbrev pub kind_without : Standing → Option ValueKind
kind_without (Free before) = Some number_kind
kind_without s = None

abbrev pub kind_of_word : Option ℕ → Standing → Option ValueKind
kind_of_word (Some field) s = Some (row_of field).kind
kind_of_word None s = kind_without s

abbrev pub kind_named : List ℕ → Option ValueKind
kind_named name = option_map (λ field. (row_of field).kind) (field_named name)

abbrev pub kind_written : Standing → WrittenOperand → Option ValueKind
kind_written s (TextOf q) = None
kind_written s (NamedOf w) = kind_of_word (field_named w.text) s
kind_written s (OnLayerOf w l) = kind_named w.text
kind_written s (OnLayersOf w ls) = kind_named w.text
kind_written s (SlicedOf o at rs) = Some kinds.Bytes
kind_written s (MaskedOf o at w) = kind_written (within at s) o
kind_written s (CalledOf f at o) = Some (kind_of_call f)
kind_written s (ComputedOf a at l r) = Some number_kind
kind_written s (ArgumentsOf l r) = Some number_kind

abbrev pub is_name : WrittenOperand → Truth
is_name (NamedOf w) = is_some (field_named w.text)
is_name (OnLayerOf w l) = true
is_name (OnLayersOf w ls) = true
is_name o = false

abbrev pub is_number_written : Option ValueKind → Truth
is_number_written kind = option_map_or is_number kind false

abbrev pub are_numbers_written : Standing → WrittenOperand → Truth
are_numbers_written s (ArgumentsOf l r) =
    are_numbers_written s l && is_number_written (kind_written (Free None) r)
are_numbers_written s o = is_number_written (kind_written s o)

abbrev pub takes_written : Function → Standing → WrittenOperand → ValueKind → Truth
takes_written Count s o kind = is_name o
takes_written Min s o kind = are_numbers_written s o
takes_written Max s o kind = are_numbers_written s o
takes_written function s o kind = takes_call function kind

-- of what is around an operand: a slice, a mask, a function, arithmetic; the operand has this kind
abbrev pub slice_faults : ℕ → List SliceRange → ValueKind → List Found
slice_faults at rs kind = unless (is_sliced kind) at TypeMismatch ++ ranges_faults rs

abbrev pub mask_faults : ℕ → Word → ValueKind → List Found
mask_faults at w kind =
    unless (is_masked kind) at TypeMismatch ++ reading_faults w.at (word_read false kind w.text)

abbrev pub call_faults : Function → ℕ → Standing → WrittenOperand → ValueKind → List Found
call_faults f at s o kind = unless (takes_written f s o kind) at TypeMismatch

abbrev pub number_faults : ℕ → ValueKind → List Found
number_faults at kind = unless (is_number kind) at TypeMismatch

-- of an operand, by the side of its test and by where it stands. The parts of arithmetic are looked at from left to right,
-- each by itself and then for the sign before it, the first one for the first sign; a part that is a product has been by
-- its own signs.
abbrev pub operand_faults : Side → Standing → WrittenOperand → List Found
operand_faults side s (TextOf q) = misplaced side q.at
operand_faults side s (NamedOf w) = word_faults (field_named w.text) s w
operand_faults side s (OnLayerOf w l) =
    word_faults (field_named w.text) Sliced w ++ unless (is_layer l) l.at OutOfRange
operand_faults side s (OnLayersOf w ls) =
    word_faults (field_named w.text) Sliced w ++ layers_faults ls
operand_faults side s (SlicedOf o at rs) =
    operand_faults side (in_slice s) o ++ given (kind_written (in_slice s) o) (slice_faults at rs)
operand_faults side s (MaskedOf o at w) =
    operand_faults (taken at side) (within at s) o
    ++ given (kind_written (within at s) o) (mask_faults at w)
operand_faults side s (CalledOf f at o) =
    operand_faults (taken_by f at o side) (argument f at o s) o
    ++ given (kind_written (argument f at o s) o) (call_faults f at (argument f at o s) o)
operand_faults side s (ComputedOf a at l r) =
    (operand_faults side s l ++ given (kind_written s l) (number_faults (sign_for s at)))
    ++ (operand_faults (by_itself side) (Free (Some at)) r
    ++ given (kind_written (Free (Some at)) r) (number_faults at))
operand_faults side s (ArgumentsOf l r) =
    operand_faults side s l ++ operand_faults (by_itself side) (Free None) r

-- of a right side, for a left operand of a kind
abbrev pub class_faults : ℕ → ValueKind → ValueKind → List Found
class_faults at kind other = unless (same_class kind other) at TypeMismatch

abbrev pub right_faults : Relation → ℕ → ValueKind → WrittenOperand → Option Literal → List Found
right_faults relation at kind o (Some literal) =
    reading_faults (place_of_literal literal) (side_read relation kind literal)
right_faults relation at kind o None =
    operand_faults (sides.Right None) (Free None) o
    ++ given (kind_written (Free None) o) (class_faults at kind)

abbrev pub element_faults : ValueKind → Element → List Found
element_faults kind (elements.One literal) =
    reading_faults (place_of_literal literal) (literal_read true kind literal)
element_faults kind (elements.Between low high) =
    reading_faults (place_of_literal low) (end_read kind low)
    ++ reading_faults (place_of_literal high) (end_read kind high)

abbrev pub elements_faults : ValueKind → List Element → List Found
elements_faults kind [] = []
elements_faults kind (e ∷ es) = element_faults kind e ++ elements_faults kind es

abbrev pub tail_faults : WrittenTail → ValueKind → List Found
tail_faults (CompareOf operator at o) kind =
    unless (takes (relation_of operator) kind) at TypeMismatch
    ++ right_faults (relation_of operator) at kind o (literal_of o)
tail_faults (InOf negated es) kind = elements_faults kind es
tail_faults (MatchesOf at q) kind =
    unless (is_searched kind) at TypeMismatch ++ PatternAt q.at q.bytes ∷ []

-- the first sign of arithmetic, and the place of an operand's sign where it is no arithmetic
abbrev pub first_sign : ℕ → WrittenOperand → ℕ
first_sign at (ComputedOf a sign l r) = first_sign sign l
first_sign at o = at

-- calls and arithmetic don't stand alone
abbrev pub alone_faults : WrittenOperand → List Found
alone_faults (CalledOf f at o) = At at TypeMismatch ∷ []
alone_faults (ComputedOf a at l r) = At (first_sign at l) TypeMismatch ∷ []
alone_faults o = []

abbrev pub faults : Written → List Found
faults (JoinedOf j l r) = faults l ++ faults r
faults (NotOf n t) = faults t
faults (GroupOf t) = faults t
faults (AloneOf o) = operand_faults sides.Left First o ++ alone_faults o
faults (TestOf choice o tail) =
    operand_faults sides.Left First o ++ given (kind_written First o) (tail_faults tail)

-- there is none: each pattern is one
abbrev pub IsClear : List Found → Type 0
IsClear [] = Unit {0}
IsClear (At place reason ∷ found) = ⊥
IsClear (PatternAt place pattern ∷ found) = IsPattern pattern × IsClear found

-- why a pattern is refused: it is none, or it may take too much room
abbrev pub IsPatternFault : List ℕ → FilterReason → Type 0
IsPatternFault pattern BadPattern = IsNoPattern pattern
IsPatternFault pattern PatternSize = MayBeLarge pattern
IsPatternFault pattern reason = ⊥

-- the first fault stands at a place and has a reason: a pattern in front of it may be refused in its stead
abbrev pub IsFirst : List Found → ℕ → FilterReason → Type 0
IsFirst [] at reason = ⊥
IsFirst (At place why ∷ found) at reason = (place ≡ at) × (why ≡ reason)
IsFirst (PatternAt place pattern ∷ found) at reason =
    ((place ≡ at) × IsPatternFault pattern reason) ⊎ (IsPattern pattern × IsFirst found at reason)

abbrev pub IsAnswer : List Found → FilterError → Type 0
IsAnswer found NoMemory = Unit {0}
IsAnswer found (Fault fault) = IsFirst found fault.at fault.reason
