-- A tree has no fault, or a first one that isn't the size of a pattern.
use Rattle.std.proofs.Common.{◌≢◌, ◌⊎◌, inl, inr, ℕ, Bool, true, false, List, [], ◌∷◌, ◌++◌, Option, Some, None, refl, subst}
use Rattle.flt_syntax.specs.Filters.{IsFaultFor, IsFilterText, IsFirstFault}
use Rattle.flt_syntax.specs.Written.{Written, WrittenOperand, WrittenTail, TextOf, NamedOf, OnLayerOf, OnLayersOf, SlicedOf, MaskedOf, CalledOf, ComputedOf, ArgumentsOf, CompareOf, InOf, MatchesOf, JoinedOf, NotOf, GroupOf, AloneOf, TestOf}
use Rattle.flt_syntax.specs.declared.ast.Element.{Element}
use Rattle.flt_syntax.specs.declared.ast.Element.TheVariants as elements
use Rattle.flt_syntax.specs.declared.ast.Function.{Function}
use Rattle.flt_syntax.specs.declared.ast.LayerRange.{LayerRange}
use Rattle.flt_syntax.specs.declared.ast.Literal.{Literal}
use Rattle.flt_syntax.specs.declared.ast.SliceRange.{SliceRange}
use Rattle.flt_syntax.specs.declared.fault.FilterFault.{FilterFault}
use Rattle.flt_syntax.specs.declared.fault.FilterReason.{FilterReason}
use Rattle.flt_syntax.specs.declared.fault.FilterReason.TheVariants.{UnknownField, TypeMismatch, OutOfRange, BadPattern, PatternSize}
use Rattle.flt_syntax.specs.declared.word.Word.{Word}
use Rattle.flt_parse.proofs.Every.{filter_or_fault}
use Rattle.flt_typed.specs.Patterns.{IsNoPattern, IsPattern}
use Rattle.flt_typed.proofs.Decided.{pattern_or_none}
use Rattle.flt_typing.specs.Layers.{is_layer, is_layers}
use Rattle.flt_types.specs.Faults.{Found, At, PatternAt, IsClear, IsFirst, alone_faults, call_faults, class_faults, element_faults, elements_faults, faults, given, kind_written, layers_faults, mask_faults, misplaced, nameless, number_faults, operand_faults, ranges_faults, reading_faults, right_faults, slice_faults, tail_faults, takes_written, unless, word_faults}
use Rattle.flt_types.specs.TextLaws.{TypedOrRefused}
use Rattle.flt_typing.specs.Constants.{end_read, literal_of, literal_read, place_of_literal, side_read}
use Rattle.flt_typing.specs.Ranges.{is_range}
use Rattle.flt_typing.specs.Standing.{argument, in_slice, within}
use Rattle.flt_typing.specs.Terms.{number_kind}
use Rattle.flt_typing.specs.declared.standing.Standing.{Standing}
use Rattle.flt_typing.specs.declared.standing.Standing.TheVariants.{First, Free, Within, Sliced}
use Rattle.flt_typing.specs.Texts.{IsTypedText}
use Rattle.flt_typing.specs.Typing.{relation_of}
use Rattle.flt_typed.specs.declared.typed.Typed.{Typed}
use Rattle.flt_types.specs.Blame.{by_itself, sign_for, taken, taken_by}
use Rattle.flt_types.specs.declared.position.Side.{Side}
use Rattle.flt_types.specs.declared.position.Side.TheVariants as sides
use Rattle.flt_types.specs.TextFaults.{IsTypeFault}
use Rattle.flt_types.proofs.HaveTypes.{clear_typed}
use Rattle.flt_typed.specs.Kinds.{is_masked, is_number, is_searched, is_sliced, same_class, takes}
use Rattle.flt_typing.specs.Literals.{word_read}
use Rattle.flt_typing.specs.declared.literal.Reading.{Reading}
use Rattle.flt_typing.specs.declared.literal.Reading.TheVariants.{Reads, Beyond, Unread}
use Rattle.flt_typed.specs.declared.relation.Relation.{Relation}
use Rattle.pk_fields.specs.Fields.{field_named}
use Rattle.pk_fields.specs.declared.value_kind.ValueKind.{ValueKind}

abbrev AreSure : List Found → Type 0
AreSure [] = Unit {0}
AreSure (At place reason ∷ found) = (reason ≢ PatternSize) × AreSure found
AreSure (PatternAt place pattern ∷ found) = AreSure found

unknown_sure : UnknownField ≢ PatternSize
unknown_sure e = cc

type_sure : TypeMismatch ≢ PatternSize
type_sure e = cc

range_sure : OutOfRange ≢ PatternSize
range_sure e = cc

bad_sure : BadPattern ≢ PatternSize
bad_sure e = cc

sure_both : (a b : List Found) → AreSure a → AreSure b → AreSure (a ++ b)
sure_both [] b p q = q
sure_both (At place reason ∷ a) b p q = (p.0, sure_both a b p.1 q)
sure_both (PatternAt place pattern ∷ a) b p q = sure_both a b p q

sure_unless : (test : Bool) (at : ℕ) (reason : FilterReason) → reason ≢ PatternSize → AreSure (unless test at reason)
sure_unless true at reason sure = tt
sure_unless false at reason sure = (sure, tt)

sure_given : (k : Option ValueKind) (f : ValueKind → List Found) → ((kind : ValueKind) → AreSure (f kind)) → AreSure (given k f)
sure_given None f all = tt
sure_given (Some kind) f all = all kind

sure_reading : (at : ℕ) (reading : Reading) → AreSure (reading_faults at reading)
sure_reading at (Reads c) = tt
sure_reading at Beyond = (range_sure, tt)
sure_reading at Unread = (type_sure, tt)

sure_nameless : (st : Standing) (w : Word) → AreSure (nameless st w)
sure_nameless First w = (unknown_sure, tt)
sure_nameless Sliced w = (unknown_sure, tt)
sure_nameless (Within around) w = (type_sure, tt)
sure_nameless (Free before) w = sure_reading w.at (word_read false number_kind w.text)

sure_word : (found : Option ℕ) (st : Standing) (w : Word) → AreSure (word_faults found st w)
sure_word (Some field) st w = tt
sure_word None st w = sure_nameless st w

sure_misplaced : (side : Side) (at : ℕ) → AreSure (misplaced side at)
sure_misplaced side at = (type_sure, tt)

sure_layers : (ls : List LayerRange) → AreSure (layers_faults ls)
sure_layers [] = tt
sure_layers (l ∷ ls) =
    sure_both (unless (is_layers l) l.at OutOfRange) (layers_faults ls) (sure_unless (is_layers l) l.at OutOfRange range_sure) (sure_layers ls)

sure_ranges : (rs : List SliceRange) → AreSure (ranges_faults rs)
sure_ranges [] = tt
sure_ranges (r ∷ rs) =
    sure_both (unless (is_range r.part) r.at OutOfRange) (ranges_faults rs) (sure_unless (is_range r.part) r.at OutOfRange range_sure) (sure_ranges rs)

sure_slice : (at : ℕ) (rs : List SliceRange) (kind : ValueKind) → AreSure (slice_faults at rs kind)
sure_slice at rs kind =
    sure_both (unless (is_sliced kind) at TypeMismatch) (ranges_faults rs) (sure_unless (is_sliced kind) at TypeMismatch type_sure) (sure_ranges rs)

sure_mask : (at : ℕ) (w : Word) (kind : ValueKind) → AreSure (mask_faults at w kind)
sure_mask at w kind =
    sure_both (unless (is_masked kind) at TypeMismatch) (reading_faults w.at (word_read false kind w.text))
    (sure_unless (is_masked kind) at TypeMismatch type_sure) (sure_reading w.at (word_read false kind w.text))

sure_call : (f : Function) (at : ℕ) (st : Standing) (o : WrittenOperand) (kind : ValueKind) → AreSure (call_faults f at st o kind)
sure_call f at st o kind = sure_unless (takes_written f st o kind) at TypeMismatch type_sure

sure_number : (at : ℕ) (kind : ValueKind) → AreSure (number_faults at kind)
sure_number at kind = sure_unless (is_number kind) at TypeMismatch type_sure

sure_inside : (side : Side) (st : Standing) (o : WrittenOperand) (f : ValueKind → List Found) → AreSure (operand_faults side st o) → ((kind : ValueKind) → AreSure (f kind))
    → AreSure (operand_faults side st o ++ given (kind_written st o) f)
sure_inside side st o f own all = sure_both (operand_faults side st o) (given (kind_written st o) f) own (sure_given (kind_written st o) f all)

sure_operand : (side : Side) (st : Standing) (o : WrittenOperand) → AreSure (operand_faults side st o)
sure_operand side st (TextOf q) = sure_misplaced side q.at
sure_operand side st (NamedOf w) = sure_word (field_named w.text) st w
sure_operand side st (OnLayerOf w l) =
    sure_both (word_faults (field_named w.text) Sliced w) (unless (is_layer l) l.at OutOfRange)
    (sure_word (field_named w.text) Sliced w) (sure_unless (is_layer l) l.at OutOfRange range_sure)
sure_operand side st (OnLayersOf w ls) =
    sure_both (word_faults (field_named w.text) Sliced w) (layers_faults ls) (sure_word (field_named w.text) Sliced w) (sure_layers ls)
sure_operand side st (SlicedOf o at rs) = sure_inside side (in_slice st) o (slice_faults at rs) (sure_operand side (in_slice st) o) (sure_slice at rs)
sure_operand side st (MaskedOf o at w) = sure_inside (taken at side) (within at st) o (mask_faults at w) (sure_operand (taken at side) (within at st) o) (sure_mask at w)
sure_operand side st (CalledOf f at o) =
    let inside = argument f at o st in
    let around = taken_by f at o side in
    sure_inside around inside o (call_faults f at inside o) (sure_operand around inside o) (sure_call f at inside o)
sure_operand side st (ComputedOf a at l r) =
    let first = number_faults (sign_for st at) in
    let other = Free (Some at) in
    sure_both (operand_faults side st l ++ given (kind_written st l) first) (operand_faults (by_itself side) other r ++ given (kind_written other r) (number_faults at))
    (sure_inside side st l first (sure_operand side st l) (sure_number (sign_for st at))) (sure_inside (by_itself side) other r (number_faults at) (sure_operand (by_itself side) other r) (sure_number at))
sure_operand side st (ArgumentsOf l r) = sure_both (operand_faults side st l) (operand_faults (by_itself side) (Free None) r) (sure_operand side st l) (sure_operand (by_itself side) (Free None) r)

sure_class : (at : ℕ) (kind other : ValueKind) → AreSure (class_faults at kind other)
sure_class at kind other = sure_unless (same_class kind other) at TypeMismatch type_sure

sure_right : (relation : Relation) (at : ℕ) (kind : ValueKind) (o : WrittenOperand) (found : Option Literal) → AreSure (right_faults relation at kind o found)
sure_right relation at kind o (Some l) = sure_reading (place_of_literal l) (side_read relation kind l)
sure_right relation at kind o None =
    sure_inside (sides.Right None) (Free None) o (class_faults at kind) (sure_operand (sides.Right None) (Free None) o) (sure_class at kind)

sure_element : (kind : ValueKind) (e : Element) → AreSure (element_faults kind e)
sure_element kind (elements.One l) = sure_reading (place_of_literal l) (literal_read true kind l)
sure_element kind (elements.Between l m) =
    sure_both (reading_faults (place_of_literal l) (end_read kind l)) (reading_faults (place_of_literal m) (end_read kind m))
    (sure_reading (place_of_literal l) (end_read kind l)) (sure_reading (place_of_literal m) (end_read kind m))

sure_elements : (kind : ValueKind) (es : List Element) → AreSure (elements_faults kind es)
sure_elements kind [] = tt
sure_elements kind (e ∷ es) = sure_both (element_faults kind e) (elements_faults kind es) (sure_element kind e) (sure_elements kind es)

sure_tail : (t : WrittenTail) (kind : ValueKind) → AreSure (tail_faults t kind)
sure_tail (CompareOf operator at o) kind =
    sure_both (unless (takes (relation_of operator) kind) at TypeMismatch) (right_faults (relation_of operator) at kind o (literal_of o))
    (sure_unless (takes (relation_of operator) kind) at TypeMismatch type_sure) (sure_right (relation_of operator) at kind o (literal_of o))
sure_tail (InOf negated es) kind = sure_elements kind es
sure_tail (MatchesOf at q) kind =
    sure_both (unless (is_searched kind) at TypeMismatch) (PatternAt q.at q.bytes ∷ []) (sure_unless (is_searched kind) at TypeMismatch type_sure) tt

sure_alone : (o : WrittenOperand) → AreSure (alone_faults o)
sure_alone (CalledOf f at o) = (type_sure, tt)
sure_alone (ComputedOf a at l r) = (type_sure, tt)
sure_alone o = tt

sure_faults : (t : Written) → AreSure (faults t)
sure_faults (JoinedOf j l r) = sure_both (faults l) (faults r) (sure_faults l) (sure_faults r)
sure_faults (NotOf n t) = sure_faults t
sure_faults (GroupOf t) = sure_faults t
sure_faults (AloneOf o) = sure_both (operand_faults sides.Left First o) (alone_faults o) (sure_operand sides.Left First o) (sure_alone o)
sure_faults (TestOf c o t) =
    sure_inside sides.Left First o (tail_faults t) (sure_operand sides.Left First o) (sure_tail t)

-- a list of faults
abbrev ClearOrFirst : List Found → Type 0
ClearOrFirst found = IsClear found ⊎ ((at : ℕ) × (reason : FilterReason) × IsFirst found at reason × (reason ≢ PatternSize))

behind_pattern : (place : ℕ) (pattern : List ℕ) (found : List Found) → IsPattern pattern → ClearOrFirst found → ClearOrFirst (PatternAt place pattern ∷ found)
behind_pattern place pattern found is (inl clear) = inl (is, clear)
behind_pattern place pattern found is (inr (at, reason, first, sure)) = inr (at, reason, inr (is, first), sure)

at_pattern : (place : ℕ) (pattern : List ℕ) (found : List Found) → IsPattern pattern ⊎ IsNoPattern pattern → ClearOrFirst found → ClearOrFirst (PatternAt place pattern ∷ found)
at_pattern place pattern found (inl is) rest = behind_pattern place pattern found is rest
at_pattern place pattern found (inr none) rest = inr (place, BadPattern, inl (refl, none), bad_sure)

clear_or_first : (found : List Found) → AreSure found → ClearOrFirst found
clear_or_first [] sure = inl tt
clear_or_first (At place reason ∷ found) sure = inr (place, reason, (refl, refl), sure.0)
clear_or_first (PatternAt place pattern ∷ found) sure = at_pattern place pattern found (pattern_or_none pattern) (clear_or_first found sure)

-- a text
abbrev Answered : List ℕ → Type 0
Answered text =
    ((filter : Typed) × IsTypedText text filter) ⊎ ((fault : FilterFault) × (IsFirstFault text fault ⊎ IsTypeFault text fault) × (fault.reason ≢ PatternSize))

of_tree : (text : List ℕ) (tree : Written) → IsFilterText text tree → ClearOrFirst (faults tree) → Answered text
of_tree text tree is (inl clear) = let typed = clear_typed text tree is clear in inl (typed.0, (tree, is, typed.1))
of_tree text tree is (inr (at, reason, first, sure)) = inr (record { at = at; reason = reason }, inr (tree, is, first), sure)

-- a syntax's fault is no size
syntax_sure : (text : List ℕ) (fault : FilterFault) → IsFirstFault text fault → fault.reason ≢ PatternSize
syntax_sure text fault is size = subst (λ (r : FilterReason). IsFaultFor r text fault) size is

of_text : (text : List ℕ) → ((tree : Written) × IsFilterText text tree) ⊎ ((fault : FilterFault) × IsFirstFault text fault) → Answered text
of_text text (inl (tree, is)) = of_tree text tree is (clear_or_first (faults tree) (sure_faults tree))
of_text text (inr (fault, is)) = inr (fault, inl is, syntax_sure text fault is)

pub typed_or_refused : TypedOrRefused
typed_or_refused text = of_text text (filter_or_fault text)
