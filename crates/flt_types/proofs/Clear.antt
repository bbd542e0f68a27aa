-- What has a type has no fault.
use Rattle.std.proofs.Common.{◌≡◌, ℕ, Bool, true, false, List, [], ◌∷◌, ◌++◌, ◌&&◌, Option, Some, None, option_map, drop, append-nil, sym, ap, subst, refl, ◌∙◌}
use Rattle.std.proofs.lemmas.Bool.{and_parts}
use Rattle.std.specs.List.{list_all}
use Rattle.std.specs.Prelude.{is_some}
use Rattle.flt_syntax.specs.Written.{Written, WrittenOperand, WrittenTail, TextOf, NamedOf, OnLayerOf, OnLayersOf, SlicedOf, MaskedOf, CalledOf, ComputedOf, ArgumentsOf, CompareOf, InOf, MatchesOf, JoinedOf, NotOf, GroupOf, AloneOf, TestOf}
use Rattle.flt_syntax.specs.declared.ast.Arithmetic.{Arithmetic}
use Rattle.flt_syntax.specs.declared.ast.Choice.{Choice}
use Rattle.flt_syntax.specs.declared.ast.Element.{Element}
use Rattle.flt_syntax.specs.declared.ast.Element.TheVariants as elements
use Rattle.flt_syntax.specs.declared.ast.Function.{Function}
use Rattle.flt_syntax.specs.declared.ast.Function.TheVariants.{Len, Count, Upper, Lower, Min, Max}
use Rattle.flt_syntax.specs.declared.ast.LayerRange.{LayerRange}
use Rattle.flt_syntax.specs.declared.ast.Literal.{Literal}
use Rattle.flt_syntax.specs.declared.ast.Operator.{Operator}
use Rattle.flt_syntax.specs.declared.ast.SliceRange.{SliceRange}
use Rattle.flt_syntax.specs.declared.fault.FilterError.{FilterError}
use Rattle.flt_syntax.specs.declared.fault.FilterReason.TheVariants.{TypeMismatch, OutOfRange}
use Rattle.flt_syntax.specs.declared.token.Join.TheVariants as joins
use Rattle.flt_syntax.specs.declared.word.Word.{Word}
use Rattle.flt_typing.specs.Layers.{is_layer, is_layers}
use Rattle.flt_typing.specs.Constants.{end_read, literal_of, literal_read, place_of_literal, side_read, word_or_name}
use Rattle.flt_typing.specs.Ranges.{is_range}
use Rattle.flt_typing.specs.Standing.{argument, in_slice, within}
use Rattle.flt_typing.specs.Terms.{IsNumber, IsTerm, are_numbers, is_field, kind_of, number_kind, takes_term}
use Rattle.flt_typing.specs.Typing.{AreMembers, HasType, IsAlone, IsMember, IsRight, IsTest, relation_of}
use Rattle.flt_typing.specs.declared.standing.Standing.{Standing}
use Rattle.flt_typing.specs.declared.standing.Standing.TheVariants.{First, Free, Sliced}
use Rattle.flt_typed.specs.declared.typed.Member.{Member}
use Rattle.flt_typed.specs.declared.typed.Member.TheVariants as members
use Rattle.flt_typed.specs.declared.typed.Term.{Term}
use Rattle.flt_typed.specs.declared.typed.Term.TheVariants as terms
use Rattle.flt_typed.specs.declared.typed.Typed.{Typed}
use Rattle.flt_typed.specs.declared.typed.Typed.TheVariants.{Either', Differ', Both', Not', Exists, AnyBit, Compare, Among, Matches}
use Rattle.flt_types.specs.Faults.{Found, PatternAt, IsAnswer, IsClear, are_numbers_written, call_faults, class_faults, element_faults, elements_faults, faults, first_sign, given, is_name, is_number_written, kind_of_word, kind_written, layers_faults, mask_faults, number_faults, operand_faults, ranges_faults, reading_faults, right_faults, slice_faults, tail_faults, takes_written, unless, word_faults}
use Rattle.flt_types.specs.Blame.{by_itself, sign_for, taken, taken_by}
use Rattle.flt_types.specs.declared.position.Side.{Side}
use Rattle.flt_types.specs.declared.position.Side.TheVariants as sides
use Rattle.flt_types.proofs.Answers.{answer_right, clear_both, clear_unless, given_answer, given_clear}
use Rattle.flt_typing.proofs.MaskLemmas.{mask_has}
use Rattle.flt_typed.specs.Kinds.{is_masked, is_number, is_searched, is_sliced, kind_of_call, kind_of_value, same_class, takes}
use Rattle.flt_typing.specs.Literals.{word_read}
use Rattle.flt_typed.specs.declared.constant.Constant.{Constant}
use Rattle.flt_typing.specs.declared.literal.Reading.{Reading}
use Rattle.flt_typing.specs.declared.literal.Reading.TheVariants.{Reads}
use Rattle.flt_typed.specs.declared.relation.Relation.{Relation}
use Rattle.pk_fields.specs.Fields.{field_named, row_of}
use Rattle.pk_fields.specs.declared.value_kind.ValueKind.{ValueKind}

-- the kind of an operand is that of its term
name_kind : (s : Standing) (found : Option ℕ) (field : ℕ) → found ≡ Some field → kind_of_word found s ≡ Some (row_of field).kind
name_kind s found field h = rw h refl

number_value : (c : Constant) (text : List ℕ) → word_read false number_kind text ≡ Reads c → kind_of_value c.value ≡ number_kind
number_value c text h = let number = mask_has number_kind text c refl h in ap kind_of_value number.1

number_named : (before : Option ℕ) (found : Option ℕ) (c : Constant) → found ≡ None → kind_of_value c.value ≡ number_kind → kind_of_word found (Free before) ≡ Some (kind_of_value c.value)
number_named before found c none h = rw (none, h) refl

number_term : (s : Standing) (w : Word) (c : Constant) → IsNumber s w c → kind_of_word (field_named w.text) s ≡ Some (kind_of_value c.value)
number_term (Free before) w c h = number_named before (field_named w.text) c h.0 (number_value c w.text h.1)
number_term s w c h = absurd h

pub term_kind : (s : Standing) (o : WrittenOperand) (t : Term) → IsTerm s o t → kind_written s o ≡ Some (kind_of t)
term_kind s (NamedOf w) (terms.Field field layers) h = name_kind s (field_named w.text) field h.0
term_kind s (NamedOf w) (terms.Constant c) h = number_term s w c h
term_kind s (OnLayerOf w l) (terms.Field field layers) h = ap (option_map (λ f. (row_of f).kind)) h.0
term_kind s (OnLayersOf w ls) (terms.Field field layers) h = ap (option_map (λ f. (row_of f).kind)) h.0
term_kind s (SlicedOf o at rs) (terms.Slice' p t ranges) h = refl
term_kind s (MaskedOf o at w) (terms.Mask' p t mask) h = term_kind (within at s) o t h.0
term_kind s (CalledOf f at o) (terms.Called' g p t) h = ap (λ x. Some (kind_of_call x)) h.2
term_kind s (ComputedOf a at l r) (terms.Computed' b p t q u) h = refl
term_kind s (ArgumentsOf l r) (terms.Arguments' p t q u) h = refl
term_kind s o t h = absurd h

-- a name is a field, and nothing else is one
no_name : (s : Standing) (w : Word) (c : Constant) → IsNumber s w c → is_some (field_named w.text) ≡ false
no_name (Free before) w c h = ap is_some h.0
no_name s w c h = absurd h

name_field : (s : Standing) (o : WrittenOperand) (t : Term) → IsTerm s o t → is_name o ≡ is_field t
name_field s (NamedOf w) (terms.Field field layers) h = ap is_some h.0
name_field s (NamedOf w) (terms.Constant c) h = no_name s w c h
name_field s (OnLayerOf w l) (terms.Field field layers) h = refl
name_field s (OnLayersOf w ls) (terms.Field field layers) h = refl
name_field s (SlicedOf o at rs) (terms.Slice' p t ranges) h = refl
name_field s (MaskedOf o at w) (terms.Mask' p t mask) h = refl
name_field s (CalledOf f at o) (terms.Called' g p t) h = refl
name_field s (ComputedOf a at l r) (terms.Computed' b p t q u) h = refl
name_field s (ArgumentsOf l r) (terms.Arguments' p t q u) h = refl
name_field s o t h = absurd h

-- arguments are numbers as their terms are
both_same : {a b c d : Bool} → a ≡ b → c ≡ d → (a && c) ≡ (b && d)
both_same {a} {b} {c} {d} e f = ap (λ t. t && c) e ∙ ap (λ t. b && t) f

numbers_same : (s : Standing) (o : WrittenOperand) (t : Term) → IsTerm s o t → are_numbers_written s o ≡ are_numbers t
numbers_same s (NamedOf w) (terms.Field field layers) h = ap is_number_written (term_kind s (NamedOf w) (terms.Field field layers) h)
numbers_same s (NamedOf w) (terms.Constant c) h = ap is_number_written (term_kind s (NamedOf w) (terms.Constant c) h)
numbers_same s (OnLayerOf w l) (terms.Field field layers) h = ap is_number_written (term_kind s (OnLayerOf w l) (terms.Field field layers) h)
numbers_same s (OnLayersOf w ls) (terms.Field field layers) h = ap is_number_written (term_kind s (OnLayersOf w ls) (terms.Field field layers) h)
numbers_same s (SlicedOf o at rs) (terms.Slice' p t ranges) h = refl
numbers_same s (MaskedOf o at w) (terms.Mask' p t mask) h = ap is_number_written (term_kind (within at s) o t h.0)
numbers_same s (CalledOf f at o) (terms.Called' g p t) h = ap (λ x. is_number (kind_of_call x)) h.2
numbers_same s (ComputedOf a at l r) (terms.Computed' b p t q u) h = refl
numbers_same s (ArgumentsOf l r) (terms.Arguments' p t q u) h =
    both_same (numbers_same s l t h.0) (ap is_number_written (term_kind (Free None) r u h.1))
numbers_same s o t h = absurd h

pub same_takes : (f : Function) (s : Standing) (o : WrittenOperand) (t : Term) → IsTerm s o t → takes_written f s o (kind_of t) ≡ takes_term f t
same_takes Len s o t h = refl
same_takes Count s o t h = name_field s o t h
same_takes Min s o t h = numbers_same s o t h
same_takes Max s o t h = numbers_same s o t h
same_takes Upper s o t h = refl
same_takes Lower s o t h = refl

known_clear : (found : Option ℕ) (s : Standing) (w : Word) (field : ℕ) → found ≡ Some field → IsClear (word_faults found s w)
known_clear found s w field h = rw h tt

layers_clear : (ls : List LayerRange) → list_all is_layers ls ≡ true → IsClear (layers_faults ls)
layers_clear [] h = tt
layers_clear (l ∷ ls) h =
    let p = and_parts (is_layers l) (list_all is_layers ls) h in
    clear_both (unless (is_layers l) l.at OutOfRange) (layers_faults ls) (clear_unless (is_layers l) l.at OutOfRange p.0) (layers_clear ls p.1)

ranges_clear : (rs : List SliceRange) → list_all (λ r. is_range r.part) rs ≡ true → IsClear (ranges_faults rs)
ranges_clear [] h = tt
ranges_clear (r ∷ rs) h =
    let p = and_parts (is_range r.part) (list_all (λ x. is_range x.part) rs) h in
    clear_both (unless (is_range r.part) r.at OutOfRange) (ranges_faults rs) (clear_unless (is_range r.part) r.at OutOfRange p.0) (ranges_clear rs p.1)

pub reading_clear : (at : ℕ) (reading : Reading) (c : Constant) → reading ≡ Reads c → IsClear (reading_faults at reading)
reading_clear at reading c h = rw h tt

number_read_clear : (before : Option ℕ) (w : Word) (c : Constant) (found : Option ℕ) → found ≡ None → word_read false number_kind w.text ≡ Reads c → IsClear (word_faults found (Free before) w)
number_read_clear before w c found none h = rw none (reading_clear w.at (word_read false number_kind w.text) c h)

number_clear : (s : Standing) (w : Word) (c : Constant) → IsNumber s w c → IsClear (word_faults (field_named w.text) s w)
number_clear (Free before) w c h = number_read_clear before w c (field_named w.text) h.0 h.1
number_clear s w c h = absurd h

pub term_clear : (side : Side) (s : Standing) (o : WrittenOperand) (t : Term) → IsTerm s o t → IsClear (operand_faults side s o)
term_clear side s (NamedOf w) (terms.Field field layers) h = known_clear (field_named w.text) s w field h.0
term_clear side s (NamedOf w) (terms.Constant c) h = number_clear s w c h
term_clear side s (OnLayerOf w l) (terms.Field field layers) h =
    clear_both (word_faults (field_named w.text) Sliced w) (unless (is_layer l) l.at OutOfRange)
    (known_clear (field_named w.text) Sliced w field h.0) (clear_unless (is_layer l) l.at OutOfRange h.1)
term_clear side s (OnLayersOf w ls) (terms.Field field layers) h =
    clear_both (word_faults (field_named w.text) Sliced w) (layers_faults ls)
    (known_clear (field_named w.text) Sliced w field h.0) (layers_clear ls h.1)
term_clear side s (SlicedOf o at rs) (terms.Slice' p t ranges) h =
    clear_both (operand_faults side (in_slice s) o) (given (kind_written (in_slice s) o) (slice_faults at rs)) (term_clear side (in_slice s) o t h.0)
    (given_clear (kind_written (in_slice s) o) (kind_of t) (slice_faults at rs) (term_kind (in_slice s) o t h.0)
    (clear_both (unless (is_sliced (kind_of t)) at TypeMismatch) (ranges_faults rs)
    (clear_unless (is_sliced (kind_of t)) at TypeMismatch h.1) (ranges_clear rs h.2)))
term_clear side s (MaskedOf o at w) (terms.Mask' p t mask) h =
    clear_both (operand_faults (taken at side) (within at s) o) (given (kind_written (within at s) o) (mask_faults at w)) (term_clear (taken at side) (within at s) o t h.0)
    (given_clear (kind_written (within at s) o) (kind_of t) (mask_faults at w) (term_kind (within at s) o t h.0)
    (clear_both (unless (is_masked (kind_of t)) at TypeMismatch) (reading_faults w.at (word_read false (kind_of t) w.text))
    (clear_unless (is_masked (kind_of t)) at TypeMismatch h.1)
    (reading_clear w.at (word_read false (kind_of t) w.text) h.2.0 h.2.1)))
term_clear side s (CalledOf f at o) (terms.Called' g p t) h =
    let inside = argument f at o s in
    let around = taken_by f at o side in
    clear_both (operand_faults around inside o) (given (kind_written inside o) (call_faults f at inside o)) (term_clear around inside o t h.0)
    (given_clear (kind_written inside o) (kind_of t) (call_faults f at inside o) (term_kind inside o t h.0)
    (clear_unless (takes_written f inside o (kind_of t)) at TypeMismatch (same_takes f inside o t h.0 ∙ h.1)))
term_clear side s (ComputedOf a at l r) (terms.Computed' b p t q u) h =
    let behind = Free (Some at) in
    let other = by_itself side in
    let first = number_faults (sign_for s at) in
    clear_both (operand_faults side s l ++ given (kind_written s l) first) (operand_faults other behind r ++ given (kind_written behind r) (number_faults at))
    (clear_both (operand_faults side s l) (given (kind_written s l) first) (term_clear side s l t h.0)
    (given_clear (kind_written s l) (kind_of t) first (term_kind s l t h.0) (clear_unless (is_number (kind_of t)) (sign_for s at) TypeMismatch h.2)))
    (clear_both (operand_faults other behind r) (given (kind_written behind r) (number_faults at)) (term_clear other behind r u h.1)
    (given_clear (kind_written behind r) (kind_of u) (number_faults at) (term_kind behind r u h.1) (clear_unless (is_number (kind_of u)) at TypeMismatch h.3)))
term_clear side s (ArgumentsOf l r) (terms.Arguments' p t q u) h =
    clear_both (operand_faults side s l) (operand_faults (by_itself side) (Free None) r) (term_clear side s l t h.0) (term_clear (by_itself side) (Free None) r u h.1)
term_clear side s o t h = absurd h

-- faults for the kind of an operand's term are those behind the operand
pub behind : (side : Side) (s : Standing) (o : WrittenOperand) (t : Term) (f : ValueKind → List Found) (e : FilterError) →
    IsTerm s o t → IsAnswer (f (kind_of t)) e → IsAnswer (operand_faults side s o ++ given (kind_written s o) f) e
behind side s o t f e h a =
    answer_right (operand_faults side s o) (given (kind_written s o) f) e (term_clear side s o t h)
    (given_answer (kind_written s o) (kind_of t) f e (term_kind s o t h) a)

pub behind_clear : (side : Side) (s : Standing) (o : WrittenOperand) (t : Term) (f : ValueKind → List Found) →
    IsTerm s o t → IsClear (f (kind_of t)) → IsClear (operand_faults side s o ++ given (kind_written s o) f)
behind_clear side s o t f h c =
    clear_both (operand_faults side s o) (given (kind_written s o) f) (term_clear side s o t h)
    (given_clear (kind_written s o) (kind_of t) f (term_kind s o t h) c)

-- a right side
constant_clear : (relation : Relation) (at : ℕ) (kind : ValueKind) (o : WrittenOperand) (found : Option Literal) (l : Literal) (c : Constant) →
    found ≡ Some l → side_read relation kind l ≡ Reads c → IsClear (right_faults relation at kind o found)
constant_clear relation at kind o found l c is read = rw is (reading_clear (place_of_literal l) (side_read relation kind l) c read)

operand_clear : (relation : Relation) (at : ℕ) (kind : ValueKind) (o : WrittenOperand) (found : Option Literal) (t : Term) →
    found ≡ None → IsTerm (Free None) o t → same_class kind (kind_of t) ≡ true → IsClear (right_faults relation at kind o found)
operand_clear relation at kind o found t is h same =
    rw is (behind_clear (sides.Right None) (Free None) o t (class_faults at kind) h (clear_unless (same_class kind (kind_of t)) at TypeMismatch same))

right_clear : (relation : Relation) (at : ℕ) (kind : ValueKind) (o : WrittenOperand) (t : Term) → IsRight relation kind o t → IsClear (right_faults relation at kind o (literal_of o))
right_clear relation at kind o (terms.Constant c) h = constant_clear relation at kind o (literal_of o) h.0 c h.1 h.2
right_clear relation at kind o t h = operand_clear relation at kind o (literal_of o) t h.0 h.1 h.2

-- a set
pub member_clear : (kind : ValueKind) (e : Element) (m : Member) → IsMember kind e m → IsClear (element_faults kind e)
member_clear kind (elements.One l) (members.One c) h = reading_clear (place_of_literal l) (literal_read true kind l) c h
member_clear kind (elements.Between l m) (members.Between c d) h =
    clear_both (reading_faults (place_of_literal l) (end_read kind l)) (reading_faults (place_of_literal m) (end_read kind m))
    (reading_clear (place_of_literal l) (end_read kind l) c h.0) (reading_clear (place_of_literal m) (end_read kind m) d h.1)
member_clear kind e m h = absurd h

pub members_clear : (kind : ValueKind) (es : List Element) (ms : List Member) → AreMembers kind es ms → IsClear (elements_faults kind es)
members_clear kind [] ms h = tt
members_clear kind (e ∷ es) (m ∷ ms) h =
    clear_both (element_faults kind e) (elements_faults kind es) (member_clear kind e m h.0) (members_clear kind es ms h.1)
members_clear kind (e ∷ es) [] h = absurd h

-- a test
test_clear : (choice : Option Choice) (o : WrittenOperand) (tail : WrittenTail) (filter : Typed) → IsTest choice o tail filter → IsClear (faults (TestOf choice o tail))
test_clear choice o (CompareOf operator at right) (Compare relation pairs t r) h =
    behind_clear sides.Left First o t (tail_faults (CompareOf operator at right)) h.0
    (clear_both (unless (takes (relation_of operator) (kind_of t)) at TypeMismatch) (right_faults (relation_of operator) at (kind_of t) right (literal_of right))
    (clear_unless (takes (relation_of operator) (kind_of t)) at TypeMismatch (ap (λ x. takes x (kind_of t)) (sym h.1) ∙ h.3))
    (right_clear (relation_of operator) at (kind_of t) right r (subst (λ x. IsRight x (kind_of t) right r) h.1 h.4)))
test_clear choice o (InOf negated es) (Among opposite pairs t ms) h =
    behind_clear sides.Left First o t (tail_faults (InOf negated es)) h.0 (members_clear (kind_of t) es ms.items h.3)
test_clear choice o (MatchesOf at q) (Matches pairs t pattern) h =
    behind_clear sides.Left First o t (tail_faults (MatchesOf at q)) h.0
    (clear_both (unless (is_searched (kind_of t)) at TypeMismatch) (PatternAt q.at q.bytes ∷ [])
    (clear_unless (is_searched (kind_of t)) at TypeMismatch h.2) (h.4, tt))
test_clear choice o tail filter h = absurd h

alone_clear : (o : WrittenOperand) (filter : Typed) → IsAlone o filter → IsClear (faults (AloneOf o))
alone_clear (NamedOf w) (Exists t) h = clear_both (operand_faults sides.Left First (NamedOf w)) [] (term_clear sides.Left First (NamedOf w) t h) tt
alone_clear (OnLayerOf w l) (Exists t) h = clear_both (operand_faults sides.Left First (OnLayerOf w l)) [] (term_clear sides.Left First (OnLayerOf w l) t h) tt
alone_clear (OnLayersOf w ls) (Exists t) h = clear_both (operand_faults sides.Left First (OnLayersOf w ls)) [] (term_clear sides.Left First (OnLayersOf w ls) t h) tt
alone_clear (SlicedOf o at rs) (Exists t) h = clear_both (operand_faults sides.Left First (SlicedOf o at rs)) [] (term_clear sides.Left First (SlicedOf o at rs) t h) tt
alone_clear (MaskedOf o at w) (AnyBit t) h = clear_both (operand_faults sides.Left First (MaskedOf o at w)) [] (term_clear sides.Left First (MaskedOf o at w) t h) tt
alone_clear (ArgumentsOf l r) (Exists t) h = clear_both (operand_faults sides.Left First (ArgumentsOf l r)) [] (term_clear sides.Left First (ArgumentsOf l r) t h) tt
alone_clear o filter h = absurd h

-- a filter with a type has no fault
pub type_clear : (t : Written) (filter : Typed) → HasType t filter → IsClear (faults t)
type_clear (JoinedOf joins.Or l r) (Either' p left q right) h = clear_both (faults l) (faults r) (type_clear l left h.0) (type_clear r right h.1)
type_clear (JoinedOf joins.Xor l r) (Differ' p left q right) h = clear_both (faults l) (faults r) (type_clear l left h.0) (type_clear r right h.1)
type_clear (JoinedOf joins.And l r) (Both' p left q right) h = clear_both (faults l) (faults r) (type_clear l left h.0) (type_clear r right h.1)
type_clear (NotOf n t) (Not' p filter) h = type_clear t filter h
type_clear (GroupOf t) filter h = type_clear t filter h
type_clear (AloneOf o) filter h = alone_clear o filter h
type_clear (TestOf choice o tail) filter h = test_clear choice o tail filter h
type_clear t filter h = absurd h

pub slice_behind : (side : Side) (s : Standing) (o : WrittenOperand) (t : Term) (at : ℕ) (rs : List SliceRange) (e : FilterError) →
    IsTerm s o t → IsAnswer (slice_faults at rs (kind_of t)) e → IsAnswer (operand_faults side s o ++ given (kind_written s o) (slice_faults at rs)) e
slice_behind side s o t at rs e h a = behind side s o t (slice_faults at rs) e h a

pub mask_behind : (side : Side) (s : Standing) (o : WrittenOperand) (t : Term) (at : ℕ) (w : Word) (e : FilterError) →
    IsTerm s o t → IsAnswer (mask_faults at w (kind_of t)) e → IsAnswer (operand_faults side s o ++ given (kind_written s o) (mask_faults at w)) e
mask_behind side s o t at w e h a = behind side s o t (mask_faults at w) e h a

pub call_behind : (side : Side) (s : Standing) (o : WrittenOperand) (t : Term) (at : ℕ) (f : Function) (e : FilterError) →
    IsTerm s o t → IsAnswer (unless (takes_term f t) at TypeMismatch) e → IsAnswer (operand_faults side s o ++ given (kind_written s o) (call_faults f at s o)) e
call_behind side s o t at f e h a = behind side s o t (call_faults f at s o) e h (rw (same_takes f s o t h) a)

pub class_behind : (at : ℕ) (kind : ValueKind) (o : WrittenOperand) (t : Term) (e : FilterError) →
    IsTerm (Free None) o t → IsAnswer (unless (same_class kind (kind_of t)) at TypeMismatch) e → IsAnswer (operand_faults (sides.Right None) (Free None) o ++ given (kind_written (Free None) o) (class_faults at kind)) e
class_behind at kind o t e h a = behind (sides.Right None) (Free None) o t (class_faults at kind) e h a

pub test_behind : (o : WrittenOperand) (t : Term) (tail : WrittenTail) (e : FilterError) →
    IsTerm First o t → IsAnswer (tail_faults tail (kind_of t)) e → IsAnswer (operand_faults sides.Left First o ++ given (kind_written First o) (tail_faults tail)) e
test_behind o t tail e h a = behind sides.Left First o t (tail_faults tail) e h a

pub alone_behind : (f : Function) (at : ℕ) (o : WrittenOperand) (t : Term) (e : FilterError) →
    IsTerm First (CalledOf f at o) t → IsAnswer (unless false at TypeMismatch) e → IsAnswer (faults (AloneOf (CalledOf f at o))) e
alone_behind f at o t e h a =
    answer_right (operand_faults sides.Left First (CalledOf f at o)) (unless false at TypeMismatch) e (term_clear sides.Left First (CalledOf f at o) t h) a

pub sum_behind : (a : Arithmetic) (at sign : ℕ) (l r : WrittenOperand) (t : Term) (e : FilterError) → sign ≡ first_sign at l →
    IsTerm First (ComputedOf a at l r) t → IsAnswer (unless false sign TypeMismatch) e → IsAnswer (faults (AloneOf (ComputedOf a at l r))) e
sum_behind a at sign l r t e is h found =
    answer_right (operand_faults sides.Left First (ComputedOf a at l r)) (unless false (first_sign at l) TypeMismatch) e (term_clear sides.Left First (ComputedOf a at l r) t h)
    (subst (λ place. IsAnswer (unless false place TypeMismatch) e) is found)

pub joined_behind : (l r : Written) (filter : Typed) (e : FilterError) → HasType l filter → IsAnswer (faults r) e → IsAnswer (faults l ++ faults r) e
joined_behind l r filter e h a = answer_right (faults l) (faults r) e (type_clear l filter h) a

-- a term with the left operand's class is a right side
no_literal : (w : Word) (found : Option ℕ) → found ≡ None → word_or_name w found ≡ None → ⊥
no_literal w (Some field) none is = cc
no_literal w None none is = cc

pub right_term : (relation : Relation) (kind : ValueKind) (o : WrittenOperand) (t : Term) →
    literal_of o ≡ None → IsTerm (Free None) o t → same_class kind (kind_of t) ≡ true → IsRight relation kind o t
right_term relation kind o (terms.Field field layers) is h same = (is, h, same)
right_term relation kind o (terms.Slice' p t ranges) is h same = (is, h, same)
right_term relation kind o (terms.Mask' p t mask) is h same = (is, h, same)
right_term relation kind o (terms.Called' f p t) is h same = (is, h, same)
right_term relation kind o (terms.Computed' a p t q u) is h same = (is, h, same)
right_term relation kind o (terms.Arguments' p t q u) is h same = (is, h, same)
right_term relation kind (TextOf q) (terms.Constant c) is h same = absurd h
right_term relation kind (NamedOf w) (terms.Constant c) is h same = absurd (no_literal w (field_named w.text) h.0 is)
right_term relation kind (OnLayerOf w l) (terms.Constant c) is h same = absurd h
right_term relation kind (OnLayersOf w ls) (terms.Constant c) is h same = absurd h
right_term relation kind (SlicedOf o at rs) (terms.Constant c) is h same = absurd h
right_term relation kind (MaskedOf o at w) (terms.Constant c) is h same = absurd h
right_term relation kind (CalledOf f at o) (terms.Constant c) is h same = absurd h
right_term relation kind (ComputedOf a at l r) (terms.Constant c) is h same = absurd h
right_term relation kind (ArgumentsOf l r) (terms.Constant c) is h same = absurd h

pub among_behind : (o : WrittenOperand) (t : Term) (es : List Element) (e : FilterError) →
    IsTerm First o t → IsAnswer (elements_faults (kind_of t) es) e → IsAnswer (operand_faults sides.Left First o ++ given (kind_written First o) (λ kind. elements_faults kind es)) e
among_behind o t es e h a = behind sides.Left First o t (λ kind. elements_faults kind es) e h a

pub search_behind : (o : WrittenOperand) (t : Term) (at place : ℕ) (text : List ℕ) (e : FilterError) →
    IsTerm First o t → IsAnswer (unless (is_searched (kind_of t)) at TypeMismatch ++ PatternAt place text ∷ []) e →
    IsAnswer (operand_faults sides.Left First o ++ given (kind_written First o) (λ kind. unless (is_searched kind) at TypeMismatch ++ PatternAt place text ∷ [])) e
search_behind o t at place text e h a = behind sides.Left First o t (λ kind. unless (is_searched kind) at TypeMismatch ++ PatternAt place text ∷ []) e h a

-- the members that were read are all
pub members_done : (kind : ValueKind) (es : List Element) (i : ℕ) (ms : List Member) → drop i es ≡ [] →
    ((more : List Member) → AreMembers kind (drop i es) more → AreMembers kind es (ms ++ more)) → AreMembers kind es ms
members_done kind es i ms all so_far = subst (AreMembers kind es) (append-nil ms) (so_far [] (rw all tt))

pub compare_behind : (o : WrittenOperand) (t : Term) (operator : Operator) (at : ℕ) (right : WrittenOperand) (relation : Relation) (kind : ValueKind) (e : FilterError) →
    relation ≡ relation_of operator → kind ≡ kind_of t → IsTerm First o t →
    IsAnswer (unless (takes relation kind) at TypeMismatch ++ right_faults relation at kind right (literal_of right)) e →
    IsAnswer (operand_faults sides.Left First o ++ given (kind_written First o) (tail_faults (CompareOf operator at right))) e
compare_behind o t operator at right relation kind e asked is h a =
    behind sides.Left First o t (tail_faults (CompareOf operator at right)) e h (rw (← asked, ← is) a)
