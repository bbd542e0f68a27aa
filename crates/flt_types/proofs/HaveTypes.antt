-- What has no fault has a type.
use Rattle.std.proofs.Common.{◌≡◌, ℕ, Bool, true, false, ◌&&◌, List, [], ◌∷◌, ◌++◌, length, map, Option, Some, None, sym, subst, refl, ◌∙◌, arith, Global}
use Rattle.std.specs.Global.{Box, Vec}
use Rattle.std.specs.List.{list_all}
use denote.RawPtr.{null_ptr}
use Rattle.flt_syntax.specs.Grammar.{choice, not_before, operand, ranges, set, spelled, tail}
use Rattle.flt_syntax.specs.Written.{Written, WrittenOperand, WrittenTail, TextOf, NamedOf, OnLayerOf, OnLayersOf, SlicedOf, MaskedOf, CalledOf, ComputedOf, ArgumentsOf, CompareOf, InOf, MatchesOf, JoinedOf, NotOf, GroupOf, AloneOf, TestOf}
use Rattle.flt_syntax.specs.declared.ast.Arithmetic.{Arithmetic}
use Rattle.flt_syntax.specs.declared.ast.Choice.{Choice}
use Rattle.flt_syntax.specs.declared.ast.Choice.TheVariants.{Any}
use Rattle.flt_syntax.specs.declared.ast.Element.{Element}
use Rattle.flt_syntax.specs.declared.ast.Element.TheVariants as elements
use Rattle.flt_syntax.specs.declared.ast.Function.{Function}
use Rattle.flt_syntax.specs.declared.ast.LayerRange.{LayerRange}
use Rattle.flt_syntax.specs.declared.ast.Literal.{Literal}
use Rattle.flt_syntax.specs.declared.ast.Negation.{Negation}
use Rattle.flt_syntax.specs.declared.ast.SliceRange.{SliceRange}
use Rattle.flt_syntax.specs.declared.fault.FilterReason.{FilterReason}
use Rattle.flt_syntax.specs.declared.fault.FilterReason.TheVariants.{TypeMismatch, OutOfRange}
use Rattle.flt_syntax.specs.declared.token.Join.{Join}
use Rattle.flt_syntax.specs.declared.token.Join.TheVariants as joins
use Rattle.flt_syntax.specs.declared.token.Kind.TheVariants as kinds
use Rattle.flt_syntax.specs.declared.word.Word.{Word}
use Rattle.flt_syntax.proofs.Few.{spelled_few}
use Rattle.flt_typing.specs.Layers.{is_layer, is_layers, layers_of, one_layer}
use Rattle.flt_typing.specs.Constants.{end_read, literal_of, literal_read, place_of_literal, side_read}
use Rattle.flt_typing.specs.Ranges.{is_range}
use Rattle.flt_typing.specs.Standing.{argument, in_slice, within}
use Rattle.flt_typing.specs.Terms.{IsMask, IsTerm, kind_of, number_kind}
use Rattle.flt_typing.specs.Typing.{AreMembers, HasType, IsAlone, IsMember, IsRight, IsTest, choice_of, chosen, relation_of}
use Rattle.flt_typing.specs.declared.standing.Standing.{Standing}
use Rattle.flt_typing.specs.declared.standing.Standing.TheVariants.{First, Free, Within, Sliced}
use Rattle.flt_typed.specs.declared.typed.Member.{Member}
use Rattle.flt_typed.specs.declared.typed.Member.TheVariants as members
use Rattle.flt_typed.specs.declared.typed.Term.{Term}
use Rattle.flt_typed.specs.declared.typed.Term.TheVariants as terms
use Rattle.flt_typed.specs.declared.typed.Typed.{Typed}
use Rattle.flt_typed.specs.declared.typed.Typed.TheVariants.{Either', Differ', Both', Not', Exists, AnyBit, Compare, Among, Matches}
use Rattle.flt_types.specs.Faults.{Found, At, PatternAt, IsClear, alone_faults, call_faults, class_faults, element_faults, elements_faults, faults, given, kind_written, layers_faults, mask_faults, nameless, number_faults, operand_faults, ranges_faults, reading_faults, right_faults, slice_faults, tail_faults, takes_written, unless, word_faults}
use Rattle.flt_types.specs.Laws.{ClearIsTyped}
use Rattle.flt_types.specs.Blame.{by_itself, sign_for, taken, taken_by}
use Rattle.flt_types.specs.declared.position.Side.{Side}
use Rattle.flt_types.specs.declared.position.Side.TheVariants as sides
use Rattle.flt_types.proofs.Clear.{right_term, same_takes, term_kind}
use Rattle.flt_types.proofs.Few.{IsFew, few_elements, few_left, few_ranges, few_rest, few_right}
use Rattle.flt_typed.specs.Kinds.{is_masked, is_number, is_searched, is_sliced, same_class, takes}
use Rattle.flt_typing.specs.Literals.{word_read}
use Rattle.flt_typing.proofs.MaskLemmas.{mask_has}
use Rattle.flt_typed.specs.declared.constant.Constant.{Constant}
use Rattle.flt_typing.specs.declared.literal.Reading.{Reading}
use Rattle.flt_typing.specs.declared.literal.Reading.TheVariants.{Reads, Beyond, Unread}
use Rattle.flt_typed.specs.declared.relation.Relation.{Relation}
use Rattle.pk_fields.specs.Fields.{field_named}
use Rattle.pk_fields.specs.declared.value_kind.ValueKind.{ValueKind}
use Rattle.pk_base.specs.declared.chosen.Layers.TheVariants.{All, These}

-- what is where in memory is no matter
heap : Global
heap = record { memory = record { seal = tt } }

place : Box (Unit {0})
place = record { ptr = null_ptr; alloc = heap; value = tt }

-- lists are the items of a `Vec`
vec_of : {A : Type 0} (xs : List A) → IsFew xs → (v : Vec A) × (v.items ≡ xs)
vec_of xs few =
    (record { ptr = null_ptr; len = length xs; cap = length xs; alloc = heap; items = xs; ok = (refl, omega arith); small = few }, refl)

-- without a fault
clear_left : (a b : List Found) → IsClear (a ++ b) → IsClear a
clear_left [] b h = tt
clear_left (At p w ∷ a) b h = absurd h
clear_left (PatternAt p t ∷ a) b h = (h.0, clear_left a b h.1)

clear_right : (a b : List Found) → IsClear (a ++ b) → IsClear b
clear_right [] b h = h
clear_right (At p w ∷ a) b h = absurd h
clear_right (PatternAt p t ∷ a) b h = clear_right a b h.1

test_holds : (test : Bool) (at : ℕ) (reason : FilterReason) → IsClear (unless test at reason) → test ≡ true
test_holds true at reason h = refl
test_holds false at reason h = absurd h

is_reading : (at : ℕ) (reading : Reading) → IsClear (reading_faults at reading) → (c : Constant) × (reading ≡ Reads c)
is_reading at (Reads c) h = (c, refl)
is_reading at Beyond h = absurd h
is_reading at Unread h = absurd h

both_hold : (a b : Bool) → a ≡ true → b ≡ true → (a && b) ≡ true
both_hold a b p q = rw (p, q) refl

layers_hold : (ls : List LayerRange) → IsClear (layers_faults ls) → list_all is_layers ls ≡ true
layers_hold [] h = refl
layers_hold (l ∷ ls) h =
    both_hold (is_layers l) (list_all is_layers ls)
    (test_holds (is_layers l) l.at OutOfRange (clear_left (unless (is_layers l) l.at OutOfRange) (layers_faults ls) h))
    (layers_hold ls (clear_right (unless (is_layers l) l.at OutOfRange) (layers_faults ls) h))

ranges_hold : (rs : List SliceRange) → IsClear (ranges_faults rs) → list_all (λ r. is_range r.part) rs ≡ true
ranges_hold [] h = refl
ranges_hold (r ∷ rs) h =
    both_hold (is_range r.part) (list_all (λ r. is_range r.part) rs)
    (test_holds (is_range r.part) r.at OutOfRange (clear_left (unless (is_range r.part) r.at OutOfRange) (ranges_faults rs) h))
    (ranges_hold rs (clear_right (unless (is_range r.part) r.at OutOfRange) (ranges_faults rs) h))

few_parts : (rs : List SliceRange) → length (map (λ r. r.part) rs) ≡ length rs
few_parts [] = refl
few_parts (r ∷ rs) = omega (arith, few_parts rs)

mask_of : (kind : ValueKind) (text : List ℕ) → is_masked kind ≡ true → (c : Constant) × (word_read false kind text ≡ Reads c) → (m : ℕ) × IsMask kind text m
mask_of kind text is read =
    let number = mask_has kind text read.0 is read.1 in
    (number.0, (read.0, read.1, number.1))

-- a term; the kind around it is that of what is written
abbrev TermOf : Standing → WrittenOperand → Type 0
TermOf st o = (t : Term) × IsTerm st o t

given_at : (side : Side) (st : Standing) (o : WrittenOperand) (t : Term) (f : ValueKind → List Found) → IsTerm st o t
    → IsClear (operand_faults side st o ++ given (kind_written st o) f) → IsClear (f (kind_of t))
given_at side st o t f is h =
    let behind = clear_right (operand_faults side st o) (given (kind_written st o) f) h in
    subst (λ (k : Option ValueKind). IsClear (given k f)) (term_kind st o t is) behind

-- a word that names a field, or is a number
abbrev Named : Option ℕ → Type 0
Named found = (field : ℕ) × (found ≡ Some field)

layer_name : (found : Option ℕ) (w : Word) → IsClear (word_faults found Sliced w) → Named found
layer_name (Some field) w h = (field, refl)
layer_name None w h = absurd h

number_of : (st : Standing) (w : Word) → field_named w.text ≡ None → IsClear (nameless st w) → TermOf st (NamedOf w)
number_of First w none h = absurd h
number_of Sliced w none h = absurd h
number_of (Within around) w none h = absurd h
number_of (Free before) w none h =
    let read = is_reading w.at (word_read false number_kind w.text) h in
    (terms.Constant read.0, (none, read.1))

word_of : (st : Standing) (w : Word) (found : Option ℕ) → field_named w.text ≡ found → IsClear (word_faults found st w) → TermOf st (NamedOf w)
word_of st w (Some field) is h = (terms.Field field All, (is, refl))
word_of st w None is h = number_of st w is h

slice_of : (side : Side) (st : Standing) (o : WrittenOperand) (at : ℕ) (rs : List SliceRange) → IsFew rs → TermOf (in_slice st) o
    → IsClear (operand_faults side (in_slice st) o ++ given (kind_written (in_slice st) o) (slice_faults at rs)) → TermOf st (SlicedOf o at rs)
slice_of side st o at rs few (t, is) h =
    let own = given_at side (in_slice st) o t (slice_faults at rs) is h in
    let parts = vec_of (map (λ r. r.part) rs) (omega (arith, few_parts rs)) in (
      terms.Slice' place t parts.0,
      (
        is,
        test_holds (is_sliced (kind_of t)) at TypeMismatch (clear_left (unless (is_sliced (kind_of t)) at TypeMismatch) (ranges_faults rs) own),
        ranges_hold rs (clear_right (unless (is_sliced (kind_of t)) at TypeMismatch) (ranges_faults rs) own),
        parts.1,
      ),
    )

masked_of : (side : Side) (st : Standing) (o : WrittenOperand) (at : ℕ) (w : Word) → TermOf (within at st) o
    → IsClear (operand_faults (taken at side) (within at st) o ++ given (kind_written (within at st) o) (mask_faults at w)) → TermOf st (MaskedOf o at w)
masked_of side st o at w (t, is) h =
    let own = given_at (taken at side) (within at st) o t (mask_faults at w) is h in
    let reading = reading_faults w.at (word_read false (kind_of t) w.text) in
    let bits = test_holds (is_masked (kind_of t)) at TypeMismatch (clear_left (unless (is_masked (kind_of t)) at TypeMismatch) reading own) in
    let read = is_reading w.at (word_read false (kind_of t) w.text) (clear_right (unless (is_masked (kind_of t)) at TypeMismatch) reading own) in
    let mask = mask_of (kind_of t) w.text bits read in
    (terms.Mask' place t mask.0, (is, bits, mask.1))

called_of : (side : Side) (st : Standing) (f : Function) (at : ℕ) (o : WrittenOperand) → TermOf (argument f at o st) o
    → IsClear (operand_faults (taken_by f at o side) (argument f at o st) o ++ given (kind_written (argument f at o st) o) (call_faults f at (argument f at o st) o))
    → TermOf st (CalledOf f at o)
called_of side st f at o (t, is) h =
    let inside = argument f at o st in
    let around = taken_by f at o side in
    let own = given_at around inside o t (call_faults f at inside o) is h in
    (terms.Called' f place t, (is, sym (same_takes f inside o t is) ∙ test_holds (takes_written f inside o (kind_of t)) at TypeMismatch own, refl))

-- a side of a sign, which is a number
abbrev NumberOf : Standing → WrittenOperand → Type 0
NumberOf st o = (t : Term) × IsTerm st o t × (is_number (kind_of t) ≡ true)

side_of : (side : Side) (st : Standing) (o : WrittenOperand) (at : ℕ) → TermOf st o → IsClear (operand_faults side st o ++ given (kind_written st o) (number_faults at)) → NumberOf st o
side_of side st o at (t, is) h = (t, is, test_holds (is_number (kind_of t)) at TypeMismatch (given_at side st o t (number_faults at) is h))

computed_of : (st : Standing) (a : Arithmetic) (at : ℕ) (l r : WrittenOperand) → NumberOf st l → NumberOf (Free (Some at)) r → TermOf st (ComputedOf a at l r)
computed_of st a at l r (left, is, number) (right, also, other) = (terms.Computed' a place left place right, (is, also, number, other, refl))

arguments_of : (st : Standing) (l r : WrittenOperand) → TermOf st l → TermOf (Free None) r → TermOf st (ArgumentsOf l r)
arguments_of st l r (left, is) (right, also) = (terms.Arguments' place left place right, (is, also))

term_of : (side : Side) (st : Standing) (o : WrittenOperand) → IsFew (operand o) → IsClear (operand_faults side st o) → TermOf st o
term_of side st (TextOf q) few h = absurd h
term_of side st (NamedOf w) few h = word_of st w (field_named w.text) refl h
term_of side st (OnLayerOf w l) few h =
    let name = word_faults (field_named w.text) Sliced w in
    let layer = unless (is_layer l) l.at OutOfRange in
    let named = layer_name (field_named w.text) w (clear_left name layer h) in
    (terms.Field named.0 (These (one_layer l ∷ [])), (named.1, test_holds (is_layer l) l.at OutOfRange (clear_right name layer h), refl))
term_of side st (OnLayersOf w ls) few h =
    let name = word_faults (field_named w.text) Sliced w in
    let named = layer_name (field_named w.text) w (clear_left name (layers_faults ls) h) in
    (terms.Field named.0 (These (map layers_of ls)), (named.1, layers_hold ls (clear_right name (layers_faults ls) h), refl))
term_of side st (SlicedOf o at rs) few h =
    slice_of side st o at rs (few_ranges at rs (few_right (operand o) (ranges at rs) few))
    (term_of side (in_slice st) o (few_left (operand o) (ranges at rs) few)
    (clear_left (operand_faults side (in_slice st) o) (given (kind_written (in_slice st) o) (slice_faults at rs)) h)) h
term_of side st (MaskedOf o at w) few h =
    masked_of side st o at w
    (term_of (taken at side) (within at st) o (few_left (operand o) (kinds.Mask at ∷ kinds.Name w ∷ []) few)
    (clear_left (operand_faults (taken at side) (within at st) o) (given (kind_written (within at st) o) (mask_faults at w)) h)) h
term_of side st (CalledOf f at o) few h =
    let inside = argument f at o st in
    let around = taken_by f at o side in
    called_of side st f at o
    (term_of around inside o (few_left (operand o) (kinds.Close ∷ []) (few_rest (kinds.Calls f at) (operand o ++ kinds.Close ∷ []) few))
    (clear_left (operand_faults around inside o) (given (kind_written inside o) (call_faults f at inside o)) h)) h
term_of side st (ComputedOf a at l r) few h =
    let other = Free (Some at) in
    let first = given (kind_written st l) (number_faults (sign_for st at)) in
    let second = given (kind_written other r) (number_faults at) in
    let left = clear_left (operand_faults side st l ++ first) (operand_faults (by_itself side) other r ++ second) h in
    let right = clear_right (operand_faults side st l ++ first) (operand_faults (by_itself side) other r ++ second) h in
    computed_of st a at l r
    (side_of side st l (sign_for st at) (term_of side st l (few_left (operand l) (kinds.Computes a at ∷ operand r) few) (clear_left (operand_faults side st l) first left)) left)
    (side_of (by_itself side) other r at
    (term_of (by_itself side) other r (few_rest (kinds.Computes a at) (operand r) (few_right (operand l) (kinds.Computes a at ∷ operand r) few))
    (clear_left (operand_faults (by_itself side) other r) second right)) right)
term_of side st (ArgumentsOf l r) few h =
    arguments_of st l r
    (term_of side st l (few_left (operand l) (kinds.Comma ∷ operand r) few) (clear_left (operand_faults side st l) (operand_faults (by_itself side) (Free None) r) h))
    (term_of (by_itself side) (Free None) r (few_rest kinds.Comma (operand r) (few_right (operand l) (kinds.Comma ∷ operand r) few))
    (clear_right (operand_faults side st l) (operand_faults (by_itself side) (Free None) r) h))

-- a right side
right_of : (relation : Relation) (at : ℕ) (kind : ValueKind) (o : WrittenOperand) (found : Option Literal) → IsFew (operand o) → literal_of o ≡ found
    → IsClear (right_faults relation at kind o found) → (t : Term) × IsRight relation kind o t
right_of relation at kind o (Some literal) few is h =
    let read = is_reading (place_of_literal literal) (side_read relation kind literal) h in
    (terms.Constant read.0, (literal, is, read.1))
right_of relation at kind o None few is h =
    let term = term_of (sides.Right None) (Free None) o few (clear_left (operand_faults (sides.Right None) (Free None) o) (given (kind_written (Free None) o) (class_faults at kind)) h) in
    let same = test_holds (same_class kind (kind_of term.0)) at TypeMismatch (given_at (sides.Right None) (Free None) o term.0 (class_faults at kind) term.1 h) in
    (term.0, right_term relation kind o term.0 is term.1 same)

-- a set
member_of : (kind : ValueKind) (e : Element) → IsClear (element_faults kind e) → (m : Member) × IsMember kind e m
member_of kind (elements.One l) h =
    let read = is_reading (place_of_literal l) (literal_read true kind l) h in
    (members.One read.0, read.1)
member_of kind (elements.Between l m) h =
    let low = reading_faults (place_of_literal l) (end_read kind l) in
    let high = reading_faults (place_of_literal m) (end_read kind m) in
    let first = is_reading (place_of_literal l) (end_read kind l) (clear_left low high h) in
    let last = is_reading (place_of_literal m) (end_read kind m) (clear_right low high h) in
    (members.Between first.0 last.0, (first.1, last.1))

members_of : (kind : ValueKind) (es : List Element) → IsClear (elements_faults kind es) → (ms : List Member) × AreMembers kind es ms × (length ms ≡ length es)
members_of kind [] h = ([], tt, refl)
members_of kind (e ∷ es) h =
    let one = member_of kind e (clear_left (element_faults kind e) (elements_faults kind es) h) in
    let more = members_of kind es (clear_right (element_faults kind e) (elements_faults kind es) h) in
    let count = more.2 in
    (one.0 ∷ more.0, (one.1, more.1), omega (arith, count))

set_of : (kind : ValueKind) (es : List Element) → IsFew es → IsClear (elements_faults kind es) → (ms : Vec Member) × AreMembers kind es ms.items
set_of kind es few h =
    let all = members_of kind es h in
    let count = all.2 in
    let vec = vec_of all.0 (omega (arith, count)) in
    (vec.0, subst (AreMembers kind es) (sym vec.1) all.1)

-- a test
abbrev TestIs : Option Choice → WrittenOperand → WrittenTail → Type 0
TestIs choice o tail = (filter : Typed) × IsTest choice o tail filter

tail_of : (c : Option Choice) (o : WrittenOperand) (t : WrittenTail) (term : Term) → IsFew (tail t) → IsTerm First o term → IsClear (tail_faults t (kind_of term)) → TestIs c o t
tail_of c o (CompareOf operator at right) term few is h =
    let asked = unless (takes (relation_of operator) (kind_of term)) at TypeMismatch in
    let side = right_faults (relation_of operator) at (kind_of term) right (literal_of right) in
    let other = right_of (relation_of operator) at (kind_of term) right (literal_of right) (few_rest (kinds.Compares operator at) (operand right) few) refl (clear_right asked side h) in (
      Compare (relation_of operator) (chosen c (choice_of operator)) term other.0,
      (is, refl, refl, test_holds (takes (relation_of operator) (kind_of term)) at TypeMismatch (clear_left asked side h), other.1),
    )
tail_of c o (InOf negated es) term few is h =
    let all = set_of (kind_of term) es (few_elements es (few_rest kinds.In (set es) (few_right (not_before negated) (kinds.In ∷ set es) few))) h in
    (Among negated (chosen c Any) term all.0, (is, refl, refl, all.1))
tail_of c o (MatchesOf at q) term few is h =
    let asked = unless (is_searched (kind_of term)) at TypeMismatch in
    let pattern = clear_right asked (PatternAt q.at q.bytes ∷ []) h in (
      Matches (chosen c Any) term q.bytes,
      (is, refl, test_holds (is_searched (kind_of term)) at TypeMismatch (clear_left asked (PatternAt q.at q.bytes ∷ []) h), refl, pattern.0),
    )

test_of : (c : Option Choice) (o : WrittenOperand) (t : WrittenTail) → IsFew (operand o ++ tail t) → IsClear (faults (TestOf c o t)) → TestIs c o t
test_of c o t few h =
    let term = term_of sides.Left First o (few_left (operand o) (tail t) few) (clear_left (operand_faults sides.Left First o) (given (kind_written First o) (tail_faults t)) h) in
    tail_of c o t term.0 (few_right (operand o) (tail t) few) term.1 (given_at sides.Left First o term.0 (tail_faults t) term.1 h)

alone_is : (o : WrittenOperand) → TermOf First o → IsClear (alone_faults o) → (filter : Typed) × IsAlone o filter
alone_is (TextOf q) (t, is) h = absurd is
alone_is (NamedOf w) (t, is) h = (Exists t, is)
alone_is (OnLayerOf w l) (t, is) h = (Exists t, is)
alone_is (OnLayersOf w ls) (t, is) h = (Exists t, is)
alone_is (SlicedOf o at rs) (t, is) h = (Exists t, is)
alone_is (MaskedOf o at w) (t, is) h = (AnyBit t, is)
alone_is (CalledOf f at o) (t, is) h = absurd h
alone_is (ComputedOf a at l r) (t, is) h = absurd h
alone_is (ArgumentsOf l r) (t, is) h = (Exists t, is)

alone_of : (o : WrittenOperand) → IsFew (operand o) → IsClear (faults (AloneOf o)) → (filter : Typed) × IsAlone o filter
alone_of o few h =
    alone_is o (term_of sides.Left First o few (clear_left (operand_faults sides.Left First o) (alone_faults o) h)) (clear_right (operand_faults sides.Left First o) (alone_faults o) h)

-- a filter
abbrev FilterIs : Written → Type 0
FilterIs t = (filter : Typed) × HasType t filter

joined_is : (j : Join) (l r : Written) → FilterIs l → FilterIs r → FilterIs (JoinedOf j l r)
joined_is joins.Or l r (left, is) (right, also) = (Either' place left place right, (is, also))
joined_is joins.Xor l r (left, is) (right, also) = (Differ' place left place right, (is, also))
joined_is joins.And l r (left, is) (right, also) = (Both' place left place right, (is, also))

negated_is : (n : Negation) (t : Written) → FilterIs t → FilterIs (NotOf n t)
negated_is n t (filter, is) = (Not' place filter, is)

filter_of : (t : Written) → IsFew (spelled t) → IsClear (faults t) → FilterIs t
filter_of (JoinedOf j l r) few h =
    joined_is j l r (filter_of l (few_left (spelled l) (kinds.Joins j ∷ spelled r) few) (clear_left (faults l) (faults r) h))
    (filter_of r (few_rest (kinds.Joins j) (spelled r) (few_right (spelled l) (kinds.Joins j ∷ spelled r) few)) (clear_right (faults l) (faults r) h))
filter_of (NotOf n t) few h = negated_is n t (filter_of t (few_rest (kinds.Negates n) (spelled t) few) h)
filter_of (GroupOf t) few h = filter_of t (few_left (spelled t) (kinds.Close ∷ []) (few_rest kinds.Open (spelled t ++ kinds.Close ∷ []) few)) h
filter_of (AloneOf o) few h = alone_of o few h
filter_of (TestOf c o t) few h = test_of c o t (few_right (choice c) (operand o ++ tail t) few) h

pub clear_typed : ClearIsTyped
clear_typed text tree is clear = filter_of tree (spelled_few text tree is) clear
