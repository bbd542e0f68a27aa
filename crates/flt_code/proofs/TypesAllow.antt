-- What the types of a filter say: each part takes the values that it meets, in every tree.
use Rattle.std.proofs.Common.{◌≡◌, ◌≤◌, ◌<◌, Bool as Truth, true, false, not, ◌&&◌, ◌||◌, List, [], ◌∷◌, Option, Some, None, is_some, if◌then◌else◌, ap, refl, ◌∙◌, subst, arith}
use Rattle.std.specs.List.{AllByRecursion as Each, list_all}
use Rattle.flt_code.specs.Code.{is_several}
use Rattle.flt_code.proofs.Allowed.{Allows, AllowsCall, AllowsTerm, has, loaded, tells}
use Rattle.flt_code.proofs.ReadKinds.{IsGood, read_good, word_reads}
use Rattle.flt_code.proofs.ValueKinds.{IsLike, IsMasking, are_all_of, extreme_computes, kinds_of_values, wide}
use Rattle.flt_mean.specs.Values.{prefix_of_term, values_of_term}
use Rattle.flt_syntax.specs.Grammar.{IsGrouped, IsOperand, IsTail, IsTestOperand, arguments, binds_arithmetic, least_in, sum, takes_mask, takes_slice, tightness}
use Rattle.flt_syntax.specs.Written.{Written, WrittenOperand, WrittenTail, TextOf, NamedOf, OnLayerOf, OnLayersOf, SlicedOf, MaskedOf, CalledOf, ComputedOf, ArgumentsOf, CompareOf, InOf, MatchesOf, JoinedOf, NotOf, GroupOf, AloneOf, TestOf}
use Rattle.flt_syntax.specs.declared.ast.Arithmetic.{Arithmetic}
use Rattle.flt_syntax.specs.declared.ast.Arithmetic.TheVariants as arithmetic
use Rattle.flt_syntax.specs.declared.ast.Choice.{Choice}
use Rattle.flt_syntax.specs.declared.ast.Element.{Element}
use Rattle.flt_syntax.specs.declared.ast.Element.TheVariants as elements
use Rattle.flt_syntax.specs.declared.ast.Literal.{Literal}
use Rattle.flt_syntax.specs.declared.ast.Function.{Function}
use Rattle.flt_syntax.specs.declared.ast.Function.TheVariants.{Len, Count, Upper, Lower, Min, Max}
use Rattle.flt_syntax.specs.declared.token.Join.TheVariants as joins
use Rattle.flt_typing.specs.Constants.{literal_read}
use Rattle.flt_typing.specs.Standing.{argument, in_slice, within}
use Rattle.flt_typing.specs.Terms.{IsTerm, are_numbers, kind_of, takes_term}
use Rattle.flt_typing.specs.Typing.{AreMembers, HasType, IsAlone, IsMember, IsRight, IsTest}
use Rattle.flt_typing.specs.declared.standing.Standing.{Standing}
use Rattle.flt_typing.specs.declared.standing.Standing.TheVariants.{First, Free}
use Rattle.flt_typed.specs.declared.typed.Member.{Member}
use Rattle.flt_typed.specs.declared.typed.Member.TheVariants as members
use Rattle.flt_typed.specs.declared.typed.Term.{Term}
use Rattle.flt_typed.specs.declared.typed.Term.TheVariants as terms
use Rattle.flt_typed.specs.declared.typed.Typed.{Typed}
use Rattle.flt_typed.specs.declared.typed.Typed.TheVariants.{Either', Differ', Both', Not', Exists, AnyBit, Compare, Among, Matches}
use Rattle.flt_typed.specs.Kinds.{admits_prefix, class_eq, class_of, is_masked, is_measured, is_number, is_searched, is_sliced, is_truth, kind_of_right, kind_of_value, same_class, takes, takes_call}
use Rattle.flt_typed.specs.declared.arithmetic.Extreme.{Extreme}
use Rattle.flt_typed.specs.declared.arithmetic.Extreme.TheVariants.{Least, Greatest}
use Rattle.flt_typed.specs.declared.kinds.Class.{Class}
use Rattle.flt_typed.specs.declared.kinds.Class.TheVariants as classes
use Rattle.flt_typed.specs.declared.constant.Constant.{Constant}
use Rattle.flt_typing.specs.declared.literal.Reading.TheVariants as readings
use Rattle.flt_typed.specs.declared.relation.Relation.{Relation}
use Rattle.flt_typed.specs.declared.relation.Relation.TheVariants as relations
use Rattle.flt_vm.specs.Held.{are_all, can_be, can_compare, can_compute, can_end, can_relate}
use Rattle.pk_fields.specs.declared.value_kind.ValueKind.{ValueKind}
use Rattle.pk_fields.specs.declared.value_kind.ValueKind.TheVariants as kinds
use Rattle.pk_tree.specs.Trees.{IsTree, TreeShown}
use Rattle.pk_base.specs.declared.value.Value.{Value}

-- the table asks no number for its width
sliced_wide : (kind : ValueKind) → is_sliced (wide kind) ≡ is_sliced kind
sliced_wide (kinds.Uint w) = refl
sliced_wide kind = refl

masked_wide : (kind : ValueKind) → is_masked (wide kind) ≡ is_masked kind
masked_wide (kinds.Uint w) = refl
masked_wide kind = refl

searched_wide : (kind : ValueKind) → is_searched (wide kind) ≡ is_searched kind
searched_wide (kinds.Uint w) = refl
searched_wide kind = refl

truth_wide : (kind : ValueKind) → is_truth (wide kind) ≡ is_truth kind
truth_wide (kinds.Uint w) = refl
truth_wide kind = refl

class_wide : (kind : ValueKind) → class_of (wide kind) ≡ class_of kind
class_wide (kinds.Uint w) = refl
class_wide kind = refl

call_wide : (f : Function) (kind : ValueKind) → takes_call f (wide kind) ≡ takes_call f kind
call_wide Len (kinds.Uint w) = refl
call_wide Count (kinds.Uint w) = refl
call_wide Min (kinds.Uint w) = refl
call_wide Max (kinds.Uint w) = refl
call_wide Upper (kinds.Uint w) = refl
call_wide Lower (kinds.Uint w) = refl
call_wide f kind = refl

measured_wide : (kind : ValueKind) → is_measured (wide kind) ≡ is_measured kind
measured_wide kind = ap (λ c. class_eq c classes.Octets) (class_wide kind)

takes_wide : (r : Relation) (kind : ValueKind) → takes r (wide kind) ≡ takes r kind
takes_wide relations.Equal kind = refl
takes_wide relations.Unequal kind = refl
takes_wide relations.Greater kind = ap not (truth_wide kind)
takes_wide relations.Less kind = ap not (truth_wide kind)
takes_wide relations.AtLeast kind = ap not (truth_wide kind)
takes_wide relations.AtMost kind = ap not (truth_wide kind)
takes_wide relations.Contains kind = measured_wide kind

class_same : (c : Class) → class_eq c c ≡ true
class_same classes.Number = refl
class_same classes.Truth = refl
class_same classes.Octets = refl
class_same classes.Ip4 = refl
class_same classes.Ip6 = refl
class_same classes.Time = refl

same_wide : (a b : ValueKind) → same_class (wide a) (wide b) ≡ same_class a b
same_wide a b = ap (λ c. class_eq c (class_of (wide b))) (class_wide a) ∙ ap (class_eq (class_of a)) (class_wide b)

same_self : (kind : ValueKind) → same_class (wide kind) (wide kind) ≡ true
same_self kind = class_same (class_of (wide kind))

-- arguments stand in no operand that binds more tightly
alone_term : (s : Standing) (o : WrittenOperand) (term : Term) → IsTerm s o term → arguments < tightness o → is_several term ≡ false
alone_term s (ArgumentsOf l r) (terms.Arguments' p left q right) is tight = absurd (let e : ⊥ = omega (arith, tight) in e)
alone_term s o (terms.Arguments' p left q right) is tight = absurd is
alone_term s o (terms.Constant c) is tight = refl
alone_term s o (terms.Field field layers) is tight = refl
alone_term s o (terms.Slice' p term ranges) is tight = refl
alone_term s o (terms.Mask' p term mask) is tight = refl
alone_term s o (terms.Called' f p term) is tight = refl
alone_term s o (terms.Computed' a p left q right) is tight = refl

sum_tight : (o : WrittenOperand) → sum ≤ tightness o → arguments < tightness o
sum_tight o is = omega (arith, is)

mask_tight : (o : WrittenOperand) → takes_mask o ≡ true → arguments < tightness o
mask_tight (ComputedOf a at l r) is = absurd (let e : ⊥ = cc in e)
mask_tight (ArgumentsOf l r) is = absurd (let e : ⊥ = cc in e)
mask_tight o is = omega arith

slice_tight : (o : WrittenOperand) → takes_slice o ≡ true → arguments < tightness o
slice_tight (ComputedOf a at l r) is = absurd (let e : ⊥ = cc in e)
slice_tight (ArgumentsOf l r) is = absurd (let e : ⊥ = cc in e)
slice_tight o is = omega arith

binds_tight : (a : Arithmetic) (o : WrittenOperand) → binds_arithmetic a ≤ tightness o → arguments < tightness o
binds_tight arithmetic.Sum o is = omega (arith, is)
binds_tight arithmetic.Difference o is = omega (arith, is)
binds_tight arithmetic.Product o is = omega (arith, is)

-- a literal in place of a name has no prefix length
plain_term : (s : Standing) (o : WrittenOperand) (term : Term) → IsTerm s o term → prefix_of_term term ≡ None
plain_term (Free before) (NamedOf w) (terms.Constant c) is = (word_reads false (kinds.Uint 64) w.text c is.1).plain refl
plain_term s (NamedOf w) (terms.Constant c) is = absurd is
plain_term s o (terms.Constant c) is = absurd is
plain_term s o (terms.Field field layers) is = refl
plain_term s o (terms.Slice' p term ranges) is = refl
plain_term s o (terms.Mask' p term mask) is = refl
plain_term s o (terms.Called' f p term) is = refl
plain_term s o (terms.Computed' a p left q right) is = refl
plain_term s o (terms.Arguments' p left q right) is = refl

masking : (s : Standing) (o : WrittenOperand) (term : Term) → IsTerm s o term → IsMasking term
masking s (MaskedOf o at w) (terms.Mask' p term mask) is = is.1
masking s o (terms.Mask' p term mask) is = absurd is
masking s o (terms.Constant c) is = tt
masking s o (terms.Field field layers) is = tt
masking s o (terms.Slice' p term ranges) is = tt
masking s o (terms.Called' f p term) is = tt
masking s o (terms.Computed' a p left q right) is = tt
masking s o (terms.Arguments' p left q right) is = tt

-- the values of a term pass a test of its kind
passes_of : (tree : TreeShown) (s : Standing) (o : WrittenOperand) (term : Term) (test : ValueKind → Truth) → IsTree tree → IsTerm s o term → is_several term ≡ false → test (wide (kind_of term)) ≡ true →
    are_all test (has tree term) ≡ true
passes_of tree s o term test good is alone passes = are_all_of tree term test good (masking s o term is) alone (plain_term s o term is) passes

computes : (tree : TreeShown) (s : Standing) (o : WrittenOperand) (term : Term) → IsTree tree → IsTerm s o term → is_several term ≡ false → is_number (kind_of term) ≡ true → can_compute (has tree term) ≡ true
computes tree s o term good is alone number = passes_of tree s o term is_number good is alone (masked_wide (kind_of term) ∙ number)

-- the arguments of `min` and `max`
number_alone : (term : Term) → is_several term ≡ false → are_numbers term ≡ true → is_number (kind_of term) ≡ true
number_alone (terms.Arguments' p left q right) alone numbers = cc
number_alone (terms.Constant c) alone numbers = numbers
number_alone (terms.Field field layers) alone numbers = numbers
number_alone (terms.Slice' p term ranges) alone numbers = numbers
number_alone (terms.Mask' p term mask) alone numbers = numbers
number_alone (terms.Called' f p term) alone numbers = numbers
number_alone (terms.Computed' a p left q right) alone numbers = numbers

computes_loaded : (tree : TreeShown) (e : Extreme) (s : Standing) (o : WrittenOperand) (term : Term) (several : Truth) → IsTree tree → IsTerm s o term → is_several term ≡ several → are_numbers term ≡ true →
    can_compute (loaded tree e term) ≡ true
computes_loaded tree e s o term true good is several numbers = rw several (extreme_computes tree e term)
computes_loaded tree e s o term false good is several numbers = rw several (computes tree s o term good is several (number_alone term several numbers))

both_left : (a b : Truth) → (a && b) ≡ true → a ≡ true
both_left true b is = refl
both_left false b is = is

both_right : (a b : Truth) → (a && b) ≡ true → b ≡ true
both_right true b is = is
both_right false b is = cc

calls_each : (tree : TreeShown) (s : Standing) (o : WrittenOperand) (term : Term) (f : Function) → IsTree tree → IsTerm s o term → is_several term ≡ false → takes_call f (kind_of term) ≡ true →
    are_all (takes_call f) (has tree term) ≡ true
calls_each tree s o term f good is alone takes' = passes_of tree s o term (takes_call f) good is alone (call_wide f (kind_of term) ∙ takes')

-- several arguments are numbers where they stand
abbrev Numbers : Term → Type 0
Numbers term = is_several term ≡ true → are_numbers term ≡ true

single_numbers : (term : Term) → is_several term ≡ false → Numbers term
single_numbers term alone several = cc

calls_allowed : (tree : TreeShown) (s : Standing) (o : WrittenOperand) (f : Function) (term : Term) → IsTree tree → ((e : Extreme) → Numbers term → AllowsTerm tree e term) → IsTerm s o term →
    least_in f ≤ tightness o → takes_term f term ≡ true → AllowsCall tree f term (λ e. AllowsTerm tree e term)
calls_allowed tree s o Count term good run is tight may = may
calls_allowed tree s o Min term good run is tight may = (run Least (λ x. may), computes_loaded tree Least s o term (is_several term) good is refl may)
calls_allowed tree s o Max term good run is tight may = (run Greatest (λ x. may), computes_loaded tree Greatest s o term (is_several term) good is refl may)
calls_allowed tree s o Len term good run is tight may =
    let alone = alone_term s o term is (sum_tight o tight) in
    (run Least (single_numbers term alone), alone, calls_each tree s o term Len good is alone may)
calls_allowed tree s o Upper term good run is tight may =
    let alone = alone_term s o term is (sum_tight o tight) in
    (run Least (single_numbers term alone), alone, calls_each tree s o term Upper good is alone may)
calls_allowed tree s o Lower term good run is tight may =
    let alone = alone_term s o term is (sum_tight o tight) in
    (run Least (single_numbers term alone), alone, calls_each tree s o term Lower good is alone may)

terms_allowed : (tree : TreeShown) → IsTree tree → (s : Standing) (o : WrittenOperand) (term : Term) (e : Extreme) → IsTerm s o term → IsOperand o → Numbers term → AllowsTerm tree e term
terms_allowed tree good s o (terms.Constant c) e is op numbers = tt
terms_allowed tree good s o (terms.Field field layers) e is op numbers = tt
terms_allowed tree good s (SlicedOf o at rs) (terms.Slice' p term ranges) e is op numbers =
    let alone = alone_term (in_slice s) o term is.0 (slice_tight o op.1) in
    (terms_allowed tree good (in_slice s) o term e is.0 op.0 (single_numbers term alone), alone, passes_of tree (in_slice s) o term is_sliced good is.0 alone (sliced_wide (kind_of term) ∙ is.1))
terms_allowed tree good s o (terms.Slice' p term ranges) e is op numbers = absurd is
terms_allowed tree good s (MaskedOf o at w) (terms.Mask' p term mask) e is op numbers =
    let alone = alone_term (within at s) o term is.0 (mask_tight o op.1) in
    (terms_allowed tree good (within at s) o term e is.0 op.0 (single_numbers term alone), alone, passes_of tree (within at s) o term is_masked good is.0 alone (masked_wide (kind_of term) ∙ is.1))
terms_allowed tree good s o (terms.Mask' p term mask) e is op numbers = absurd is
terms_allowed tree good s (CalledOf f at o) (terms.Called' g p term) e is op numbers =
    subst (λ (x : Function). AllowsCall tree x term (λ (d : Extreme). AllowsTerm tree d term)) is.2
    (calls_allowed tree (argument f at o s) o f term good (λ d n. terms_allowed tree good (argument f at o s) o term d is.0 op.0 n) is.0 op.1 is.1)
terms_allowed tree good s o (terms.Called' g p term) e is op numbers = absurd is
terms_allowed tree good s (ComputedOf b at l r) (terms.Computed' a p left q right) e is op numbers =
    let first = alone_term s l left is.0 (binds_tight b l op.2) in
    let second = alone_term (Free (Some at)) r right is.1 (binds_tight b r (let e : binds_arithmetic b ≤ tightness r = omega (arith, op.3) in e)) in (
      terms_allowed tree good s l left e is.0 op.0 (single_numbers left first),
      terms_allowed tree good (Free (Some at)) r right e is.1 op.1 (single_numbers right second),
      first,
      second,
      computes tree s l left good is.0 first is.2,
      computes tree (Free (Some at)) r right good is.1 second is.3,
    )
terms_allowed tree good s o (terms.Computed' a p left q right) e is op numbers = absurd is
terms_allowed tree good s (ArgumentsOf l r) (terms.Arguments' p left q right) e is op numbers =
    let second = alone_term (Free None) r right is.1 op.3 in
    let all = numbers refl in (
      terms_allowed tree good s l left e is.0 op.0 (λ x. both_left (are_numbers left) (is_number (kind_of right)) all),
      terms_allowed tree good (Free None) r right e is.1 op.1 (single_numbers right second),
      second,
      computes_loaded tree e s l left (is_several left) good is.0 refl (both_left (are_numbers left) (is_number (kind_of right)) all),
      computes tree (Free None) r right good is.1 second (both_right (are_numbers left) (is_number (kind_of right)) all),
    )
terms_allowed tree good s o (terms.Arguments' p left q right) e is op numbers = absurd is

-- an operand of a test
test_alone : (s : Standing) (o : WrittenOperand) (term : Term) → IsTerm s o term → IsTestOperand o → is_several term ≡ false
test_alone s o term is op = alone_term s o term is (sum_tight o op.1)

test_allowed : (tree : TreeShown) → IsTree tree → (s : Standing) (o : WrittenOperand) (term : Term) → IsTerm s o term → IsTestOperand o → AllowsTerm tree Least term
test_allowed tree good s o term is op = terms_allowed tree good s o term Least is op.0 (single_numbers term (test_alone s o term is op))

and_true : (a b : Truth) → a ≡ true → b ≡ true → (a && b) ≡ true
and_true a b x y = rw (x, y) refl

-- the right side: of the left one's class, where it is a literal too
right_class : (r : Relation) (kind : ValueKind) → takes r kind ≡ true → same_class kind (kind_of_right r kind) ≡ true
right_class relations.Contains kind is = is
right_class relations.Equal kind is = class_same (class_of kind)
right_class relations.Unequal kind is = class_same (class_of kind)
right_class relations.Greater kind is = class_same (class_of kind)
right_class relations.Less kind is = class_same (class_of kind)
right_class relations.AtLeast kind is = class_same (class_of kind)
right_class relations.AtMost kind is = class_same (class_of kind)

-- all values of a term are of a class
classes_of : (tree : TreeShown) (kind : ValueKind) (term : Term) → IsTree tree → IsMasking term → is_several term ≡ false → same_class kind (kind_of term) ≡ true →
    list_all (λ v. same_class (wide kind) (kind_of_value v)) (values_of_term term tree) ≡ true
classes_of tree kind term good mask alone same = go (values_of_term term tree) (kinds_of_values tree term good mask alone)
  where
    go : (vs : List Value) → Each (IsLike (kind_of term)) vs → list_all (λ v. same_class (wide kind) (kind_of_value v)) vs ≡ true
    go [] each = refl
    go (v ∷ vs) each = and_true (same_class (wide kind) (kind_of_value v)) (list_all (λ x. same_class (wide kind) (kind_of_value x)) vs)
        (ap (same_class (wide kind)) each.0 ∙ same_wide kind (kind_of term) ∙ same) (go vs each.1)

or_left : (a b : Truth) → (a ≡ false → b ≡ true) → (a || b) ≡ true
or_left true b is = refl
or_left false b is = is refl

compares_allowed : (tree : TreeShown) (s : Standing) (o : WrittenOperand) (left right : Term) (r : Relation) → IsTree tree → IsTerm s o left → is_several left ≡ false → takes r (kind_of left) ≡ true →
    list_all (λ v. same_class (wide (kind_of left)) (kind_of_value v)) (values_of_term right tree) ≡ true → (admits_prefix r ≡ false → prefix_of_term right ≡ None) →
    can_compare r (has tree left) (has tree right) ≡ true
compares_allowed tree s o left right r good is alone may same plain =
    and_true (are_all (can_relate r (values_of_term right tree)) (has tree left)) (admits_prefix r || not (is_some (prefix_of_term right)))
    (passes_of tree s o left (can_relate r (values_of_term right tree)) good is alone
    (and_true (takes r (wide (kind_of left))) (list_all (λ v. same_class (wide (kind_of left)) (kind_of_value v)) (values_of_term right tree)) (takes_wide r (kind_of left) ∙ may) same))
    (or_left (admits_prefix r) (not (is_some (prefix_of_term right))) (λ no. ap (λ x. not (is_some x)) (plain no)))

pub record RightAllowed (tree : TreeShown) (kind : ValueKind) (r : Relation) (right : Term) : Type 0 where
  pub may : AllowsTerm tree Least right
  pub alone : is_several right ≡ false
  pub same : list_all (λ v. same_class (wide kind) (kind_of_value v)) (values_of_term right tree) ≡ true
  pub plain : admits_prefix r ≡ false → prefix_of_term right ≡ None

-- a term on the right side
right_term : (tree : TreeShown) → IsTree tree → (r : Relation) (kind : ValueKind) (o : WrittenOperand) (right : Term) → IsTerm (Free None) o right → same_class kind (kind_of right) ≡ true → IsTestOperand o → RightAllowed tree kind r right
right_term tree good r kind o right is same op =
    let alone = test_alone (Free None) o right is op in
    record {
      may = test_allowed tree good (Free None) o right is op;
      alone = alone;
      same = classes_of tree kind right good (masking (Free None) o right is) alone same;
      plain = λ x. plain_term (Free None) o right is;
    }

right_allowed : (tree : TreeShown) → IsTree tree → (r : Relation) (kind : ValueKind) (o : WrittenOperand) (right : Term) → takes r kind ≡ true → IsRight r kind o right → IsTestOperand o → RightAllowed tree kind r right
right_allowed tree good r kind o (terms.Constant c) may is op =
    let read = read_good (admits_prefix r) (kind_of_right r kind) is.0 c is.2 in
    record {
      may = tt;
      alone = refl;
      same = and_true (same_class (wide kind) (kind_of_value c.value)) true (ap (same_class (wide kind)) read.kind_is ∙ same_wide kind (kind_of_right r kind) ∙ right_class r kind may) refl;
      plain = read.plain;
    }
right_allowed tree good r kind o (terms.Field field layers) may is op = right_term tree good r kind o (terms.Field field layers) is.1 is.2 op
right_allowed tree good r kind o (terms.Slice' p term ranges) may is op = right_term tree good r kind o (terms.Slice' p term ranges) is.1 is.2 op
right_allowed tree good r kind o (terms.Mask' p term mask) may is op = right_term tree good r kind o (terms.Mask' p term mask) is.1 is.2 op
right_allowed tree good r kind o (terms.Called' f p term) may is op = right_term tree good r kind o (terms.Called' f p term) is.1 is.2 op
right_allowed tree good r kind o (terms.Computed' a p left q right) may is op = right_term tree good r kind o (terms.Computed' a p left q right) is.1 is.2 op
right_allowed tree good r kind o (terms.Arguments' p left q right) may is op = right_term tree good r kind o (terms.Arguments' p left q right) is.1 is.2 op

-- the members of a set
read_class : (prefixed : Truth) (kind : ValueKind) (c : Constant) → IsGood prefixed kind c → same_class (wide kind) (kind_of_value c.value) ≡ true
read_class prefixed kind c good = ap (same_class (wide kind)) good.kind_is ∙ same_self kind

end_allowed : (kind : ValueKind) (c : Constant) → IsGood false kind c → can_end (wide kind) c ≡ true
end_allowed kind c good = and_true (same_class (wide kind) (kind_of_value c.value)) (not (is_some c.prefix)) (read_class false kind c good) (ap (λ x. not (is_some x)) (good.plain refl))

pub record IsEnd (kind : ValueKind) (c : Constant) : Type 0 where
  pub ordered : is_truth kind ≡ false
  pub good : IsGood false kind c

end_reads : (kind : ValueKind) (l : Literal) (c : Constant) (truth : Truth) → is_truth kind ≡ truth → (if truth then readings.Unread else literal_read false kind l) ≡ readings.Reads c → IsEnd kind c
end_reads kind l c true is read = absurd (let e : ⊥ = cc in e)
end_reads kind l c false is read = record { ordered = is; good = read_good false kind l c read }

member_allowed : (kind : ValueKind) (e : Element) (m : Member) → IsMember kind e m → can_be (wide kind) m ≡ true
member_allowed kind (elements.One l) (members.One c) is = read_class true kind c (read_good true kind l c is)
member_allowed kind (elements.Between low high) (members.Between first last) is =
    let a = end_reads kind low first (is_truth kind) refl is.0 in
    let b = end_reads kind high last (is_truth kind) refl is.1 in
    and_true (not (is_truth (wide kind))) (can_end (wide kind) first && can_end (wide kind) last) (ap not (truth_wide kind ∙ a.ordered))
    (and_true (can_end (wide kind) first) (can_end (wide kind) last) (end_allowed kind first a.good) (end_allowed kind last b.good))
member_allowed kind (elements.One l) (members.Between first last) is = absurd is
member_allowed kind (elements.Between low high) (members.One c) is = absurd is

members_allowed : (kind : ValueKind) (es : List Element) (ms : List Member) → AreMembers kind es ms → list_all (can_be (wide kind)) ms ≡ true
members_allowed kind [] [] are = refl
members_allowed kind (e ∷ es) (m ∷ ms) are = and_true (can_be (wide kind) m) (list_all (can_be (wide kind)) ms) (member_allowed kind e m are.0) (members_allowed kind es ms are.1)
members_allowed kind [] (m ∷ ms) are = absurd are
members_allowed kind (e ∷ es) [] are = absurd are

test_types : (tree : TreeShown) → IsTree tree → (c : Option Choice) (o : WrittenOperand) (tail : WrittenTail) (filter : Typed) → IsTest c o tail filter → IsTestOperand o → IsTail c tail → Allows tree filter
test_types tree good c o (CompareOf operator at written) (Compare relation choice left right) is op end =
    let alone = test_alone First o left is.0 op in
    let other = right_allowed tree good relation (kind_of left) written right is.3 is.4 end.0 in
    (test_allowed tree good First o left is.0 op, other.may, alone, other.alone, compares_allowed tree First o left right relation good is.0 alone is.3 other.same other.plain)
test_types tree good c o (InOf negated es) (Among opposite choice term ms) is op end =
    let alone = test_alone First o term is.0 op in
    (test_allowed tree good First o term is.0 op, alone, passes_of tree First o term (λ kind. list_all (can_be kind) ms.items) good is.0 alone (members_allowed (kind_of term) es ms.items is.3))
test_types tree good c o (MatchesOf at q) (Matches choice term pattern) is op end =
    let alone = test_alone First o term is.0 op in
    (test_allowed tree good First o term is.0 op, alone, passes_of tree First o term is_searched good is.0 alone (searched_wide (kind_of term) ∙ is.2))
test_types tree good c o tail filter is op end = absurd is

-- an operand alone
tells_of : (o : WrittenOperand) (term : Term) → IsAlone o (Exists term) → IsTestOperand o → IsTerm First o term × (tells term ≡ true)
tells_of (NamedOf w) (terms.Field field layers) is op = (is, refl)
tells_of (OnLayerOf w l) (terms.Field field layers) is op = (is, refl)
tells_of (OnLayersOf w ls) (terms.Field field layers) is op = (is, refl)
tells_of (SlicedOf o at rs) (terms.Slice' p term ranges) is op = (is, refl)
tells_of (ArgumentsOf l r) term is op = absurd (let few = op.1 in let e : ⊥ = omega (arith, few) in e)
tells_of o term is op = absurd is

alone_types : (tree : TreeShown) → IsTree tree → (o : WrittenOperand) (filter : Typed) → IsAlone o filter → IsTestOperand o → Allows tree filter
alone_types tree good o (Exists term) is op =
    let t = tells_of o term is op in
    (test_allowed tree good First o term t.0 op, test_alone First o term t.0 op, t.1)
alone_types tree good (MaskedOf o at w) (AnyBit (terms.Mask' p term mask)) is op =
    let alone = test_alone First (MaskedOf o at w) (terms.Mask' p term mask) is op in
    (test_allowed tree good First (MaskedOf o at w) (terms.Mask' p term mask) is op, alone, passes_of tree First (MaskedOf o at w) (terms.Mask' p term mask) is_masked good is alone (masked_wide (kind_of term) ∙ is.1))
alone_types tree good (TextOf q) filter is op = absurd is
alone_types tree good (NamedOf w) filter is op = absurd is
alone_types tree good (OnLayerOf w l) filter is op = absurd is
alone_types tree good (OnLayersOf w ls) filter is op = absurd is
alone_types tree good (SlicedOf o at rs) filter is op = absurd is
alone_types tree good (MaskedOf o at w) filter is op = absurd is
alone_types tree good (CalledOf f at o) filter is op = absurd is
alone_types tree good (ComputedOf a at l r) filter is op = absurd is
alone_types tree good (ArgumentsOf l r) filter is op = absurd is

pub types_allow : (tree : TreeShown) → IsTree tree → (w : Written) (filter : Typed) → HasType w filter → IsGrouped w → Allows tree filter
types_allow tree good (JoinedOf joins.Or l r) (Either' p left q right) is g = (types_allow tree good l left is.0 g.0, types_allow tree good r right is.1 g.1)
types_allow tree good (JoinedOf joins.Xor l r) (Differ' p left q right) is g = (types_allow tree good l left is.0 g.0, types_allow tree good r right is.1 g.1)
types_allow tree good (JoinedOf joins.And l r) (Both' p left q right) is g = (types_allow tree good l left is.0 g.0, types_allow tree good r right is.1 g.1)
types_allow tree good (NotOf n t) (Not' p filter) is g = types_allow tree good t filter is g.0
types_allow tree good (GroupOf t) filter is g = types_allow tree good t filter is g
types_allow tree good (AloneOf o) filter is g = alone_types tree good o filter is g
types_allow tree good (TestOf c o tail) filter is g = test_types tree good c o tail filter is g.0 g.1
types_allow tree good w filter is g = absurd is
