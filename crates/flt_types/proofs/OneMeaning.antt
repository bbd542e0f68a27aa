-- All filters that a tree is mean the same.
use Rattle.std.proofs.Common.{◌≡◌, ℕ, true, false, List, [], ◌∷◌, Option, None, Some, sym, refl, ap, subst, ◌∙◌}
use Rattle.flt_syntax.specs.Written.{Written, WrittenOperand, WrittenTail, NamedOf, OnLayerOf, OnLayersOf, SlicedOf, MaskedOf, CalledOf, ComputedOf, ArgumentsOf, CompareOf, InOf, MatchesOf, JoinedOf, NotOf, GroupOf, AloneOf, TestOf}
use Rattle.flt_syntax.specs.declared.ast.Choice.{Choice}
use Rattle.flt_syntax.specs.declared.ast.Element.{Element}
use Rattle.flt_syntax.specs.declared.ast.Element.TheVariants as elements
use Rattle.flt_syntax.specs.declared.token.Join.TheVariants as joins
use Rattle.flt_syntax.specs.declared.word.Word.{Word}
use Rattle.flt_parse.proofs.Faults.{one_filter}
use Rattle.flt_typing.specs.Constants.{end_read, literal_of, literal_read, side_read}
use Rattle.flt_typing.specs.Standing.{argument, in_slice, within}
use Rattle.flt_typing.specs.Terms.{IsMask, IsNumber, IsTerm, kind_of, number_kind}
use Rattle.flt_typing.specs.Typing.{AreMembers, HasType, IsAlone, IsMember, IsRight, IsTest}
use Rattle.flt_typing.specs.declared.standing.Standing.{Standing}
use Rattle.flt_typing.specs.declared.standing.Standing.TheVariants.{First, Free}
use Rattle.flt_typed.specs.declared.typed.Member.{Member}
use Rattle.flt_typed.specs.declared.typed.Member.TheVariants as members
use Rattle.flt_typed.specs.declared.typed.Term.{Term}
use Rattle.flt_typed.specs.declared.typed.Term.TheVariants as terms
use Rattle.flt_typed.specs.declared.typed.Typed.{Typed}
use Rattle.flt_typed.specs.declared.typed.Typed.TheVariants.{Either', Differ', Both', Not', Exists, AnyBit, Compare, Among, Matches}
use Rattle.flt_types.specs.Faults.{kind_written}
use Rattle.flt_types.proofs.Clear.{term_kind}
use Rattle.flt_typing.specs.Literals.{word_read}
use Rattle.flt_typed.specs.declared.constant.Constant.{Constant}
use Rattle.flt_typing.specs.declared.literal.Reading.{Reading}
use Rattle.flt_typing.specs.declared.literal.Reading.TheVariants.{Reads}
use Rattle.flt_typed.specs.declared.relation.Relation.{Relation}
use Rattle.flt_lists.specs.Passes.{is_some_value}
use Rattle.flt_types.specs.TextLaws.{OneMeaning}
use Rattle.flt_mean.specs.Meaning.{meaning}
use Rattle.flt_mean.specs.Values.{prefix_of_term, values_of_term}
use Rattle.pk_fields.specs.Fields.{field_named}
use Rattle.pk_fields.specs.declared.value_kind.ValueKind.{ValueKind}
use Rattle.pk_tree.specs.Trees.{TreeShown}
use Rattle.pk_base.specs.declared.value.Value.TheVariants as values

same_some : {A : Type 0} (x : Option A) (a b : A) → x ≡ Some a → x ≡ Some b → a ≡ b
same_some x a b p q = let both : Some a ≡ Some b = sym p ∙ q in cc

same_read : (reading other : Reading) (c d : Constant) → reading ≡ other → reading ≡ Reads c → other ≡ Reads d → c ≡ d
same_read reading other c d same p q = let both : Reads c ≡ Reads d = sym p ∙ same ∙ q in cc

same_kind : (st : Standing) (o : WrittenOperand) (s t : Term) → IsTerm st o s → IsTerm st o t → kind_of s ≡ kind_of t
same_kind st o s t p q = same_some (kind_written st o) (kind_of s) (kind_of t) (term_kind st o s p) (term_kind st o t q)

same_mask : (kind other : ValueKind) (text : List ℕ) (m n : ℕ) → kind ≡ other → IsMask kind text m → IsMask other text n → m ≡ n
same_mask kind other text m n same p q =
    let read = same_read (word_read false kind text) (word_read false other text) p.0 q.0 (ap (λ k. word_read false k text) same) p.1 q.1 in
    let both : values.Uint m ≡ values.Uint n = sym p.2 ∙ ap (λ (c : Constant). c.value) read ∙ q.2 in cc

same_number : (st : Standing) (w : Word) (c d : Constant) → IsNumber st w c → IsNumber st w d → c ≡ d
same_number (Free before) w c d p q = same_read (word_read false number_kind w.text) (word_read false number_kind w.text) c d refl p.1 q.1
same_number st w c d p q = absurd p

-- a word is no field and a number as well
never_number : (st : Standing) (w : Word) (c : Constant) (field : ℕ) → IsNumber st w c → field_named w.text ≡ Some field → ⊥
never_number (Free before) w c field p is = let bad : None ≡ Some field = sym p.0 ∙ is in cc
never_number st w c field p is = p

same_values : (st : Standing) (o : WrittenOperand) (s t : Term) (tree : TreeShown) → IsTerm st o s → IsTerm st o t → values_of_term s tree ≡ values_of_term t tree
same_values st (NamedOf w) (terms.Field f ls) (terms.Field g ms) tree p q = rw (same_some (field_named w.text) f g p.0 q.0, p.1, q.1) refl
same_values st (NamedOf w) (terms.Constant c) (terms.Constant d) tree p q = ap (λ (x : Constant). x.value ∷ []) (same_number st w c d p q)
same_values st (NamedOf w) (terms.Field f ls) (terms.Constant d) tree p q = absurd (never_number st w d f q p.0)
same_values st (NamedOf w) (terms.Constant c) (terms.Field g ms) tree p q = absurd (never_number st w c g p q.0)
same_values st (OnLayerOf w l) (terms.Field f ls) (terms.Field g ms) tree p q = rw (same_some (field_named w.text) f g p.0 q.0, p.2, q.2) refl
same_values st (OnLayersOf w l) (terms.Field f ls) (terms.Field g ms) tree p q = rw (same_some (field_named w.text) f g p.0 q.0, p.2, q.2) refl
same_values st (SlicedOf o at rs) (terms.Slice' a s ranges) (terms.Slice' b t others) tree p q =
    let inner = same_values (in_slice st) o s t tree p.0 q.0 in
    let same : ranges.items ≡ others.items = p.3 ∙ sym q.3 in
    rw (inner, same) refl
same_values st (MaskedOf o at w) (terms.Mask' a s m) (terms.Mask' b t n) tree p q =
    let inner = same_values (within at st) o s t tree p.0 q.0 in
    let same = same_mask (kind_of s) (kind_of t) w.text m n (same_kind (within at st) o s t p.0 q.0) p.2 q.2 in
    rw (inner, same) refl
same_values st (CalledOf f at o) (terms.Called' g a s) (terms.Called' h b t) tree p q =
    let inner = same_values (argument f at o st) o s t tree p.0 q.0 in
    rw (inner, ← p.2, ← q.2) refl
same_values st (ComputedOf x at l r) (terms.Computed' y a s b s') (terms.Computed' z c t d t') tree p q =
    let left = same_values st l s t tree p.0 q.0 in
    let right = same_values (Free (Some at)) r s' t' tree p.1 q.1 in
    rw (left, right, ← p.4, ← q.4) refl
same_values st (ArgumentsOf l r) (terms.Arguments' a s b s') (terms.Arguments' c t d t') tree p q =
    let left = same_values st l s t tree p.0 q.0 in
    let right = same_values (Free None) r s' t' tree p.1 q.1 in
    rw (left, right) refl
same_values st (NamedOf w) (terms.Field f ls) t tree p q = absurd q
same_values st (NamedOf w) (terms.Constant c) t tree p q = absurd q
same_values st (OnLayerOf w l) (terms.Field f ls) t tree p q = absurd q
same_values st (OnLayersOf w l) (terms.Field f ls) t tree p q = absurd q
same_values st (SlicedOf o at rs) (terms.Slice' a s ranges) t tree p q = absurd q
same_values st (MaskedOf o at w) (terms.Mask' a s m) t tree p q = absurd q
same_values st (CalledOf f at o) (terms.Called' g a s) t tree p q = absurd q
same_values st (ComputedOf x at l r) (terms.Computed' y a s b s') t tree p q = absurd q
same_values st (ArgumentsOf l r) (terms.Arguments' a s b s') t tree p q = absurd q
same_values st o s t tree p q = absurd p

-- a right side
abbrev AreSame : Term → Term → TreeShown → Type 0
AreSame s t tree = (values_of_term s tree ≡ values_of_term t tree) × (prefix_of_term s ≡ prefix_of_term t)

same_constant : (c d : Constant) (tree : TreeShown) → c ≡ d → AreSame (terms.Constant c) (terms.Constant d) tree
same_constant c d tree is = rw is (refl, refl)

same_right : (relation : Relation) (kind : ValueKind) (o : WrittenOperand) (s t : Term) (tree : TreeShown) →
    IsRight relation kind o s → IsRight relation kind o t → AreSame s t tree
same_right relation kind o (terms.Constant c) (terms.Constant d) tree p q =
    let literal = same_some (literal_of o) p.0 q.0 p.1 q.1 in
    same_constant c d tree (same_read (side_read relation kind p.0) (side_read relation kind q.0) c d (ap (side_read relation kind) literal) p.2 q.2)
same_right relation kind o (terms.Constant c) t tree p q = let bad : Some p.0 ≡ None = sym p.1 ∙ q.0 in absurd (cc bad)
same_right relation kind o s (terms.Constant d) tree p q = let bad : Some q.0 ≡ None = sym q.1 ∙ p.0 in absurd (cc bad)
same_right relation kind o s t tree p q = (same_values (Free None) o s t tree p.1 q.1, refl)

-- a set
same_member : (kind : ValueKind) (e : Element) (m n : Member) → IsMember kind e m → IsMember kind e n → m ≡ n
same_member kind (elements.One l) (members.One c) (members.One d) p q =
    ap members.One (same_read (literal_read true kind l) (literal_read true kind l) c d refl p q)
same_member kind (elements.Between l h) (members.Between a b) (members.Between c d) p q =
    let low = same_read (end_read kind l) (end_read kind l) a c refl p.0 q.0 in
    let high = same_read (end_read kind h) (end_read kind h) b d refl p.1 q.1 in
    rw (low, high) refl
same_member kind (elements.One l) (members.One c) n p q = absurd q
same_member kind (elements.Between l h) (members.Between a b) n p q = absurd q
same_member kind e m n p q = absurd p

same_members : (kind : ValueKind) (es : List Element) (ms ns : List Member) → AreMembers kind es ms → AreMembers kind es ns → ms ≡ ns
same_members kind [] [] [] p q = refl
same_members kind (e ∷ es) (m ∷ ms) (n ∷ ns) p q = rw (same_member kind e m n p.0 q.0, same_members kind es ms ns p.1 q.1) refl
same_members kind [] [] (n ∷ ns) p q = absurd q
same_members kind (e ∷ es) (m ∷ ms) [] p q = absurd q
same_members kind [] (m ∷ ms) ns p q = absurd p
same_members kind (e ∷ es) [] ns p q = absurd p

-- a test
one_test : (choice : Option Choice) (o : WrittenOperand) (tail : WrittenTail) (f g : Typed) (tree : TreeShown) →
    IsTest choice o tail f → IsTest choice o tail g → meaning f tree ≡ meaning g tree
one_test choice o (CompareOf operator at right) (Compare relation pairs s a) (Compare other choices t b) tree p q =
    let kind = same_kind First o s t p.0 q.0 in
    let asked = p.1 ∙ sym q.1 in
    let ours = subst (λ k. IsRight other k right a) kind (subst (λ r. IsRight r (kind_of s) right a) asked p.4) in
    let sides = same_right other (kind_of t) right a b tree ours q.4 in
    rw (same_values First o s t tree p.0 q.0, sides.0, sides.1, asked, p.2, q.2) refl
one_test choice o (InOf negated es) (Among opposite pairs s ms) (Among other choices t ns) tree p q =
    let kind = same_kind First o s t p.0 q.0 in
    let ours = subst (λ k. AreMembers k es ms.items) kind p.3 in
    rw (same_values First o s t tree p.0 q.0, same_members (kind_of t) es ms.items ns.items ours q.3, p.1, q.1, p.2, q.2) refl
one_test choice o (MatchesOf at quote) (Matches pairs s pattern) (Matches choices t other) tree p q =
    rw (same_values First o s t tree p.0 q.0, p.1, q.1, p.3, q.3) refl
one_test choice o (CompareOf operator at right) (Compare relation pairs s a) g tree p q = absurd q
one_test choice o (InOf negated es) (Among opposite pairs s ms) g tree p q = absurd q
one_test choice o (MatchesOf at quote) (Matches pairs s pattern) g tree p q = absurd q
one_test choice o tail f g tree p q = absurd p

-- an operand alone
one_alone : (o : WrittenOperand) (f g : Typed) (tree : TreeShown) → IsAlone o f → IsAlone o g → meaning f tree ≡ meaning g tree
one_alone (NamedOf w) (Exists s) (Exists t) tree p q = ap is_some_value (same_values First (NamedOf w) s t tree p q)
one_alone (OnLayerOf w l) (Exists s) (Exists t) tree p q = ap is_some_value (same_values First (OnLayerOf w l) s t tree p q)
one_alone (OnLayersOf w ls) (Exists s) (Exists t) tree p q = ap is_some_value (same_values First (OnLayersOf w ls) s t tree p q)
one_alone (SlicedOf o at rs) (Exists s) (Exists t) tree p q = ap is_some_value (same_values First (SlicedOf o at rs) s t tree p q)
one_alone (MaskedOf o at w) (AnyBit s) (AnyBit t) tree p q = rw (same_values First (MaskedOf o at w) s t tree p q) refl
one_alone (ArgumentsOf l r) (Exists s) (Exists t) tree p q = ap is_some_value (same_values First (ArgumentsOf l r) s t tree p q)
one_alone (NamedOf w) (Exists s) g tree p q = absurd q
one_alone (OnLayerOf w l) (Exists s) g tree p q = absurd q
one_alone (OnLayersOf w ls) (Exists s) g tree p q = absurd q
one_alone (SlicedOf o at rs) (Exists s) g tree p q = absurd q
one_alone (MaskedOf o at w) (AnyBit s) g tree p q = absurd q
one_alone (ArgumentsOf l r) (Exists s) g tree p q = absurd q
one_alone o f g tree p q = absurd p

same_meaning : (t : Written) (f g : Typed) (tree : TreeShown) → HasType t f → HasType t g → meaning f tree ≡ meaning g tree
same_meaning (JoinedOf joins.Or l r) (Either' a left b right) (Either' c first d second) tree p q =
    rw (same_meaning l left first tree p.0 q.0, same_meaning r right second tree p.1 q.1) refl
same_meaning (JoinedOf joins.Xor l r) (Differ' a left b right) (Differ' c first d second) tree p q =
    rw (same_meaning l left first tree p.0 q.0, same_meaning r right second tree p.1 q.1) refl
same_meaning (JoinedOf joins.And l r) (Both' a left b right) (Both' c first d second) tree p q =
    rw (same_meaning l left first tree p.0 q.0, same_meaning r right second tree p.1 q.1) refl
same_meaning (NotOf n t) (Not' a f) (Not' b g) tree p q = rw (same_meaning t f g tree p q) refl
same_meaning (GroupOf t) f g tree p q = same_meaning t f g tree p q
same_meaning (AloneOf o) f g tree p q = one_alone o f g tree p q
same_meaning (TestOf choice o tail) f g tree p q = one_test choice o tail f g tree p q
same_meaning (JoinedOf joins.Or l r) (Either' a left b right) g tree p q = absurd q
same_meaning (JoinedOf joins.Xor l r) (Differ' a left b right) g tree p q = absurd q
same_meaning (JoinedOf joins.And l r) (Both' a left b right) g tree p q = absurd q
same_meaning (NotOf n t) (Not' a f) g tree p q = absurd q
same_meaning t f g tree p q = absurd p

pub one_meaning : OneMeaning
one_meaning text f g tree p q =
    same_meaning q.0 f g tree (subst (λ (t : Written). HasType t f) (one_filter text p.0 q.0 p.1 q.1) p.2) q.2
