-- Lists that are gone through: one more element is done.
use Rattle.std.proofs.Common.{◌≡◌, ◌+◌, ◌<◌, ℕ, List, [], ◌∷◌, ◌++◌, length, get_or, drop, map, append_assoc, ap, sym, subst, ◌∙◌}
use Rattle.std.proofs.lemmas.List.{drop_more}
use Rattle.flt_syntax.specs.declared.ast.Element.{Element}
use Rattle.flt_syntax.specs.declared.fault.FilterError.{FilterError}
use Rattle.flt_typing.specs.Typing.{AreMembers, IsMember}
use Rattle.flt_typed.specs.declared.typed.Member.{Member}
use Rattle.flt_types.specs.Faults.{IsAnswer, element_faults, elements_faults}
use Rattle.flt_types.proofs.Answers.{answer_left, answer_right}
use Rattle.flt_types.proofs.Clear.{member_clear}
use Rattle.pk_fields.specs.declared.value_kind.ValueKind.{ValueKind}

left_is : {A : Type 0} (xs : List A) (i : ℕ) (x : A) → i < length xs → x ≡ get_or xs i x → drop i xs ≡ x ∷ drop (i + 1) xs
left_is xs i x inside is = drop_more xs i x inside ∙ ap (λ y. y ∷ drop (i + 1) xs) (sym is)

pub more_mapped : {A B : Type 0} (f : A → B) (xs : List A) (i : ℕ) (d : A) (old new all : List B) → i < length xs → new ≡ old ++ f (get_or xs i d) ∷ []
    → old ++ map f (drop i xs) ≡ all → new ++ map f (drop (i + 1) xs) ≡ all
more_mapped f xs i d old new all inside more so_far =
    let rest = map f (drop (i + 1) xs) in
    ap (λ ys. ys ++ rest) more ∙ append_assoc old (f (get_or xs i d) ∷ []) rest ∙ ap (λ ys. old ++ map f ys) (sym (drop_more xs i d inside)) ∙ so_far

-- the members of a set's elements
abbrev pub Goes : ValueKind → List Element → List Element → List Member → Type 0
Goes kind es left members = (ms : List Member) → AreMembers kind left ms → AreMembers kind es (members ++ ms)

abbrev pub Blames : ValueKind → List Element → List Element → Type 0
Blames kind es left = (e : FilterError) → IsAnswer (elements_faults kind left) e → IsAnswer (elements_faults kind es) e

pub more_members : (kind : ValueKind) (es : List Element) (i : ℕ) (x : Element) (m : Member) (old new : List Member) → i < length es → x ≡ get_or es i x → IsMember kind x m
    → new ≡ old ++ m ∷ [] → Goes kind es (drop i es) old → Goes kind es (drop (i + 1) es) new
more_members kind es i x m old new inside is one more so_far = λ ms rest.
    subst (λ xs. AreMembers kind es (xs ++ ms)) (sym more)
    (subst (AreMembers kind es) (sym (append_assoc old (m ∷ []) ms))
    (so_far (m ∷ ms) (subst (λ ys. AreMembers kind ys (m ∷ ms)) (sym (left_is es i x inside is)) (one, rest))))

pub more_clear : (kind : ValueKind) (es : List Element) (i : ℕ) (x : Element) (m : Member) → i < length es → x ≡ get_or es i x → IsMember kind x m
    → Blames kind es (drop i es) → Blames kind es (drop (i + 1) es)
more_clear kind es i x m inside is one so_far = λ e h.
    so_far e (subst (λ ys. IsAnswer (elements_faults kind ys) e) (sym (left_is es i x inside is))
    (answer_right (element_faults kind x) (elements_faults kind (drop (i + 1) es)) e (member_clear kind x m one) h))

pub element_fault : (kind : ValueKind) (es : List Element) (i : ℕ) (x : Element) (e : FilterError) → i < length es → x ≡ get_or es i x → Blames kind es (drop i es)
    → IsAnswer (element_faults kind x) e → IsAnswer (elements_faults kind es) e
element_fault kind es i x e inside is so_far h =
    so_far e (subst (λ ys. IsAnswer (elements_faults kind ys) e) (sym (left_is es i x inside is)) (answer_left (element_faults kind x) (elements_faults kind (drop (i + 1) es)) e h))
