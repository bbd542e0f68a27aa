-- The fields that a program asks for, one instruction more.
use Rattle.std.proofs.Common.{◌≡◌, ℕ, ◌+◌, ◌<◌, Bool as Truth, List, ◌∷◌, length, get_or, ⊎_elim, drop, false, ◌||◌, Some, true, slice_get, ap, sym, refl, ◌∙◌, subst, arith}
use Rattle.std.proofs.lemmas.Bool.{cases_lt}
use Rattle.std.proofs.lemmas.List.{at_drop_more}
use Rattle.std.proofs.lemmas.Option.{get_or_from_slice_get}
use Rattle.flt_program.specs.Asked.{HasField, asks_by, asks_in}
use Rattle.flt_program.specs.declared.instr.Instr.{Instr}
use Rattle.flt_program.specs.declared.instr.Instr.TheVariants as instr
use Rattle.pk_fields.specs.FieldSets.{is_in}

-- a set that has each field of another
abbrev HasMore : List ℕ → List ℕ → Type 0
HasMore old new = (f : ℕ) → is_in old f ≡ true → is_in new f ≡ true

has_more : (old new : List ℕ) (i : Instr) → HasMore old new → HasField old i → HasField new i
has_more old new (instr.Read r field layers) more has = more field has
has_more old new (instr.Count r field layers) more has = more field has
has_more old new i more has = tt

-- the fields of one instruction more
pub fields_more : (old new : List ℕ) (all : List Instr) (n : ℕ) (now : Instr) → HasMore old new → HasField new now → now ≡ get_or all n now →
    ((k : ℕ) (i : Instr) → k < n → slice_get all k ≡ Some i → HasField old i) → (k : ℕ) (i : Instr) → k < n + 1 → slice_get all k ≡ Some i → HasField new i
fields_more old new all n now more has is each k i within found =
    ⊎_elim (λ less. has_more old new i more (each k i less found))
    (λ past. let here : n ≡ k = omega (arith, within, past) in
    let same : now ≡ i = is ∙ ap (λ m. get_or all m now) here ∙ get_or_from_slice_get all k i now found in
    subst (HasField new) same has) (cases_lt k n)

-- a part of a join comes to the front
to_front : (a b c : Truth) → (a || (b || c)) ≡ ((b || a) || c)
to_front true true c = refl
to_front true false c = refl
to_front false true c = refl
to_front false false c = refl

-- the field of one instruction more was added
pub added_more : (old new : List ℕ) (all : List Instr) (n : ℕ) (now : Instr) (f : ℕ) (told : Truth) → n < length all → now ≡ get_or all n now → is_in new f ≡ (asks_by now f || is_in old f) →
    (asks_in (drop n all) f || is_in old f) ≡ told → (asks_in (drop (n + 1) all) f || is_in new f) ≡ told
added_more old new all n now f told within is by so_far =
    let left = drop (n + 1) all in
    ap (λ x. asks_in left f || x) by ∙ to_front (asks_in left f) (asks_by now f) (is_in old f)
    ∙ sym (at_drop_more (λ xs. asks_in xs f || is_in old f) all n now within ∙ ap (λ x. asks_in (x ∷ left) f || is_in old f) (sym is)) ∙ so_far
