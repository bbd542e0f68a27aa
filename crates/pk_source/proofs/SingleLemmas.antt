-- A field that has at most one place.
use Rattle.std.proofs.Common.{◌≡◌, ◌==◌, ◌+◌, ◌≤◌, ℕ, Bool as Truth, true, false, List, [], ◌∷◌, ◌++◌, length, ap, sym, refl, ◌∙◌, subst, arith, inl, inr, true≢false, if◌then◌else◌, append-nil, ◌<◌, Option, Some, None, IfSome, drop, get_or, slice_get}
use Rattle.std.proofs.lemmas.Bool.{cases_Bool}
use Rattle.std.proofs.lemmas.List.{drop_more}
use Rattle.std.proofs.lemmas.List.Elements.{All-head, All-tail}
use Rattle.std.specs.List.{All as ForAll}
use Rattle.pk_base.specs.declared.chosen.Layers.{Layers}
use Rattle.pk_base.specs.declared.span.Span.{Span}
use Rattle.pk_fields.specs.Fields.{row_of}
use Rattle.pk_source.specs.Found.{asked_told, fields_told, header_told, is_alone, is_asked, notes_told, rows_told, slot_told}
use Rattle.pk_source.specs.Outlines.{sizes_of}
use Rattle.pk_source.specs.Picks.{IsPicked, IsPickedIn, IsRowIn, has_one_slot, picked_told, slot_at}
use Rattle.pk_source.specs.declared.found.Asked.{Asked}
use Rattle.pk_source.specs.declared.header.Header.{Header}
use Rattle.pk_source.specs.declared.header.Note.{Note}
use Rattle.pk_source.specs.declared.header.Told.{Told}
use Rattle.pk_source.specs.declared.header.Told.TheVariants.{Read}
use Rattle.pk_source.specs.declared.picks.Picks.{Picks}
use Rattle.pk_source.specs.declared.picks.Picks.TheVariants as picks
use Rattle.pk_tree.specs.declared.table.Slot.{Slot}
use Rattle.pk_tree.specs.declared.table.Slot.TheVariants as slots

if_short : (b : Truth) (xs : List Told) → length xs ≤ 1 → length (if b then xs else []) ≤ 1
if_short true xs short = short
if_short false xs short = omega arith

one_short : (b : Truth) (told : Told) → length (if b then told ∷ [] else []) ≤ 1
one_short b told = if_short b (told ∷ []) (omega arith)

some_short : (b empty : Truth) (told : Told) → length (if b then (if empty then [] else told ∷ []) else []) ≤ 1
some_short b true told = if_short b [] (omega arith)
some_short b false told = one_short b told

slot_short : (span : Span) (sizes : List ℕ) (field : ℕ) (slot : Slot) → length (slot_told span sizes field slot) ≤ 1
unfolding slot_told
slot_short span sizes field (slots.Row f at) = one_short (f == field) _
slot_short span sizes field (slots.Part f at size) = some_short (f == field) _ _
slot_short span sizes field (slots.PartAt f at size) = some_short (f == field) _ _
slot_short span sizes field (slots.Whole f at size) = one_short (f == field) _
slot_short span sizes field (slots.Check test) = omega arith
slot_short span sizes field (slots.Room test) = omega arith

picked_short : (span : Span) (sizes : List ℕ) (field : ℕ) (table : List Slot) (p : Picks) → has_one_slot p ≡ true → length (picked_told span sizes field table p) ≤ 1
picked_short span sizes field table picks.Unknown one = absurd (true≢false (sym one))
picked_short span sizes field table picks.Never one = omega arith
picked_short span sizes field table (picks.Once a) one = slot_short span sizes field (slot_at table a)
picked_short span sizes field table (picks.Twice a b) one = absurd (true≢false (sym one))

header_short : (asked : Asked) (notes : List Note) (h : Header) → has_one_slot asked.picks ≡ true → notes_told asked.field notes ≡ [] → IsPickedIn asked h → h.proto ≡ asked.home
    → length (header_told asked.field notes h) ≤ 1
header_short asked notes h one untold picked home =
    let rows = picked_told h.span (sizes_of h) asked.field h.slots.now asked.picks in
    let is : header_told asked.field notes h ≡ rows = rw (untold, sym (picked home h.span (sizes_of h))) (append-nil rows) in
    subst (λ (told : List Told). length told ≤ 1) (sym is) (picked_short h.span (sizes_of h) asked.field h.slots.now asked.picks one)

-- of no header
pub none_told : (field home : ℕ) (layers : Layers) (notes : List Note) (headers : List Header) → home ≡ (row_of field).proto → is_alone true home headers ≡ true → fields_told field layers notes headers ≡ []
unfolding fields_told
none_told field home layers notes [] is alone = refl
none_told field home layers notes (h ∷ headers) is alone = elim (cases_Bool (h.proto == home)) [
  | inl mine ↦ absurd (true≢false (sym (rw mine at alone)))
  | inr other ↦
      let others : is_alone true home headers ≡ true = rw other at alone in
      let far : (h.proto == (row_of field).proto) ≡ false = ap (λ proto. h.proto == proto) (sym is) ∙ other in
      rw far (none_told field home layers notes headers is others)
]

alone_told : (asked : Asked) (layers : Layers) (notes : List Note) (headers : List Header) → asked.home ≡ (row_of asked.field).proto → has_one_slot asked.picks ≡ true → notes_told asked.field notes ≡ []
    → ForAll (IsPickedIn asked) headers → is_alone false asked.home headers ≡ true → length (fields_told asked.field layers notes headers) ≤ 1
unfolding fields_told
alone_told asked layers notes [] is one untold picked alone = omega arith
alone_told asked layers notes (h ∷ headers) is one untold picked alone = elim (cases_Bool (h.proto == asked.home)) [
  | inl mine ↦
      let rest : is_alone true asked.home headers ≡ true = rw mine at alone in
      let none : fields_told asked.field layers notes headers ≡ [] = none_told asked.field asked.home layers notes headers is rest in
      let short : length (header_told asked.field notes h) ≤ 1 = header_short asked notes h one untold (All-head (IsPickedIn asked) h headers picked) (grind (arith, mine)) in
      let told = asked_told asked.field layers notes h in
      let few : length told ≤ 1 = if_short (is_asked (row_of asked.field).proto layers h) (header_told asked.field notes h) short in
      subst (λ (more : List Told). length (told ++ more) ≤ 1) (sym none) (subst (λ (all : List Told). length all ≤ 1) (sym (append-nil told)) few)
  | inr other ↦
      let rest : is_alone false asked.home headers ≡ true = rw other at alone in
      let far : (h.proto == (row_of asked.field).proto) ≡ false = ap (λ proto. h.proto == proto) (sym is) ∙ other in
      rw far (alone_told asked layers notes headers is one untold (All-tail (IsPickedIn asked) h headers picked) rest)
]

pub at_most_one : (asked : Asked) (notes : List Note) (headers : List Header) → asked.home ≡ (row_of asked.field).proto → has_one_slot asked.picks ≡ true → notes_told asked.field notes ≡ []
    → ForAll (IsPickedIn asked) headers → is_alone false asked.home headers ≡ true → (layers : Layers) → length (fields_told asked.field layers notes headers) ≤ 1
at_most_one asked notes headers is one untold picked alone = λ layers. alone_told asked layers notes headers is one untold picked alone

-- the first header of the field's protocol has its first place

pub more_headers : (field : ℕ) (layers : Layers) (notes : List Note) (headers : List Header) (at : ℕ) (h : Header) → at < length headers → h ≡ get_or headers at h
    → fields_told field layers notes (drop at headers) ≡ asked_told field layers notes h ++ fields_told field layers notes (drop (at + 1) headers)
unfolding fields_told
more_headers field layers notes headers at h inside is = ap (fields_told field layers notes) (drop_more headers at h inside ∙ ap (λ (one : Header). one ∷ drop (at + 1) headers) (sym is))

pub passed_header : (field home : ℕ) (headers : List Header) (at : ℕ) (h : Header) → home ≡ (row_of field).proto → (h.proto == home) ≡ false → at < length headers → h ≡ get_or headers at h
    → ((layers : Layers) (notes : List Note) → fields_told field layers notes (drop at headers) ≡ fields_told field layers notes headers)
    → (layers : Layers) (notes : List Note) → fields_told field layers notes (drop (at + 1) headers) ≡ fields_told field layers notes headers
passed_header field home headers at h is other inside item so_far layers notes =
    let far : (h.proto == (row_of field).proto) ≡ false = ap (λ proto. h.proto == proto) (sym is) ∙ other in
    let none : asked_told field layers notes h ≡ [] = rw far refl in
    ap (λ (told : List Told). told ++ fields_told field layers notes (drop (at + 1) headers)) (sym none) ∙ sym (more_headers field layers notes headers at h inside item) ∙ so_far layers notes

-- where the picked slot is a row, the first place is what it reads
own_told : (field home number : ℕ) (p : Picks) (layers : Layers) (notes : List Note) (h : Header) (span : Span) → home ≡ (row_of field).proto → p ≡ picks.Once number
    → IsPicked field h.slots.now p → (h.proto == home) ≡ true → IsRowIn h number field layers span
    → asked_told field layers notes h ≡ Read span ∷ notes_told field notes
own_told field home number p layers notes h span is once picked mine row =
    let near : (h.proto == (row_of field).proto) ≡ true = ap (λ proto. h.proto == proto) (sym is) ∙ mine in
    let rows : rows_told h.span (sizes_of h) field h.slots.now ≡ Read span ∷ [] =
    sym (picked h.span (sizes_of h)) ∙ ap (picked_told h.span (sizes_of h) field h.slots.now) once ∙ row.1 in
    rw (near, row.0, rows) refl

pub own_is : (field home number : ℕ) (p : Picks) (layers : Layers) (h : Header) (found : Option Span) → home ≡ (row_of field).proto → p ≡ picks.Once number
    → IsPicked field h.slots.now p → (h.proto == home) ≡ true
    → IfSome found (IsRowIn h number field layers) → IfSome found (λ span. (notes : List Note) → slice_get (asked_told field layers notes h) 0 ≡ Some (Read span))
own_is field home number p layers h None is once picked mine row = tt
own_is field home number p layers h (Some span) is once picked mine row =
    λ notes. ap (λ (told : List Told). slice_get told 0) (own_told field home number p layers notes h span is once picked mine row)

first_told_is : (field home number : ℕ) (p : Picks) (layers : Layers) (notes : List Note) (headers : List Header) (at : ℕ) (h : Header) (span : Span) → home ≡ (row_of field).proto → p ≡ picks.Once number
    → IsPicked field h.slots.now p → (h.proto == home) ≡ true → at < length headers → h ≡ get_or headers at h
    → fields_told field layers notes (drop at headers) ≡ fields_told field layers notes headers
    → IsRowIn h number field layers span → slice_get (fields_told field layers notes headers) 0 ≡ Some (Read span)
first_told_is field home number p layers notes headers at h span is once picked mine inside item so_far row =
    ap (λ (told : List Told). slice_get told 0) (sym so_far ∙ more_headers field layers notes headers at h inside item
    ∙ ap (λ (told : List Told). told ++ fields_told field layers notes (drop (at + 1) headers)) (own_told field home number p layers notes h span is once picked mine row))

pub first_is : (field home number : ℕ) (p : Picks) (layers : Layers) (headers : List Header) (at : ℕ) (h : Header) (found : Option Span) → home ≡ (row_of field).proto → p ≡ picks.Once number
    → IsPicked field h.slots.now p → (h.proto == home) ≡ true → at < length headers → h ≡ get_or headers at h
    → ((layers : Layers) (notes : List Note) → fields_told field layers notes (drop at headers) ≡ fields_told field layers notes headers)
    → IfSome found (IsRowIn h number field layers) → IfSome found (λ span. (notes : List Note) → slice_get (fields_told field layers notes headers) 0 ≡ Some (Read span))
first_is field home number p layers headers at h None is once picked mine inside item so_far row = tt
first_is field home number p layers headers at h (Some span) is once picked mine inside item so_far row =
    λ notes. first_told_is field home number p layers notes headers at h span is once picked mine inside item (so_far layers notes) row
