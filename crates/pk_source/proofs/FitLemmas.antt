-- Headers that are read whole make a tree, and each place that is found in them can be read.
use Rattle.std.proofs.Common.{◌≡◌, ◌==◌, ◌<◌, ◌≤◌, ◌+◌, ◌*◌, ◌^◌, ℕ, zero, suc, Bool as Truth, true, false, cond, leb, ◌&&◌, List, [], ◌∷◌, ◌++◌, map, length, slice_index_or, slice_get, Option, Some, None, refl, subst, arith, add-one, append-nil}
use Rattle.std.proofs.Math.Nat.{pow-succ'}
use Rattle.std.specs.List.{All as ForAll, AllByRecursion as Each}
use Rattle.std.specs.Option.{IfSome, is_none, option_map_or}
use Rattle.std.proofs.lemmas.Bool.{and_parts, eqb-true, leb-true}
use Rattle.std.proofs.lemmas.List.{length-map}
use Rattle.std.proofs.lemmas.List.Elements.{recursion_from_All}
use Rattle.std.proofs.lemmas.Nat.{column_fits}
use Rattle.std.proofs.lemmas.Option.{get_or_from_slice_get, same_Some, slice_get_within}
use Rattle.pk_base.proofs.JoinedBits.{bits_joined}
use Rattle.pk_base.specs.Bits.{number_of_bits, sum_below}
use Rattle.pk_base.specs.declared.chosen.Layers.{Layers}
use Rattle.pk_base.specs.declared.chosen.Layers.TheVariants.{All as AllLayers}
use Rattle.pk_base.specs.declared.span.Span.{Span}
use Rattle.pk_fields.proofs.Sound.{row_sound}
use Rattle.pk_fields.specs.FieldSets.{is_in}
use Rattle.pk_fields.specs.Fields.{row_of}
use Rattle.pk_fields.specs.Rows.{IsSound, size_of_place}
use Rattle.pk_fields.specs.declared.value_kind.BitPlace.{BitPlace}
use Rattle.pk_fields.specs.declared.value_kind.ValueKind.{ValueKind}
use Rattle.pk_fields.specs.declared.value_kind.ValueKind.TheVariants as kinds
use Rattle.pk_source.specs.Found.{IsReadable, all_told, asked_told, fields_told, first_told, header_told, is_asked, layer_told, layers_told, note_told, notes_told, rows_told, slot_told, told_in}
use Rattle.pk_source.specs.Outlines.{AreNumbered, IsOutline, IsReadWhole, NoteFits, ToldFits, header_items, header_layer, notes_of, outlined, rows_read, sizes_of, told_item}
use Rattle.pk_source.specs.declared.header.Header.{Header}
use Rattle.pk_source.specs.declared.header.Note.{Note}
use Rattle.pk_source.specs.declared.header.Told.{Told}
use Rattle.pk_source.specs.declared.header.Told.TheVariants as tolds
use Rattle.pk_tree.proofs.KnownLemmas.{first_known}
use Rattle.pk_tree.proofs.Readable.{whole_row}
use Rattle.pk_tree.proofs.Spans.{inside_part}
use Rattle.pk_tree.specs.Buffers.{IsInside, bytes_of}
use Rattle.pk_tree.specs.Layouts.{StepFits, StepsFit, belongs, fitted, reach, step_items, step_reach, within}
use Rattle.pk_tree.specs.Tables.{step_of, steps_of}
use Rattle.pk_tree.specs.Trees.{IsTree, ItemFits, LayersFit, kept, read_of}
use Rattle.pk_tree.specs.Values.{HasSize, IsOfKind, is_proto, is_read, is_whole, scaled, size_of, value_of, value_with}
use Rattle.pk_tree.specs.declared.item.Item.{Item}
use Rattle.pk_tree.specs.declared.layer.Layer.{Layer}
use Rattle.pk_tree.specs.declared.layout.Reach.TheVariants.{All, Short}
use Rattle.pk_tree.specs.declared.table.Slot.{Slot}
use Rattle.pk_tree.specs.declared.table.Slot.TheVariants as slots

-- so many bits spell less than two to their number
one_bit : (bytes : List ℕ) (first : ℕ) → number_of_bits bytes first 1 < 2
unfolding number_of_bits sum_below
one_bit bytes first = omega arith

no_bits : (bytes : List ℕ) (first : ℕ) → number_of_bits bytes first 0 < 2 ^ 0
unfolding number_of_bits sum_below
no_bits bytes first = omega arith

bits_bound : (bytes : List ℕ) (first n : ℕ) → number_of_bits bytes first n < 2 ^ n
bits_bound bytes first zero = no_bits bytes first
bits_bound bytes first (suc n) =
    let front : number_of_bits bytes first n < 2 ^ n = bits_bound bytes first n in
    let joined : number_of_bits bytes first (n + 1) ≡ number_of_bits bytes first n * 2 ^ 1 + number_of_bits bytes (first + n) 1 = bits_joined bytes first n 1 in
    let more : number_of_bits bytes first (suc n) ≡ number_of_bits bytes first n * 2 ^ 1 + number_of_bits bytes (first + n) 1 = rw (← add-one n) joined in
    let double : 2 ^ suc n ≡ 2 * 2 ^ n = pow-succ' 2 n in
    omega (arith, one_bit bytes (first + n))

-- what a row reads is of its kind
factor_fits : (factor number bound most : ℕ) → 1 ≤ factor → number < bound → factor * bound ≤ most → factor * number < most
factor_fits factor number bound most some small all =
    let same : factor ≤ factor = omega arith in
    omega (arith, column_fits factor number factor bound small same)

number_kind : (kind : ValueKind) (place : BitPlace) (bytes : List ℕ) → IsSound kind place → IsOfKind kind (value_with kind bytes (scaled bytes place))
number_kind (kinds.Uint width) place bytes sound =
    factor_fits place.scale (number_of_bits bytes place.first place.width) (2 ^ place.width) (2 ^ width) sound.3 (bits_bound bytes place.first place.width) sound.4
number_kind kinds.Bool place bytes sound = tt
number_kind kinds.Ether place bytes sound = tt
number_kind kinds.Ip4 place bytes sound = tt
number_kind kinds.Ip6 place bytes sound = tt
number_kind kind place bytes sound = absurd sound

whole_kind : (kind : ValueKind) (bytes : List ℕ) → is_whole kind ≡ true → IsOfKind kind (value_with kind bytes 0)
whole_kind kinds.Bytes bytes whole = tt
whole_kind kinds.Text bytes whole = tt
whole_kind kind bytes whole = absurd (cc)

pub read_kind : (f : ℕ) (bytes : List ℕ) → is_read (row_of f) ≡ true → IsOfKind (row_of f).kind (value_of f bytes)
unfolding value_of
read_kind f bytes read = by_bits (row_of f).bits refl (row_sound f)
  where
    by_bits : (bits : Option BitPlace) → (row_of f).bits ≡ bits → IfSome bits (IsSound (row_of f).kind) →
        IsOfKind (row_of f).kind (value_with (row_of f).kind bytes (option_map_or (λ place. scaled bytes place) (row_of f).bits 0))
    by_bits None is sound = rw is (whole_kind (row_of f).kind bytes (whole_row f read is))
    by_bits (Some place) is sound = rw is (number_kind (row_of f).kind place bytes sound)

-- a part of a layer that a step reads
fits_inside : (end at len : ℕ) → fitted end at len ≡ All → at + len ≤ end
fits_inside end at len all = by_test (leb (at + len) end) refl all
  where
    by_test : (test : Truth) → leb (at + len) end ≡ test → cond test All Short ≡ All → at + len ≤ end
    by_test true is all = leb-true (at + len) end is
    by_test false is all = absurd (cc)

own_size : (bits : Option BitPlace) → HasSize bits (option_map_or size_of_place bits 0)
own_size None = tt
own_size (Some place) = refl

any_size : (bits : Option BitPlace) (len : ℕ) → is_none bits ≡ true → HasSize bits len
any_size None len none = tt
any_size (Some place) len none = absurd (cc)

-- what is known of a step's field and part
record IsPart (buffers : List (List ℕ)) (proto f : ℕ) (part : Span) : Type 0 where
  own : belongs proto f ≡ true
  read : is_read (row_of f) ≡ true
  size : HasSize (row_of f).bits part.len
  inside : IsInside buffers part

part_is : (buffers : List (List ℕ)) (span : Span) (proto f at len : ℕ) → IsInside buffers span → belongs proto f ≡ true → is_read (row_of f) ≡ true → HasSize (row_of f).bits len → fitted span.len at len ≡ All →
    IsPart buffers proto f (within span at len)
part_is buffers span proto f at len inside own read size all =
    record { own = own; read = read; size = size; inside = inside_part buffers span at len inside (fits_inside span.len at len all) }

three : (a b c : Truth) → (a && b && c) ≡ true → (a ≡ true) × (b ≡ true) × (c ≡ true)
three a b c all =
    let front = and_parts (a && b) c all in
    let first = and_parts a b front.0 in
    (first.0, first.1, front.1)

unsized_is : (buffers : List (List ℕ)) (span : Span) (proto f at len : ℕ) → IsInside buffers span → (belongs proto f && is_read (row_of f) && is_none (row_of f).bits) ≡ true → fitted span.len at len ≡ All →
    IsPart buffers proto f (within span at len)
unsized_is buffers span proto f at len inside fits all =
    let parts = three (belongs proto f) (is_read (row_of f)) (is_none (row_of f).bits) fits in
    part_is buffers span proto f at len inside parts.0 parts.1 (any_size (row_of f).bits len parts.2) all

row_is : (buffers : List (List ℕ)) (span : Span) (proto f at : ℕ) → IsInside buffers span → (belongs proto f && is_read (row_of f)) ≡ true → fitted span.len at (size_of f) ≡ All →
    IsPart buffers proto f (within span at (size_of f))
row_is buffers span proto f at inside fits all =
    let parts = and_parts (belongs proto f) (is_read (row_of f)) fits in
    part_is buffers span proto f at (size_of f) inside parts.0 parts.1 (own_size (row_of f).bits) all

-- its item
part_fits : (buffers : List (List ℕ)) (proto f : ℕ) (part : Span) → IsPart buffers proto f part → ItemFits buffers proto (read_of buffers f part)
part_fits buffers proto f part is = record {
  belongs = eqb-true (row_of f).proto proto is.own;
  kind = read_kind f (bytes_of buffers part) is.read;
  place = (is.inside, is.size, refl, is.read);
}

some_fits : (buffers : List (List ℕ)) (span : Span) (proto f at len : ℕ) (none : Truth) → IsInside buffers span → (belongs proto f && is_read (row_of f) && is_none (row_of f).bits) ≡ true →
    cond none All (fitted span.len at len) ≡ All → Each (ItemFits buffers proto) (cond none [] (read_of buffers f (within span at len) ∷ []))
some_fits buffers span proto f at len true inside fits all = tt
some_fits buffers span proto f at len false inside fits all =
    (part_fits buffers proto f (within span at len) (unsized_is buffers span proto f at len inside fits all), tt)

slot_fits : (buffers : List (List ℕ)) (span : Span) (proto : ℕ) (holds : List Truth) (sizes : List ℕ) (slot : Slot) → IsInside buffers span → StepFits proto (step_of holds sizes slot) → step_reach span.len (step_of holds sizes slot) ≡ All →
    Each (ItemFits buffers proto) (step_items buffers span (step_of [] sizes slot))
unfolding step_items step_reach
slot_fits buffers span proto holds sizes (slots.Row f at) inside fits all =
    (part_fits buffers proto f (within span at (size_of f)) (row_is buffers span proto f at inside fits all), tt)
slot_fits buffers span proto holds sizes (slots.Part f at size) inside fits all =
    some_fits buffers span proto f at (slice_index_or sizes size 0) (slice_index_or sizes size 0 == 0) inside fits all
slot_fits buffers span proto holds sizes (slots.PartAt f at size) inside fits all =
    some_fits buffers span proto f (slice_index_or sizes at 0) (slice_index_or sizes size 0) (slice_index_or sizes size 0 == 0) inside fits all
slot_fits buffers span proto holds sizes (slots.Whole f at size) inside fits all =
    (part_fits buffers proto f (within span at (slice_index_or sizes size 0)) (unsized_is buffers span proto f at (slice_index_or sizes size 0) inside fits all), tt)
slot_fits buffers span proto holds sizes (slots.Check test) inside fits all = tt
slot_fits buffers span proto holds sizes (slots.Room test) inside fits all = tt

each_both : {A : Type 0} (P : A → Type 0) (xs ys : List A) → Each P xs → Each P ys → Each P (xs ++ ys)
each_both P [] ys front back = back
each_both P (x ∷ xs) ys front back = (front.0, each_both P xs ys front.1 back)

rows_fit : (buffers : List (List ℕ)) (span : Span) (proto : ℕ) (holds : List Truth) (sizes : List ℕ) (table : List Slot) → IsInside buffers span → StepsFit proto (steps_of holds sizes table) → reach span.len (steps_of holds sizes table) ≡ All →
    Each (ItemFits buffers proto) (rows_read buffers span sizes table)
unfolding rows_read steps_of StepsFit
rows_fit buffers span proto holds sizes [] inside fit whole = tt
rows_fit buffers span proto holds sizes (slot ∷ table) inside fit whole =
    let both = first_known span.len (step_of holds sizes slot) (steps_of holds sizes table) whole in
    each_both (ItemFits buffers proto) (step_items buffers span (step_of [] sizes slot)) (rows_read buffers span sizes table) (slot_fits buffers span proto holds sizes slot inside fit.0 both.0) (rows_fit buffers span proto holds sizes table inside fit.1 both.1)

told_fits : (buffers : List (List ℕ)) (proto f : ℕ) (told : Told) → (row_of f).proto ≡ proto → ToldFits buffers f told → ItemFits buffers proto (told_item buffers f told)
told_fits buffers proto f (tolds.Read span) own fits =
    record { belongs = own; kind = read_kind f (bytes_of buffers span) fits.2; place = (fits.0, fits.1, refl, fits.2) }
told_fits buffers proto f (tolds.Number number) own fits = record { belongs = own; kind = fits; place = tt }
told_fits buffers proto f (tolds.Moment time) own fits = record { belongs = own; kind = fits; place = tt }

notes_fit : (buffers : List (List ℕ)) (proto : ℕ) (notes : List Note) → Each (NoteFits buffers) notes → Each (ItemFits buffers proto) (map (λ (note : Note). told_item buffers note.field note.told) (notes_of proto notes))
unfolding notes_of
notes_fit buffers proto [] each = tt
notes_fit buffers proto (note ∷ notes) each = by_test ((row_of note.field).proto == proto) refl (notes_fit buffers proto notes each.1)
  where
    by_test : (test : Truth) → ((row_of note.field).proto == proto) ≡ test → Each (ItemFits buffers proto) (map (λ (n : Note). told_item buffers n.field n.told) (notes_of proto notes)) →
        Each (ItemFits buffers proto) (map (λ (n : Note). told_item buffers n.field n.told) (cond test (note ∷ notes_of proto notes) (notes_of proto notes)))
    by_test true is rest = (told_fits buffers proto note.field note.told (eqb-true (row_of note.field).proto proto is) each.0, rest)
    by_test false is rest = rest

kept_fit : (P : Item → Type 0) (wanted : List ℕ) (items : List Item) → Each P items → Each P (kept wanted items)
unfolding kept
kept_fit P wanted [] each = tt
kept_fit P wanted (item ∷ items) each = by_test (is_in wanted item.field) (kept_fit P wanted items each.1)
  where
    by_test : (test : Truth) → Each P (kept wanted items) → Each P (cond test (item ∷ kept wanted items) (kept wanted items))
    by_test true rest = (each.0, rest)
    by_test false rest = rest

pub items_fit : (buffers : List (List ℕ)) (notes : List Note) (h : Header) → IsReadWhole buffers h → Each (NoteFits buffers) notes → Each (ItemFits buffers h.proto) (header_items buffers notes h)
unfolding header_items
items_fit buffers notes h whole told =
    each_both (ItemFits buffers h.proto) (rows_read buffers h.span (sizes_of h) h.slots.now) (map (λ (note : Note). told_item buffers note.field note.told) (notes_of h.proto notes)) (rows_fit buffers h.span h.proto whole.holds (sizes_of h) h.slots.now whole.inside whole.fits whole.whole) (notes_fit buffers h.proto notes told)

layers_fit : (buffers : List (List ℕ)) (wanted : List ℕ) (notes : List Note) (before : List Layer) (headers : List Header) → Each (IsReadWhole buffers) headers → Each (NoteFits buffers) notes → AreNumbered before (map (header_layer buffers wanted notes) headers) →
    LayersFit buffers before (map (header_layer buffers wanted notes) headers)
layers_fit buffers wanted notes before [] whole told numbered = tt
layers_fit buffers wanted notes before (h ∷ headers) whole told numbered = (
  record {
    proto = whole.0.proto;
    nth = numbered.0;
    inside = whole.0.inside;
    items = kept_fit (ItemFits buffers h.proto) wanted (header_items buffers notes h) (items_fit buffers notes h whole.0 told);
  },
  layers_fit buffers wanted notes (before ++ header_layer buffers wanted notes h ∷ []) headers whole.1 told numbered.1,
)

pub each_whole : (bytes wanted : List ℕ) (headers : List Header) (notes : List Note) → IsOutline bytes wanted headers notes → Each (IsReadWhole (bytes ∷ [])) headers
each_whole bytes wanted headers notes is = recursion_from_All (IsReadWhole (bytes ∷ [])) headers is.whole

pub each_note : (bytes wanted : List ℕ) (headers : List Header) (notes : List Note) → IsOutline bytes wanted headers notes → Each (NoteFits (bytes ∷ [])) notes
each_note bytes wanted headers notes is = recursion_from_All (NoteFits (bytes ∷ [])) notes is.told

pub outline_fits : (bytes wanted : List ℕ) (headers : List Header) (notes : List Note) → IsOutline bytes wanted headers notes → IsTree (outlined bytes wanted headers notes)
unfolding outlined
outline_fits bytes wanted headers notes is = record {
  frame = omega arith;
  count = rw (length-map headers (header_layer (bytes ∷ []) wanted notes)) is.few;
  layers = layers_fit (bytes ∷ []) wanted notes [] headers (each_whole bytes wanted headers notes is) (each_note bytes wanted headers notes is) is.numbered;
}

-- a place that was found can be read
part_reads : (buffers : List (List ℕ)) (proto f field : ℕ) (part : Span) (same : Truth) → (f == field) ≡ same → IsPart buffers proto f part → Each (IsReadable buffers field) (cond same (tolds.Read part ∷ []) [])
part_reads buffers proto f field part true same is =
    subst (λ g. Each (IsReadable buffers g) (tolds.Read part ∷ [])) (eqb-true f field same) ((is.inside, λ none. (is.size, is.read)), tt)
part_reads buffers proto f field part false same is = tt

some_reads : (buffers : List (List ℕ)) (span : Span) (proto f field at len : ℕ) (none : Truth) → IsInside buffers span → (belongs proto f && is_read (row_of f) && is_none (row_of f).bits) ≡ true →
    cond none All (fitted span.len at len) ≡ All → Each (IsReadable buffers field) (cond (f == field) (cond none [] (tolds.Read (within span at len) ∷ [])) [])
some_reads buffers span proto f field at len true inside fits all = nothing (f == field)
  where
    nothing : (same : Truth) → Each (IsReadable buffers field) (cond same [] [])
    nothing true = tt
    nothing false = tt
some_reads buffers span proto f field at len false inside fits all =
    part_reads buffers proto f field (within span at len) (f == field) refl (unsized_is buffers span proto f at len inside fits all)

slot_reads : (buffers : List (List ℕ)) (span : Span) (proto field : ℕ) (holds : List Truth) (sizes : List ℕ) (slot : Slot) → IsInside buffers span → StepFits proto (step_of holds sizes slot) → step_reach span.len (step_of holds sizes slot) ≡ All →
    Each (IsReadable buffers field) (slot_told span sizes field slot)
unfolding slot_told step_reach
slot_reads buffers span proto field holds sizes (slots.Row f at) inside fits all =
    part_reads buffers proto f field (within span at (size_of f)) (f == field) refl (row_is buffers span proto f at inside fits all)
slot_reads buffers span proto field holds sizes (slots.Part f at size) inside fits all =
    some_reads buffers span proto f field at (slice_index_or sizes size 0) (slice_index_or sizes size 0 == 0) inside fits all
slot_reads buffers span proto field holds sizes (slots.PartAt f at size) inside fits all =
    some_reads buffers span proto f field (slice_index_or sizes at 0) (slice_index_or sizes size 0) (slice_index_or sizes size 0 == 0) inside fits all
slot_reads buffers span proto field holds sizes (slots.Whole f at size) inside fits all =
    part_reads buffers proto f field (within span at (slice_index_or sizes size 0)) (f == field) refl (unsized_is buffers span proto f at (slice_index_or sizes size 0) inside fits all)
slot_reads buffers span proto field holds sizes (slots.Check test) inside fits all = tt
slot_reads buffers span proto field holds sizes (slots.Room test) inside fits all = tt

rows_read_well : (buffers : List (List ℕ)) (span : Span) (proto field : ℕ) (holds : List Truth) (sizes : List ℕ) (table : List Slot) → IsInside buffers span → StepsFit proto (steps_of holds sizes table) → reach span.len (steps_of holds sizes table) ≡ All →
    Each (IsReadable buffers field) (rows_told span sizes field table)
unfolding rows_told steps_of StepsFit
rows_read_well buffers span proto field holds sizes [] inside fit whole = tt
rows_read_well buffers span proto field holds sizes (slot ∷ table) inside fit whole =
    let both = first_known span.len (step_of holds sizes slot) (steps_of holds sizes table) whole in
    each_both (IsReadable buffers field) (slot_told span sizes field slot) (rows_told span sizes field table) (slot_reads buffers span proto field holds sizes slot inside fit.0 both.0) (rows_read_well buffers span proto field holds sizes table inside fit.1 both.1)

told_reads : (buffers : List (List ℕ)) (f : ℕ) (told : Told) → ToldFits buffers f told → IsReadable buffers f told
told_reads buffers f (tolds.Read span) fits = (fits.0, λ none. (fits.1, fits.2))
told_reads buffers f (tolds.Number number) fits = tt
told_reads buffers f (tolds.Moment time) fits = tt

note_reads : (buffers : List (List ℕ)) (field : ℕ) (note : Note) (same : Truth) → (note.field == field) ≡ same → NoteFits buffers note → Each (IsReadable buffers field) (cond same (note.told ∷ []) [])
note_reads buffers field note true same fits =
    subst (λ g. Each (IsReadable buffers g) (note.told ∷ [])) (eqb-true note.field field same) (told_reads buffers note.field note.told fits, tt)
note_reads buffers field note false same fits = tt

notes_read_well : (buffers : List (List ℕ)) (field : ℕ) (notes : List Note) → Each (NoteFits buffers) notes → Each (IsReadable buffers field) (notes_told field notes)
unfolding notes_told
notes_read_well buffers field [] each = tt
notes_read_well buffers field (note ∷ notes) each =
    each_both (IsReadable buffers field) (note_told field note) (notes_told field notes) (note_reads buffers field note (note.field == field) refl each.0) (notes_read_well buffers field notes each.1)

each_if : {A : Type 0} (P : A → Type 0) (test : Truth) (xs : List A) → Each P xs → Each P (cond test xs [])
each_if P true xs each = each
each_if P false xs each = tt

fields_read_well : (buffers : List (List ℕ)) (field : ℕ) (layers : Layers) (notes : List Note) (headers : List Header) → Each (IsReadWhole buffers) headers → Each (NoteFits buffers) notes → Each (IsReadable buffers field) (fields_told field layers notes headers)
unfolding fields_told
fields_read_well buffers field layers notes [] whole told = tt
fields_read_well buffers field layers notes (h ∷ headers) whole told =
    let w = whole.0 in
    let rows = rows_read_well buffers h.span h.proto field w.holds (sizes_of h) h.slots.now w.inside w.fits w.whole in
    let all = each_both (IsReadable buffers field) (rows_told h.span (sizes_of h) field h.slots.now) (notes_told field notes) rows (notes_read_well buffers field notes told) in
    each_both (IsReadable buffers field) (asked_told field layers notes h) (fields_told field layers notes headers) (each_if (IsReadable buffers field) (is_asked (row_of field).proto layers h) (header_told field notes h) all) (fields_read_well buffers field layers notes headers whole.1 told)

layers_read_well : (buffers : List (List ℕ)) (field : ℕ) (layers : Layers) (headers : List Header) → is_proto (row_of field).kind ≡ true → Each (IsReadWhole buffers) headers → Each (IsReadable buffers field) (layers_told field layers headers)
unfolding layers_told
layers_read_well buffers field layers [] is whole = tt
layers_read_well buffers field layers (h ∷ headers) is whole =
    let one : IsReadable buffers field (tolds.Read h.span) = (whole.0.inside, λ none. absurd (cc)) in
    each_both (IsReadable buffers field) (layer_told field layers h) (layers_told field layers headers) (each_if (IsReadable buffers field) (is_asked field layers h) (tolds.Read h.span ∷ []) (one, tt)) (layers_read_well buffers field layers headers is whole.1)

all_read_well : (bytes wanted : List ℕ) (headers : List Header) (notes : List Note) (field : ℕ) (layers : Layers) → IsOutline bytes wanted headers notes → Each (IsReadable (bytes ∷ []) field) (all_told wanted headers notes field layers)
unfolding all_told
all_read_well bytes wanted headers notes field layers is = by_kind (is_proto (row_of field).kind) refl (is_in wanted field)
  where
    by_kind : (proto : Truth) → is_proto (row_of field).kind ≡ proto → (asked : Truth) →
        Each (IsReadable (bytes ∷ []) field) (cond proto (layers_told field layers headers) (cond asked (fields_told field layers notes headers) []))
    by_kind true same asked = layers_read_well (bytes ∷ []) field layers headers same (each_whole bytes wanted headers notes is)
    by_kind false same true = fields_read_well (bytes ∷ []) field layers notes headers (each_whole bytes wanted headers notes is) (each_note bytes wanted headers notes is)
    by_kind false same false = tt

each_get : {A : Type 0} (P : A → Type 0) (xs : List A) (k : ℕ) (x : A) → Each P xs → slice_get xs k ≡ Some x → P x
each_get P [] k x each is = absurd (cc)
each_get P (y ∷ ys) zero x each is = subst P (same_Some y x is) each.0
each_get P (y ∷ ys) (suc k) x each is = each_get P ys k x each.1 is

pub found_reads : (bytes wanted : List ℕ) (headers : List Header) (notes : List Note) (field : ℕ) (layers : Layers) (k : ℕ) (told : Told) → IsOutline bytes wanted headers notes → slice_get (all_told wanted headers notes field layers) k ≡ Some told →
    IsReadable (bytes ∷ []) field told
found_reads bytes wanted headers notes field layers k told is found =
    each_get (IsReadable (bytes ∷ []) field) (all_told wanted headers notes field layers) k told (all_read_well bytes wanted headers notes field layers is) found

pub told_in_reads : (bytes wanted : List ℕ) (headers : List Header) (notes : List Note) (field : ℕ) (h : Header) (told : Told) → IsOutline bytes wanted headers notes → IsReadWhole (bytes ∷ []) h → slice_get (told_in wanted notes field h) 0 ≡ Some told →
    IsReadable (bytes ∷ []) field told
unfolding told_in fields_told
told_in_reads bytes wanted headers notes field h told is whole found =
    each_get (IsReadable (bytes ∷ []) field) (told_in wanted notes field h) 0 told (by_test (is_in wanted field)) found
  where
    all : Each (IsReadable (bytes ∷ []) field) (asked_told field AllLayers notes h)
    all = rw append-nil at (fields_read_well (bytes ∷ []) field AllLayers notes (h ∷ []) (whole, tt) (each_note bytes wanted headers notes is))

    by_test : (asked : Truth) → Each (IsReadable (bytes ∷ []) field) (cond asked (asked_told field AllLayers notes h) [])
    by_test true = all
    by_test false = tt

-- of each, so of the one at a place
pub all_get : {A : Type 0} (P : A → Type 0) (xs : List A) (k : ℕ) (x : A) → ForAll P xs → slice_get xs k ≡ Some x → P x
all_get P xs k x all is = subst P (get_or_from_slice_get xs k x x is) (all k x (slice_get_within xs k x is))

pub first_reads : (bytes wanted : List ℕ) (headers : List Header) (notes : List Note) (field place : ℕ) (told : Told) → IsOutline bytes wanted headers notes → first_told wanted notes field (slice_get headers place) ≡ Some told →
    IsReadable (bytes ∷ []) field told
first_reads bytes wanted headers notes field place told is found = by_header (slice_get headers place) refl found
  where
    by_header : (at : Option Header) → slice_get headers place ≡ at → first_told wanted notes field at ≡ Some told → IsReadable (bytes ∷ []) field told
    by_header None here none = absurd (cc)
    by_header (Some h) here some = told_in_reads bytes wanted headers notes field h told is (all_get (IsReadWhole (bytes ∷ [])) headers place h is.whole here) some

-- a span of the frame's bytes ends where 32 bits tell
inside_ends : (bytes : List ℕ) (number start len : ℕ) → length bytes < 2 ^ 32 → IsInside (bytes ∷ []) (record { buffer = number; start = start; len = len }) → start + len < 2 ^ 32
inside_ends bytes zero start len short inside = omega (arith, inside.1)
inside_ends bytes (suc number) start len short inside = absurd (omega (arith, inside.0))

pub all_short : (bytes wanted : List ℕ) (headers : List Header) (notes : List Note) → IsOutline bytes wanted headers notes → ForAll (λ (h : Header). h.span.start + h.span.len < 2 ^ 32) headers
all_short bytes wanted headers notes is =
    λ k d inside. inside_ends bytes (slice_index_or headers k d).span.buffer (slice_index_or headers k d).span.start (slice_index_or headers k d).span.len is.short (is.whole k d inside).inside
