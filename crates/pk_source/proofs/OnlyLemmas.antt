-- The only header of a protocol has all places of the protocol's fields.
use Rattle.std.proofs.Common.{◌≡◌, ◌==◌, ◌+◌, ◌-◌, ◌<◌, ℕ, true, false, List, [], ◌∷◌, ◌++◌, length, get_or, take, drop, map, slice_get, Option, Some, None, IfSome, ap, sym, refl, ◌∙◌, subst, arith, append-nil}
use Rattle.std.proofs.lemmas.List.{drop_more, get_or_default, length-drop, take_all}
use Rattle.std.proofs.lemmas.Option.{slice_get-map}
use Rattle.std.specs.List.{All as ForAll}
use Rattle.std.specs.Option.{is_some, option_map}
use Rattle.pk_base.specs.declared.chosen.Layers.{Layers}
use Rattle.pk_base.specs.declared.chosen.Layers.TheVariants.{All as AllLayers}
use Rattle.pk_base.specs.declared.span.Span.{Span}
use Rattle.pk_base.specs.declared.value.Value.{Value}
use Rattle.pk_fields.specs.FieldSets.{is_in}
use Rattle.pk_fields.specs.Fields.{row_of}
use Rattle.pk_source.proofs.FitLemmas.{found_reads}
use Rattle.pk_source.proofs.OutlineLaws.{outline_values}
use Rattle.pk_source.proofs.SingleLemmas.{more_headers, none_told, passed_header}
use Rattle.pk_source.specs.Found.{IsOnlyFrom, IsOnlyOf, IsReadable, all_told, asked_told, fields_told, header_told, note_told, notes_told, rows_told, value_at}
use Rattle.pk_source.specs.Outlines.{IsOutline, outlined, sizes_of}
use Rattle.pk_source.specs.Picks.{IsPicked, IsPickedIn, IsRowIn, Knows, pick_at, picked_told}
use Rattle.pk_source.specs.declared.found.Asked.{Asked}
use Rattle.pk_source.specs.declared.header.Header.{Header}
use Rattle.pk_source.specs.declared.header.Note.{Note}
use Rattle.pk_source.specs.declared.header.Told.{Told}
use Rattle.pk_source.specs.declared.header.Told.TheVariants.{Read}
use Rattle.pk_source.specs.declared.picks.Picks.{Picks}
use Rattle.pk_source.specs.declared.picks.Picks.TheVariants as picks
use Rattle.pk_tree.specs.FieldValues.{values_of}
use Rattle.pk_tree.specs.Values.{is_proto}

-- none is of the protocol so far
abbrev pub AreOthers : ℕ → List Header → ℕ → Type 0
AreOthers home headers at =
    (field : ℕ) (layers : Layers) (notes : List Note) → home ≡ (row_of field).proto → fields_told field layers notes (drop at headers) ≡ fields_told field layers notes headers

pub one_more_other : (home : ℕ) (headers : List Header) (at : ℕ) (h : Header) → (h.proto == home) ≡ false → at < length headers → h ≡ get_or headers at h
    → AreOthers home headers at → AreOthers home headers (at + 1)
one_more_other home headers at h other inside item so_far field layers notes is =
    passed_header field home headers at h is other inside item (λ chosen beside. so_far field chosen beside is) layers notes

only_told : (home : ℕ) (headers : List Header) (at : ℕ) (h : Header) → (h.proto == home) ≡ true → IsOnlyFrom at home headers h → AreOthers home headers at
    → (field : ℕ) (notes : List Note) → home ≡ (row_of field).proto → fields_told field AllLayers notes headers ≡ header_told field notes h
only_told home headers at h mine only so_far field notes is =
    let near : (h.proto == (row_of field).proto) ≡ true = ap (λ proto. h.proto == proto) (sym is) ∙ mine in
    let own : asked_told field AllLayers notes h ≡ header_told field notes h = rw near refl in
    sym (so_far field AllLayers notes is)
    ∙ more_headers field AllLayers notes headers at h only.0 only.1
    ∙ ap (λ (rest : List Told). asked_told field AllLayers notes h ++ rest) (none_told field home AllLayers notes (drop (at + 1) headers) is only.2)
    ∙ append-nil (asked_told field AllLayers notes h)
    ∙ own

pub only_found : {B : Type 0} (now : B → Header) (home : ℕ) (headers : List Header) (at : ℕ) (found : Option B) (one : Header) → at < length headers → one ≡ get_or headers at one → (one.proto == home) ≡ true → AreOthers home headers at
    → IfSome found (λ h. IsOnlyFrom at home headers (now h)) → IfSome found (λ h. IsOnlyOf home headers (now h))
only_found now home headers at None one inside item mine so_far only = tt
only_found now home headers at (Some lent) one inside item mine so_far only =
    let h = now lent in
    let same : h ≡ one = only.1 ∙ sym (item ∙ get_or_default headers at one h inside) in
    let its : (h.proto == home) ≡ true = ap (λ (x : Header). x.proto == home) same ∙ mine in
    record {
      place = at;
      inside = only.0;
      at = only.1;
      mine = grind (arith, its);
      told = only_told home headers at h its only so_far;
    }

-- a row of a fixed place
pub only_row_told : (wanted : List ℕ) (headers : List Header) (notes : List Note) (asked : Asked) (h : Header) (number : ℕ) (found : Option Span) → asked.home ≡ (row_of asked.field).proto → asked.picks ≡ picks.Once number
    → is_proto (row_of asked.field).kind ≡ false → is_in wanted asked.field ≡ true → notes_told asked.field notes ≡ [] → ForAll (IsPickedIn asked) headers → IsOnlyOf asked.home headers h
    → IfSome found (IsRowIn h number asked.field AllLayers) → IfSome found (λ span. all_told wanted headers notes asked.field AllLayers ≡ Read span ∷ [])
unfolding all_told
only_row_told wanted headers notes asked h number None home once kind wants untold all only row = tt
only_row_told wanted headers notes asked h number (Some span) home once kind wants untold all only row =
    let picked : IsPickedIn asked h = subst (IsPickedIn asked) (sym only.at) (all only.place h only.inside) in
    let rows : rows_told h.span (sizes_of h) asked.field h.slots.now ≡ Read span ∷ [] =
    sym (picked only.mine h.span (sizes_of h)) ∙ ap (picked_told h.span (sizes_of h) asked.field h.slots.now) once ∙ row.1 in
    let told : header_told asked.field notes h ≡ Read span ∷ [] = rw (rows, untold) refl in
    rw (kind, wants) (only.told asked.field notes home ∙ told)

-- one note
next_notes : (field : ℕ) (notes : List Note) (at : ℕ) (note : Note) → at < length notes → note ≡ get_or notes at note
    → notes_told field (drop at notes) ≡ note_told field note ++ notes_told field (drop (at + 1) notes)
unfolding notes_told
next_notes field notes at note inside is = ap (notes_told field) (drop_more notes at note inside ∙ ap (λ (one : Note). one ∷ drop (at + 1) notes) (sym is))

pub take_rest : (notes : List Note) (at : ℕ) → take (length notes - at) (drop at notes) ≡ drop at notes
take_rest notes at = take_all (length notes - at) (drop at notes) (omega (arith, length-drop at notes))

pub other_note : (field : ℕ) (notes : List Note) (at : ℕ) (note : Note) → (note.field == field) ≡ false → at < length notes → note ≡ get_or notes at note
    → notes_told field (drop at notes) ≡ notes_told field notes → notes_told field (drop (at + 1) notes) ≡ notes_told field notes
other_note field notes at note other inside is so_far =
    let none : note_told field note ≡ [] = rw other refl in
    ap (λ (told : List Told). told ++ notes_told field (drop (at + 1) notes)) (sym none) ∙ sym (next_notes field notes at note inside is) ∙ so_far

pub only_note_is : (field : ℕ) (notes : List Note) (at : ℕ) (note : Note) → (note.field == field) ≡ true → at < length notes → note ≡ get_or notes at note
    → notes_told field (drop at notes) ≡ notes_told field notes → notes_told field (drop (at + 1) notes) ≡ [] → notes_told field notes ≡ note.told ∷ []
only_note_is field notes at note mine inside is so_far none =
    let own : note_told field note ≡ note.told ∷ [] = rw mine refl in
    sym so_far ∙ next_notes field notes at note inside is ∙ ap (λ (told : List Told). told ++ notes_told field (drop (at + 1) notes)) own ∙ ap (λ (rest : List Told). note.told ∷ rest) none

pub only_note_told : (wanted : List ℕ) (headers : List Header) (notes : List Note) (asked : Asked) (h : Header) (found : Option Told) → asked.home ≡ (row_of asked.field).proto → asked.picks ≡ picks.Never
    → is_proto (row_of asked.field).kind ≡ false → is_in wanted asked.field ≡ true → ForAll (IsPickedIn asked) headers → IsOnlyOf asked.home headers h
    → IfSome found (λ told. notes_told asked.field notes ≡ told ∷ []) → IfSome found (λ told. all_told wanted headers notes asked.field AllLayers ≡ told ∷ [])
unfolding all_told
only_note_told wanted headers notes asked h None home never kind wants all only note = tt
only_note_told wanted headers notes asked h (Some one) home never kind wants all only note =
    let picked : IsPickedIn asked h = subst (IsPickedIn asked) (sym only.at) (all only.place h only.inside) in
    let rows : rows_told h.span (sizes_of h) asked.field h.slots.now ≡ [] =
    sym (picked only.mine h.span (sizes_of h)) ∙ ap (picked_told h.span (sizes_of h) asked.field h.slots.now) never in
    let told : header_told asked.field notes h ≡ one ∷ [] = rw (rows, note) refl in
    rw (kind, wants) (only.told asked.field notes home ∙ told)

-- the values of one place, and of none
pub one_value : (bytes wanted : List ℕ) (headers : List Header) (notes : List Note) (field : ℕ) (told : Told) → IsOutline bytes wanted headers notes → all_told wanted headers notes field AllLayers ≡ told ∷ []
    → values_of (outlined bytes wanted headers notes) field AllLayers ≡ value_at (bytes ∷ []) field told ∷ []
one_value bytes wanted headers notes field told is one =
    outline_values bytes wanted headers notes field AllLayers is ∙ ap (map (value_at (bytes ∷ []) field)) one

pub one_reads : (bytes wanted : List ℕ) (headers : List Header) (notes : List Note) (field : ℕ) (told : Told) → IsOutline bytes wanted headers notes → all_told wanted headers notes field AllLayers ≡ told ∷ []
    → IsReadable (bytes ∷ []) field told
one_reads bytes wanted headers notes field told is one =
    found_reads bytes wanted headers notes field AllLayers 0 told is (ap (λ (all : List Told). slice_get all 0) one)

pub kth_value : (bytes wanted : List ℕ) (headers : List Header) (notes : List Note) (field k : ℕ) (found : Option Told) → IsOutline bytes wanted headers notes → found ≡ slice_get (all_told wanted headers notes field AllLayers) k
    → option_map (value_at (bytes ∷ []) field) found ≡ slice_get (values_of (outlined bytes wanted headers notes) field AllLayers) k
kth_value bytes wanted headers notes field k found is at =
    rw (outline_values bytes wanted headers notes field AllLayers is)
    (ap (option_map (value_at (bytes ∷ []) field)) at ∙ sym (slice_get-map (value_at (bytes ∷ []) field) (all_told wanted headers notes field AllLayers) k))

pub no_second : (values : List Value) → slice_get values 0 ≡ None → false ≡ is_some (slice_get values 1)
no_second [] none = refl
no_second (value ∷ values) none = absurd (cc)

-- a row of the only header, by what is known of the places of all fields
pub lone_told : (wanted : List ℕ) (headers : List Header) (notes : List Note) (places : List Picks) (field number : ℕ) (h : Header) (span : Span) → pick_at places field ≡ picks.Once number
    → is_proto (row_of field).kind ≡ false → is_in wanted field ≡ true → notes_told field notes ≡ [] → ForAll (Knows places) headers → IsOnlyOf (row_of field).proto headers h
    → IsRowIn h number field AllLayers span → all_told wanted headers notes field AllLayers ≡ Read span ∷ []
lone_told wanted headers notes places field number h span once kind wants untold known only row =
    let asked : Asked = record { field = field; home = (row_of field).proto; picks = picks.Once number } in
    let picked : ForAll (IsPickedIn asked) headers =
    λ k d below own. subst (IsPicked field (get_or headers k d).slots.now) once (known k d below field (sym own)) in
    only_row_told wanted headers notes asked h number (Some span) refl refl kind wants untold picked only row
