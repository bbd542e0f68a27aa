-- The headers of a plain frame stand for the tree that its way makes.
use Rattle.std.proofs.Common.{◌≡◌, ◌==◌, ℕ, ◌+◌, ◌<◌, ◌≤◌, ◌^◌, Bool as Truth, true, false, ◌⊎◌, inl, inr, List, [], ◌∷◌, ◌++◌, length, take, refl, ap, sym, subst, ◌∙◌, append_assoc, append-nil, arith, rules}
use Rattle.std.specs.List.{All as ForAll, AllByRecursion as Each}
use Rattle.std.specs.Prelude.{nat_le}
use Rattle.std.proofs.lemmas.Bool.{cases_Bool}
use Rattle.std.proofs.lemmas.Bool.Decides.{nat_tests}
use Rattle.std.proofs.lemmas.List.{length_push}
use Rattle.std.proofs.lemmas.List.Elements.{All-from_recursion}
use Rattle.pk_base.specs.declared.span.Span.{Span}
use Rattle.pk_fields.specs.declared.rules.PortRule.{PortRule}
use Rattle.pk_base.specs.declared.heads.Mode.{Mode}
use Rattle.pk_base.specs.declared.heads.Mode.TheVariants.{Plain}
use Rattle.pk_base.specs.declared.value.Value.TheVariants.{Uint}
use Rattle.pk_fields.specs.Fields.{row_of}
use Rattle.pk_fields.specs.Ids.{DATA, DATA_DATA, DATA_LEN, FRAME, TCP}
use Rattle.pk_fields.specs.Table.{rows}
use Rattle.pk_source.proofs.GrowthLaws.{header_adds}
use Rattle.pk_source.proofs.NoteLemmas.{items_told, notes_add, outline_kept, outlined_kept}
use Rattle.pk_source.specs.Laws.{IsUntold}
use Rattle.pk_source.specs.Outlines.{IsOutline, IsReadWhole, NoteFits, outlined, wanted_notes}
use Rattle.pk_source.specs.declared.header.Header.{Header}
use Rattle.pk_source.specs.declared.header.Note.{Note}
use Rattle.pk_source.specs.Picks.{ArePlaces, Knows}
use Rattle.pk_source.specs.declared.picks.Picks.{Picks}
use Rattle.pk_tree.proofs.LayoutLemmas.{with_items-layer}
use Rattle.pk_tree.proofs.TableLemmas.{items_read-append, reach-append}
use Rattle.pk_tree.specs.Buffers.{IsInside}
use Rattle.pk_tree.specs.Layouts.{StepsFit, items_read, layer_read, reach, step_items, step_reach, with_items}
use Rattle.pk_tree.specs.Tables.{steps_of}
use Rattle.pk_tree.specs.Trees.{TreeShown, layers_of}
use Rattle.pk_tree.specs.declared.layout.Reach.TheVariants.{All}
use Rattle.pk_tree.specs.declared.layout.Step.{Step}
use Rattle.pk_tree.specs.declared.layout.Step.TheVariants.{Made, Whole}
use Rattle.pk_tree.specs.declared.table.Slot.{Slot}
use Rattle.capture_read.specs.declared.frame.Frame.{Frame}
use Rattle.app_layers.specs.DataLayer.{data_layout, data_over}
use Rattle.app_layers.specs.FrameLayer.{frame_layout, frame_span, is_cut, kept_frame}
use Rattle.app_layers.specs.declared.times.Times.{Times}
use Rattle.dissect.specs.Carried.{carried_by, carrier_notes, carrier_proto, data_header, data_headers, data_notes, frame_header, frame_notes, notes_of, number_note, shown_by}
use Rattle.dissect.specs.Heads.{HeadsShown, StandFor, are_quiet}
use Rattle.dissect.specs.Events.{Event, NewFrame}
use Rattle.dissect.specs.Tables.{AreTables, IsTabled, tables_listed}
use Rattle.dissect.specs.Trees.{kept_walk}
use Rattle.dissect.specs.Walks.{all_met, link_met}
use Rattle.dissect.specs.Ways.{AreOfFrame, AreRead, AsksNoOptions, Carries, IsBegun, IsLast, IsReadBy, Opens, carried_met, carrier_of, held_of, span_of}
use Rattle.dissect.specs.declared.ways.Carried.{Carried as WayCarried}
use Rattle.dissect.specs.declared.carried.Carried.{Carried}
use Rattle.dissect.specs.declared.tables.Tables.{Tables}
use Rattle.dissect.proofs.OnWay.{none_higher, others_higher, read_more, same_count}
use Rattle.dissect.proofs.PlainNotes.{both_untold, carrier_items, carrier_own, frame_items, frame_own, frame_read, frame_untold, not_data}

-- steps of a layer that are read whole, as items that are added
pub made_layer : (t : TreeShown) (proto : ℕ) (span : Span) (xs ys : List Step) (mode : Mode) (cut : Truth) → reach span.len xs ≡ All → reach span.len ys ≡ All
    → layer_read t proto span (xs ++ ys) mode cut ≡ with_items (layer_read t proto span xs mode cut) (items_read t.buffers span ys)
unfolding layer_read
made_layer t proto span xs ys mode cut one other =
    rw (items_read-append t.buffers span xs ys, reach-append span.len xs ys, one, other) (sym (with_items-layer t proto span (items_read t.buffers span xs) (items_read t.buffers span ys)))

no_reach : (end : ℕ) → reach end [] ≡ All
unfolding reach
no_reach end = refl

-- ---- the frame itself

nothing : List ℕ → List ℕ → TreeShown
nothing bytes wanted = record { layers = []; buffers = bytes ∷ []; wanted = wanted }

none_outlined : (bytes wanted : List ℕ) → outlined bytes wanted [] [] ≡ nothing bytes wanted
unfolding outlined nothing
none_outlined bytes wanted = refl

first_nth : (proto : ℕ) (bytes wanted : List ℕ) → 1 ≡ layers_of proto (outlined bytes wanted [] []).layers + 1
unfolding outlined
first_nth proto bytes wanted = refl

no_steps : (holds : List Truth) (sizes : List ℕ) (slots : List Slot) → slots ≡ [] → steps_of holds sizes slots ≡ []
unfolding steps_of
no_steps holds sizes slots is = rw is refl

frame_outlined : (tables : Tables) (wanted : List ℕ) (before : Times) (frame : Frame) → AreTables tables → outlined frame.bytes wanted (frame_header tables frame ∷ []) (frame_notes before frame) ≡ kept_frame wanted before frame
unfolding kept_frame nothing
frame_outlined tables wanted before frame are =
    let h : Header = frame_header tables frame in
    let bytes = frame.bytes in
    let none = no_steps [] (0 ∷ []) tables.frame.now are.frame in
    let t : TreeShown = nothing bytes wanted in
    let all : reach (length bytes) (steps_of [] (0 ∷ []) tables.frame.now) ≡ All = ap (reach (length bytes)) none ∙ no_reach (length bytes) in
    notes_add bytes wanted [] [] (frame_notes before frame) h (frame_own before frame) (All-from_recursion (λ (other : Header). (FRAME == other.proto) ≡ false) [] tt)
    ∙ ap (λ (x : TreeShown). with_items x (items_told (bytes ∷ []) (frame_notes before frame)))
    (header_adds bytes wanted [] [] h [] Plain (is_cut frame) (All-from_recursion (λ (note : Note). ((row_of note.field).proto == FRAME) ≡ false) [] tt) (first_nth FRAME bytes wanted) all
    ∙ ap (λ (x : TreeShown). layer_read x FRAME (frame_span frame) (steps_of [] (0 ∷ []) tables.frame.now) Plain (is_cut frame)) (none_outlined bytes wanted)
    ∙ ap (λ (steps : List Step). layer_read t FRAME (frame_span frame) steps Plain (is_cut frame)) none)
    ∙ ap (with_items (layer_read t FRAME (frame_span frame) [] Plain (is_cut frame))) (sym (frame_items (bytes ∷ []) (frame_span frame) before frame))
    ∙ sym (made_layer t FRAME (frame_span frame) [] (frame_layout before frame) Plain (is_cut frame) (no_reach (length bytes)) (frame_read (length bytes) before frame))

pub buffers_of : (bytes wanted : List ℕ) (headers : List Header) (notes : List Note) → (outlined bytes wanted headers notes).buffers ≡ bytes ∷ []
unfolding outlined
buffers_of bytes wanted headers notes = refl

-- ---- what its segment carries

data_whole : (len : ℕ) → reach len (Whole DATA_DATA 0 len ∷ []) ≡ All
unfolding reach step_reach
data_whole len =
    let inside : nat_le (0 + len) len ≡ true = grind (arith, nat_tests) in
    rw inside refl

data_steps : (holds : List Truth) (tables : Tables) (len : ℕ) → AreTables tables → steps_of holds (len ∷ []) tables.payload.now ≡ Whole DATA_DATA 0 len ∷ []
unfolding steps_of
data_steps holds tables len are = rw are.payload refl

len_read : (end number : ℕ) → reach end (Made DATA_LEN (Uint number) ∷ []) ≡ All
unfolding reach step_reach
len_read end number = refl

len_items : (buffers : List (List ℕ)) (span : Span) (number : ℕ) → items_read buffers span (Made DATA_LEN (Uint number) ∷ []) ≡ items_told buffers (number_note DATA_LEN number ∷ [])
unfolding items_read step_items step_reach
len_items buffers span number = refl

len_own : (number : ℕ) → Each (λ (note : Note). (row_of note.field).proto ≡ DATA) (number_note DATA_LEN number ∷ [])
unfolding row_of rows
len_own number = (refl, tt)

some_data : (tables : Tables) (bytes wanted : List ℕ) (headers : List Header) (notes : List Note) (span : Span) → AreTables tables → IsUntold DATA notes → 1 ≡ layers_of DATA (outlined bytes wanted headers notes).layers + 1
    → ForAll (λ (other : Header). (DATA == other.proto) ≡ false) headers
    → outlined bytes wanted (headers ++ data_header tables span ∷ []) (notes ++ number_note DATA_LEN span.len ∷ []) ≡ layer_read (outlined bytes wanted headers notes) DATA span (data_layout span.len) Plain false
some_data tables bytes wanted headers notes span are untold nth others =
    let h : Header = data_header tables span in
    let t : TreeShown = outlined bytes wanted headers notes in
    let steps = data_steps [] tables span.len are in
    let length_told : List Step = Made DATA_LEN (Uint span.len) ∷ [] in
    notes_add bytes wanted headers notes (number_note DATA_LEN span.len ∷ []) h (len_own span.len) others
    ∙ ap (λ (x : TreeShown). with_items x (items_told (bytes ∷ []) (number_note DATA_LEN span.len ∷ [])))
    (header_adds bytes wanted headers notes h [] Plain false untold nth (ap (reach span.len) steps ∙ data_whole span.len)
    ∙ ap (λ (all : List Step). layer_read t DATA span all Plain false) steps)
    ∙ ap (with_items (layer_read t DATA span (Whole DATA_DATA 0 span.len ∷ []) Plain false)) (sym (ap (λ (bs : List (List ℕ)). items_read bs span length_told) (buffers_of bytes wanted headers notes) ∙ len_items (bytes ∷ []) span span.len))
    ∙ sym (made_layer t DATA span (Whole DATA_DATA 0 span.len ∷ []) length_told Plain false (data_whole span.len) (len_read span.len span.len))

carried_outlined : (tables : Tables) (bytes wanted : List ℕ) (headers : List Header) (notes : List Note) (free : Truth) (span : Span) → AreTables tables → IsUntold DATA notes
    → 1 ≡ layers_of DATA (outlined bytes wanted headers notes).layers + 1 → ForAll (λ (other : Header). (DATA == other.proto) ≡ false) headers
    → outlined bytes wanted (headers ++ data_headers tables free span) (notes ++ data_notes free span) ≡ shown_by free (outlined bytes wanted headers notes) span
unfolding data_over data_notes
carried_outlined tables bytes wanted headers notes false span are untold nth others =
    ap (λ (hs : List Header). outlined bytes wanted hs (notes ++ [])) (append-nil headers) ∙ ap (outlined bytes wanted headers) (append-nil notes)
carried_outlined tables bytes wanted headers notes true span are untold nth others = elim (cases_Bool (span.len == 0)) [
  | inl empty ↦ rw empty (ap (λ (hs : List Header). outlined bytes wanted hs (notes ++ [])) (append-nil headers) ∙ ap (outlined bytes wanted headers) (append-nil notes))
  | inr some ↦ rw some (some_data tables bytes wanted headers notes span are untold nth others)
]

-- ---- all headers, and all that is told

others_of : (proto : ℕ) (headers : List Header) → Each (λ (h : Header). (proto == h.proto) ≡ false) headers → ForAll (λ (other : Header). (proto == other.proto) ≡ false) headers
others_of proto headers each = All-from_recursion (λ (other : Header). (proto == other.proto) ≡ false) headers each

-- what is told of the last header's protocol
told_last : (bytes wanted : List ℕ) (headers : List Header) (notes more : List Note) (proto : ℕ) → IsLast proto headers → Each (λ (note : Note). (row_of note.field).proto ≡ proto) more
    → outlined bytes wanted headers (notes ++ more) ≡ with_items (outlined bytes wanted headers notes) (items_told (bytes ∷ []) more)
told_last bytes wanted headers notes more proto last own =
    ap (λ (hs : List Header). outlined bytes wanted hs (notes ++ more)) last.parts
    ∙ notes_add bytes wanted last.front notes more last.last (subst (λ (p : ℕ). Each (λ (note : Note). (row_of note.field).proto ≡ p) more) (sym last.own) own) (others_of last.last.proto last.front last.others)
    ∙ ap (λ (hs : List Header). with_items (outlined bytes wanted hs notes) (items_told (bytes ∷ []) more)) (sym last.parts)

data_nth : (frame : Frame) (wanted : List ℕ) (headers : List Header) (notes : List Note) → AreRead frame TCP headers → 1 ≡ layers_of DATA (outlined frame.bytes wanted headers notes).layers + 1
unfolding outlined
data_nth frame wanted headers notes read =
    ap (λ (n : ℕ). n + 1) (sym (same_count (frame.bytes ∷ []) wanted notes DATA headers ∙ none_higher TCP DATA headers (omega arith) read.lower))

heads_tree : (tables : Tables) (wanted : List ℕ) (before : Times) (frame : Frame) (c : Carried) (headers : List Header) → AreTables tables → AreRead frame TCP headers → IsLast (carrier_proto c.carrier) headers
    → outlined frame.bytes wanted (headers ++ data_headers tables c.free c.payload) (notes_of before frame c) ≡ carried_by c (outlined frame.bytes wanted headers (frame_notes before frame))
unfolding notes_of
heads_tree tables wanted before frame c headers are read last =
    let bytes = frame.bytes in
    let payload = c.payload in
    let first = frame_notes before frame in
    let second = carrier_notes c.carrier payload in
    ap (outlined bytes wanted (headers ++ data_headers tables c.free payload)) (sym (append_assoc first second (data_notes c.free payload)))
    ∙ carried_outlined tables bytes wanted headers (first ++ second) c.free payload are (both_untold before frame c.carrier payload DATA refl (not_data c.carrier)) (data_nth frame wanted headers (first ++ second) read)
    (others_of DATA headers (others_higher TCP DATA headers (omega arith) read.lower))
    ∙ ap (λ (t : TreeShown). shown_by c.free t payload)
    (told_last bytes wanted headers first second (carrier_proto c.carrier) last (carrier_own c.carrier payload)
    ∙ carrier_items (bytes ∷ []) (outlined bytes wanted headers first) c.carrier payload (buffers_of bytes wanted headers first))

-- ---- each header is read whole

whole_inside : (frame : Frame) → IsInside (frame.bytes ∷ []) (frame_span frame)
whole_inside frame = (omega arith, omega arith)

frame_whole : (tables : Tables) (frame : Frame) → AreTables tables → IsReadBy (frame.bytes ∷ []) (frame_header tables frame)
unfolding row_of rows StepsFit
frame_whole tables frame are = record {
  proto = refl;
  inside = whole_inside frame;
  fits = subst (λ (steps : List Step). StepsFit FRAME steps) (sym (no_steps (true ∷ []) (0 ∷ []) tables.frame.now are.frame)) tt;
  whole = ap (reach (length frame.bytes)) (no_steps (true ∷ []) (0 ∷ []) tables.frame.now are.frame) ∙ no_reach (length frame.bytes);
  quiet = ap are_quiet are.frame;
}

data_fits : (len : ℕ) → StepsFit DATA (Whole DATA_DATA 0 len ∷ [])
unfolding row_of rows StepsFit
data_fits len = search rules

data_whole_of : (tables : Tables) (buffers : List (List ℕ)) (span : Span) → AreTables tables → IsInside buffers span → IsReadBy buffers (data_header tables span)
unfolding row_of rows
data_whole_of tables buffers span are inside = record {
  proto = refl;
  inside = inside;
  fits = subst (λ (steps : List Step). StepsFit DATA steps) (sym (data_steps (true ∷ []) tables span.len are)) (data_fits span.len);
  whole = ap (reach span.len) (data_steps (true ∷ []) tables span.len are) ∙ data_whole span.len;
  quiet = ap are_quiet are.payload;
}

-- ---- the frame's own header, with which the way begins

pub frame_begun : (tables : Tables) (frame : Frame) → AreTables tables → IsBegun frame (frame_header tables frame ∷ [])
unfolding outlined
frame_begun tables frame are = record {
  read = record {
    whole = (frame_whole tables frame are, tt);
    numbered = λ wanted notes. (refl, tt);
    lower = (omega arith, tt);
    higher = tt;
  };
  one = refl;
}

pub frame_opens : (tables : Tables) (frame : Frame) (headers : List Header) → AreTables tables → take 1 headers ≡ frame_header tables frame ∷ [] → Opens frame headers
frame_opens tables frame headers are first = λ wanted before.
    ap (λ (hs : List Header). outlined frame.bytes wanted hs (frame_notes before frame)) first ∙ frame_outlined tables wanted before frame are

-- ---- they are an outline

read_whole : (buffers : List (List ℕ)) (headers : List Header) → Each (IsReadBy buffers) headers → Each (IsReadWhole buffers) headers
read_whole buffers [] each = tt
read_whole buffers (h ∷ headers) each = (record { proto = each.0.proto; inside = each.0.inside; holds = held_of h.proto; fits = each.0.fits; whole = each.0.whole }, read_whole buffers headers each.1)

read_outline : (wanted : List ℕ) (frame : Frame) (most : ℕ) (headers : List Header) (notes : List Note) → length frame.bytes < 2 ^ 32 → AreRead frame most headers → length headers ≤ 7 → Each (NoteFits (frame.bytes ∷ [])) notes
    → IsOutline frame.bytes wanted headers notes
read_outline wanted frame most headers notes short read few fit = record {
  short = short;
  few = omega (arith, few);
  whole = All-from_recursion (IsReadWhole (frame.bytes ∷ [])) headers (read_whole (frame.bytes ∷ []) headers read.whole);
  told = All-from_recursion (NoteFits (frame.bytes ∷ [])) notes fit;
  numbered = read.numbered wanted notes;
}

data_cases : (tables : Tables) (free : Truth) (span : Span) → (data_headers tables free span ≡ []) ⊎ (data_headers tables free span ≡ data_header tables span ∷ [])
data_cases tables false span = inl refl
data_cases tables true span = elim (cases_Bool (span.len == 0)) [
  | inl empty ↦ inl (rw empty refl)
  | inr some ↦ inr (rw some refl)
]

heads_outline : (tables : Tables) (wanted : List ℕ) (frame : Frame) (free : Truth) (span : Span) (headers : List Header) (notes : List Note) → length frame.bytes < 2 ^ 32 → AreTables tables → AreRead frame TCP headers → length headers ≤ 6
    → IsInside (frame.bytes ∷ []) span → Each (NoteFits (frame.bytes ∷ [])) notes → IsOutline frame.bytes wanted (headers ++ data_headers tables free span) notes
heads_outline tables wanted frame free span headers notes short are read few inside fit =
    let is_outline = λ (hs : List Header). IsOutline frame.bytes wanted hs notes in
    let h : Header = data_header tables span in
    elim (data_cases tables free span) [
      | inl none ↦ subst is_outline (sym (ap (λ (more : List Header). headers ++ more) none ∙ append-nil headers)) (read_outline wanted frame TCP headers notes short read (omega (arith, few)) fit)
      | inr some ↦ subst is_outline (sym (ap (λ (more : List Header). headers ++ more) some))
          (read_outline wanted frame DATA (headers ++ h ∷ []) notes short
          (read_more frame TCP headers h read (data_whole_of tables (frame.bytes ∷ []) span are inside) (ap (λ (n : ℕ). n + 1) (sym (none_higher TCP DATA headers (omega arith) read.lower))) (omega arith) (omega arith))
          (omega (arith, few, length_push headers h)) fit)
    ]

pub of_frame : (before : Times) (frame : Frame) → AreOfFrame (frame_notes before frame)
of_frame before frame = λ proto some. frame_untold before frame proto (grind (arith, nat_tests, some))

pub carried_inside : (frame : Frame) (headers : List Header) (carried : WayCarried) → Carries frame headers carried → IsInside (frame.bytes ∷ []) (span_of carried)
carried_inside frame headers carried carries_it = (carries_it.is [] (λ proto some. All-from_recursion (λ (note : Note). ((row_of note.field).proto == proto) ≡ false) [] tt)).inside

-- with what is wanted of the notes they stand for the tree
pub heads_stand : (tables : Tables) (wanted : List ℕ) (before : Times) (frame : Frame) (way : WayCarried) (c : Carried) (headers : List Header) (heads : HeadsShown) → length frame.bytes < 2 ^ 32 → AreTables tables
    → Carries frame headers way → c.payload ≡ span_of way → carrier_proto c.carrier ≡ carrier_of way → ((buffers : List (List ℕ)) → IsInside buffers c.payload → Each (NoteFits buffers) (notes_of before frame c))
    → heads.headers ≡ headers ++ data_headers tables c.free c.payload → heads.notes ≡ wanted_notes wanted (notes_of before frame c)
    → StandFor frame.bytes wanted heads (carried_by c (outlined frame.bytes wanted headers (frame_notes before frame)))
heads_stand tables wanted before frame way c headers heads short are carried payload carrier fits headers_are notes_are =
    let all = headers ++ data_headers tables c.free c.payload in
    let notes = notes_of before frame c in
    let is = carried.is (frame_notes before frame) (of_frame before frame) in
    let inside = subst (IsInside (frame.bytes ∷ [])) (sym payload) is.inside in
    let last = subst (λ (proto : ℕ). IsLast proto headers) (sym carrier) is.last in
    record {
      outline = subst (λ (hs : List Header). IsOutline frame.bytes wanted hs heads.notes) (sym headers_are)
          (subst (λ (ns : List Note). IsOutline frame.bytes wanted all ns) (sym notes_are)
          (outline_kept frame.bytes wanted all notes (heads_outline tables wanted frame c.free c.payload headers notes short are is.read is.few inside (fits (frame.bytes ∷ []) inside))));
      tree = ap (λ (hs : List Header). outlined frame.bytes wanted hs heads.notes) headers_are ∙ ap (outlined frame.bytes wanted all) notes_are
          ∙ outlined_kept frame.bytes wanted all notes ∙ heads_tree tables wanted before frame c headers are is.read last;
    }

-- the way to it is that of what its last header carries
pub carried_way : (rules : List PortRule) (wanted : List ℕ) (before : Times) (es : List Event) (frame : Frame) (headers : List Header) (way : WayCarried) → AsksNoOptions wanted
    → Carries frame headers way → Opens frame headers
    → kept_walk rules wanted before es frame ≡ carried_met rules frame (outlined frame.bytes wanted headers (frame_notes before frame)) (NewFrame ∷ es) way
unfolding kept_walk
carried_way rules wanted before es frame headers way none carried opens =
    ap (λ (t : TreeShown). all_met rules frame (link_met rules frame t (NewFrame ∷ es))) (sym (opens wanted before))
    ∙ (carried.is (frame_notes before frame) (of_frame before frame)).way wanted none rules (NewFrame ∷ es)

-- ---- the places in their tables

pub frame_tabled : (tables : Tables) (frame : Frame) → IsTabled tables (frame_header tables frame)
frame_tabled tables frame = λ places are field home. are field (record { proto = FRAME; slots = tables.frame }) (rw home refl)

pub data_tabled : (tables : Tables) (span : Span) → IsTabled tables (data_header tables span)
data_tabled tables span = λ places are field home. are field (record { proto = DATA; slots = tables.payload }) (rw home refl)

each_known : (tables : Tables) (places : List Picks) (headers : List Header) → ArePlaces (tables_listed tables) places → Each (IsTabled tables) headers → Each (Knows places) headers
each_known tables places [] are each = tt
each_known tables places (h ∷ headers) are each = (each.0 places are, each_known tables places headers are each.1)

pub heads_known : (tables : Tables) (places : List Picks) (headers : List Header) → ArePlaces (tables_listed tables) places → Each (IsTabled tables) headers → ForAll (Knows places) headers
heads_known tables places headers are each = All-from_recursion (Knows places) headers (each_known tables places headers are each)
