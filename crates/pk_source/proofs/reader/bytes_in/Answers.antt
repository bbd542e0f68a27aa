use Rattle.std.proofs.Common.{◌≡◌, ◌∷◌, [], ℕ, List, true, false, ap, sym, subst, ◌∙◌}
use Rattle.pk_base.specs.declared.chosen.Layers.TheVariants.{All as AllLayers}
use Rattle.pk_base.specs.declared.span.Span.{Span}
use Rattle.pk_base.specs.declared.value.Value.{Value}
use Rattle.pk_fields.specs.FieldSets.{is_in}
use Rattle.pk_fields.specs.Fields.{row_of}
use Rattle.pk_source.proofs.FoundLemmas.{slots_known}
use Rattle.pk_source.proofs.OnlyLemmas.{lone_told, one_reads, one_value}
use Rattle.pk_source.specs.Found.{IsOnlyOf, IsReadable, all_told, notes_told}
use Rattle.pk_source.specs.Outlines.{IsReadWhole, sizes_of}
use Rattle.pk_source.specs.Picks.{IsRowIn, pick_at}
use Rattle.pk_source.specs.Readers.{AreOutline}
use Rattle.pk_source.specs.declared.header.Header.{Header}
use Rattle.pk_source.specs.declared.header.Told.TheVariants.{Read}
use Rattle.pk_source.specs.declared.picks.Picks.TheVariants as picks
use Rattle.pk_source.specs.declared.reader.Parts.{Parts}
use Rattle.pk_tree.specs.Values.{HasSize, is_proto, value_of}
use Rattle.pk_source.proofs.reader.bytes_in.Goals as goal

pub lone_row-requires-clause-known : goal.lone_row-requires-clause-known
lone_row-requires-clause-known c =
    let h = c.args.header.now in
    let only = c.requires.only in
    let buffers = c.args.parts.now.bytes.now ∷ [] in
    let whole : IsReadWhole buffers h = subst (IsReadWhole buffers) (sym only.at) (c.requires.outline.outline.whole only.place h only.inside) in
    slots_known h.span.len whole.holds (sizes_of h) h.slots.now whole.whole

one_told : (parts : Parts) (h : Header) (field number : ℕ) (span : Span) → AreOutline parts → IsOnlyOf (row_of field).proto parts.headers.now h → is_proto (row_of field).kind ≡ false
    → pick_at parts.places.now field ≡ picks.Once number → is_in parts.wanted.now field ≡ true → notes_told field parts.notes.now ≡ [] → IsRowIn h number field AllLayers span
    → all_told parts.wanted.now parts.headers.now parts.notes.now field AllLayers ≡ Read span ∷ []
one_told parts h field number span are only plain once wants untold row =
    lone_told parts.wanted.now parts.headers.now parts.notes.now parts.places.now field number h span once plain wants untold are.known only row

reads : (parts : Parts) (field : ℕ) (span : Span) → AreOutline parts → all_told parts.wanted.now parts.headers.now parts.notes.now field AllLayers ≡ Read span ∷ []
    → IsReadable (parts.bytes.now ∷ []) field (Read span)
reads parts field span are one = one_reads parts.bytes.now parts.wanted.now parts.headers.now parts.notes.now field (Read span) are.outline one

pub bytes_at-requires : goal.bytes_at-requires
bytes_at-requires c =
    let told = one_told c.args.parts.now c.args.header.now c.args.field c.in-Once.number c.in-Some.span c.requires.outline c.requires.only c.requires.plain
    (sym c.picks.ensures ∙ c.in-Once.is) c.in-Some.ensures.wants c.in-Some.ensures.untold c.in-Some.ensures.row in
    (reads c.args.parts.now c.args.field c.in-Some.span c.requires.outline told).0

pub returns-in-Some-clause-value : goal.returns-in-Some-clause-value
returns-in-Some-clause-value c =
    let parts = c.args.parts.now in
    let told = one_told parts c.args.header.now c.args.field c.in-Once.number c.in-Some.span c.requires.outline c.requires.only c.requires.plain
    (sym c.picks.ensures ∙ c.in-Once.is) c.in-Some.ensures.wants c.in-Some.ensures.untold c.in-Some.ensures.row in
    one_value parts.bytes.now parts.wanted.now parts.headers.now parts.notes.now c.args.field (Read c.in-Some.span) c.requires.outline.outline told
    ∙ ap (λ (bytes : List ℕ). value_of c.args.field bytes ∷ []) (sym c.bytes_at.ensures.bytes)

pub returns-in-Some-clause-size : goal.returns-in-Some-clause-size
returns-in-Some-clause-size c =
    let told = one_told c.args.parts.now c.args.header.now c.args.field c.in-Once.number c.in-Some.span c.requires.outline c.requires.only c.requires.plain
    (sym c.picks.ensures ∙ c.in-Once.is) c.in-Some.ensures.wants c.in-Some.ensures.untold c.in-Some.ensures.row in
    subst (λ (len : ℕ). HasSize (row_of c.args.field).bits len) (sym c.bytes_at.ensures.len) ((reads c.args.parts.now c.args.field c.in-Some.span c.requires.outline told).1 c.requires.plain).0

pub returns-in-Some-clause-read : goal.returns-in-Some-clause-read
returns-in-Some-clause-read c =
    let told = one_told c.args.parts.now c.args.header.now c.args.field c.in-Once.number c.in-Some.span c.requires.outline c.requires.only c.requires.plain
    (sym c.picks.ensures ∙ c.in-Once.is) c.in-Some.ensures.wants c.in-Some.ensures.untold c.in-Some.ensures.row in
    ((reads c.args.parts.now c.args.field c.in-Some.span c.requires.outline told).1 c.requires.plain).1
