-- What every row of the table is like: tests over the whole table, which are computed, and what they tell of a row.
use Rattle.std.proofs.Common.{◌≡◌, ℕ, ◌*◌, ◌^◌, Bool as Truth, true, false, ◌&&◌, ◌||◌, not, [], Option, Some, None, refl, sym, ◌↔◌}
use Rattle.std.proofs.Math.Dec.{eqb, leb, ltb}
use Rattle.std.specs.List.{list_all}
use Rattle.std.specs.Option.{option_map_or, is_none, is_some, IfSome, IsNone}
use Rattle.std.specs.Bool.{IsTrue}
use Rattle.std.proofs.lemmas.Bool.{and_parts, leb-true, ltb-true, eqb-true}
use Rattle.pk_fields.specs.declared.value_kind.ValueKind.{ValueKind}
use Rattle.pk_fields.specs.declared.value_kind.ValueKind.TheVariants.{Uint, Bool, Ether, Ip4, Ip6, Proto}
use Rattle.pk_fields.specs.declared.value_kind.BitPlace.{BitPlace}
use Rattle.pk_fields.specs.Rows.{FieldRow, whole, IsKind, IsSound, has_no_bits}
use Rattle.pk_fields.specs.Fields.{IsField, row_of}
use Rattle.pk_fields.specs.Ids.{field_count}
use Rattle.pk_fields.specs.Table.{rows}
use Rattle.pk_fields.proofs.Passes.{passes_at}

-- a row whose place in the table passes
at_row : (test : FieldRow → Truth) → list_all test rows ≡ true → test (whole [] Proto 0) ≡ true → (f : ℕ) → test (row_of f) ≡ true
unfolding row_of
at_row test all default f = passes_at test rows f (whole [] Proto 0) all default

-- widths
kind_passes : ValueKind → Truth
kind_passes (Uint width) = leb 1 width && leb width 64
kind_passes kind = true

kind_from : (kind : ValueKind) → kind_passes kind ≡ true → IsKind kind
unfolding kind_passes
kind_from (Uint width) passes =
    let parts = and_parts (leb 1 width) (leb width 64) passes in
    (leb-true 1 width parts.0, leb-true width 64 parts.1)
kind_from kind passes = tt

pub row_kind : (f : ℕ) → IsKind (row_of f).kind
unfolding rows kind_passes
row_kind f = kind_from (row_of f).kind (at_row (λ row. kind_passes row.kind) refl refl f)

-- bits
sound_passes : ValueKind → BitPlace → Truth
sound_passes (Uint width) place =
    ltb place.first 8 && leb 1 place.width && leb place.width 64 && leb 1 place.scale && leb (place.scale * 2 ^ place.width) (2 ^ width) && leb (2 ^ width) (2 ^ 64)
sound_passes Bool place = ltb place.first 8 && eqb place.width 1 && eqb place.scale 1
sound_passes Ether place = eqb place.first 0 && eqb place.width 48 && eqb place.scale 1
sound_passes Ip4 place = eqb place.first 0 && eqb place.width 32 && eqb place.scale 1
sound_passes Ip6 place = eqb place.first 0 && eqb place.width 128 && eqb place.scale 1
sound_passes kind place = false

three : (a b c : Truth) → (a && b && c) ≡ true → (a ≡ true) × (b ≡ true) × (c ≡ true)
three a b c all =
    let front = and_parts (a && b) c all in
    let first = and_parts a b front.0 in
    (first.0, first.1, front.1)

fixed : (place : BitPlace) (width : ℕ) → (eqb place.first 0 && eqb place.width width && eqb place.scale 1) ≡ true → (place.first ≡ 0) × (place.width ≡ width) × (place.scale ≡ 1)
fixed place width passes =
    let parts = three (eqb place.first 0) (eqb place.width width) (eqb place.scale 1) passes in
    (eqb-true place.first 0 parts.0, eqb-true place.width width parts.1, eqb-true place.scale 1 parts.2)

sound_from : (kind : ValueKind) (place : BitPlace) → sound_passes kind place ≡ true → IsSound kind place
unfolding sound_passes
sound_from (Uint width) place passes =
    let low = ltb place.first 8 in
    let small = leb (2 ^ width) (2 ^ 64) in
    let fits = leb (place.scale * 2 ^ place.width) (2 ^ width) in
    let rest = three (low && leb 1 place.width && leb place.width 64 && leb 1 place.scale) fits small passes in
    let middle = three (low && leb 1 place.width) (leb place.width 64) (leb 1 place.scale) rest.0 in
    let front = and_parts low (leb 1 place.width) middle.0 in (
      ltb-true place.first 8 front.0,
      leb-true 1 place.width front.1,
      leb-true place.width 64 middle.1,
      leb-true 1 place.scale middle.2,
      leb-true (place.scale * 2 ^ place.width) (2 ^ width) rest.1,
      leb-true (2 ^ width) (2 ^ 64) rest.2,
    )
sound_from Bool place passes =
    let parts = three (ltb place.first 8) (eqb place.width 1) (eqb place.scale 1) passes in
    (ltb-true place.first 8 parts.0, eqb-true place.width 1 parts.1, eqb-true place.scale 1 parts.2)
sound_from Ether place passes = fixed place 48 passes
sound_from Ip4 place passes = fixed place 32 passes
sound_from Ip6 place passes = fixed place 128 passes
sound_from kind place passes = cc

some_sound : (kind : ValueKind) (bits : Option BitPlace) → option_map_or (sound_passes kind) bits true ≡ true → IfSome bits (IsSound kind)
some_sound kind None passes = tt
some_sound kind (Some place) passes = sound_from kind place passes

pub row_sound : (f : ℕ) → IfSome (row_of f).bits (IsSound (row_of f).kind)
unfolding rows sound_passes
row_sound f =
    some_sound (row_of f).kind (row_of f).bits (at_row (λ row. option_map_or (sound_passes row.kind) row.bits true) refl refl f)

-- where there are bits
places_pass : FieldRow → Truth
places_pass row = (is_none row.bits && has_no_bits row) || (is_some row.bits && not (has_no_bits row))

exact_from : (bits : Option BitPlace) (unread : Truth) → ((is_none bits && unread) || (is_some bits && not unread)) ≡ true → is_none bits ≡ unread
exact_from None true passes = refl
exact_from None false passes = absurd (cc)
exact_from (Some place) true passes = absurd (cc)
exact_from (Some place) false passes = refl

pub row_bits : (f : ℕ) → is_none (row_of f).bits ≡ has_no_bits (row_of f)
unfolding rows places_pass
row_bits f = exact_from (row_of f).bits (has_no_bits (row_of f)) (at_row places_pass refl refl f)

-- protocols
is_proto : ValueKind → Truth
is_proto Proto = true
is_proto kind = false

proto_from : (kind : ValueKind) → is_proto kind ≡ true → kind ≡ Proto
unfolding is_proto
proto_from Proto passes = refl
proto_from kind passes = absurd (cc)

belongs : FieldRow → Truth
belongs row = ltb row.proto field_count && is_proto (row_of row.proto).kind

row_belongs : (f : ℕ) → belongs (row_of f) ≡ true
unfolding rows row_of is_proto belongs
row_belongs f = at_row belongs refl refl f

pub row_proto : (f : ℕ) → IsField (row_of f).proto
unfolding belongs
row_proto f = ltb-true (row_of f).proto field_count (and_parts (ltb (row_of f).proto field_count) (is_proto (row_of (row_of f).proto).kind) (row_belongs f)).0

pub proto_kind : (f : ℕ) → (row_of (row_of f).proto).kind ≡ Proto
unfolding belongs
proto_kind f =
    proto_from (row_of (row_of f).proto).kind (and_parts (ltb (row_of f).proto field_count) (is_proto (row_of (row_of f).proto).kind) (row_belongs f)).1

pub none_exactly : (bits : Option BitPlace) (unread : Truth) → is_none bits ≡ unread → IsNone bits ↔ IsTrue unread
none_exactly None unread same = (λ _. sym same, λ _. refl)
none_exactly (Some place) unread same = (λ none. absurd (cc), λ true'. absurd (cc))
