-- Rows that read their value from bytes.
use Rattle.std.proofs.Common.{◌≡◌, ℕ, Bool as Truth, true, false, ◌&&◌, ◌||◌, not, None, [], refl, sym, ◌∙◌}
use Rattle.pk_fields.specs.declared.value_kind.ValueKind.{ValueKind}
use Rattle.pk_fields.specs.declared.value_kind.ValueKind.TheVariants.{Bytes, Text, Time, Proto}
use Rattle.pk_fields.specs.Rows.{FieldRow, Mark, Plain, Derived, Made, whole, is_marked, is_unsized, has_no_bits}
use Rattle.pk_fields.specs.Fields.{row_of}
use Rattle.pk_fields.specs.Table.{rows}
use Rattle.pk_fields.proofs.Passes.{passes_at}
use Rattle.pk_fields.proofs.Sound.{row_bits}
use Rattle.pk_tree.specs.Values.{is_read, is_proto, is_whole}

is_time : ValueKind → Truth
is_time Time = true
is_time kind = false

-- no time is read from bytes
is_untimed : FieldRow → Truth
is_untimed row = is_marked row.mark || not (is_time row.kind)

row_untimed : (f : ℕ) → is_untimed (row_of f) ≡ true
unfolding rows row_of is_time is_untimed
row_untimed f = passes_at is_untimed rows f (whole [] Proto 0) refl refl

whole_from : (kind : ValueKind) (mark : Mark) → (not (is_marked mark) && not (is_proto kind)) ≡ true → (is_unsized kind || is_marked mark) ≡ true →
    (is_marked mark || not (is_time kind)) ≡ true → is_whole kind ≡ true
unfolding is_time
whole_from Bytes Plain read unsized untimed = refl
whole_from Text Plain read unsized untimed = refl
whole_from kind Plain read unsized untimed = absurd (cc)
whole_from kind Derived read unsized untimed = absurd (cc)
whole_from kind Made read unsized untimed = absurd (cc)

-- a row without bits that reads its value reads all the bytes
pub whole_row : (f : ℕ) → is_read (row_of f) ≡ true → (row_of f).bits ≡ None → is_whole (row_of f).kind ≡ true
unfolding is_untimed
whole_row f read none =
    let unsized : has_no_bits (row_of f) ≡ true = sym (row_bits f) ∙ rw none refl in
    whole_from (row_of f).kind (row_of f).mark read unsized (row_untimed f)
