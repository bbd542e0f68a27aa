use Rattle.std.proofs.Common.{◌≡◌, ◌<◌, ◌-◌, ◌+◌, [], length, refl, arith}
use Rattle.std.proofs.lemmas.List.{get_or-map, get_or-take, get_or-drop}
use Rattle.pk_fields.specs.declared.value_kind.ValueKind.TheVariants.{Proto}
use Rattle.pk_fields.specs.Rows.{row_shown, whole}
use Rattle.pk_fields.specs.Fields.{row_of}
use Rattle.pk_fields.specs.Table.{rows}
use Rattle.pk_fields.proofs.registry.row_at.Goals as goal

pub returns-then-place-lt-FIRST_ROWS-clause-row : goal.returns-then-place-lt-FIRST_ROWS-clause-row
unfolding row_of
returns-then-place-lt-FIRST_ROWS-clause-row c =
    let table = c.first_rows.result.now in
    let inside : c.f.inside.0 < length table = omega (arith, c.first_rows.ensures.len, c.if-place-lt-FIRST_ROWS.true) in
    rw (← get_or-map row_shown table c.f.inside.0 _ (whole [] Proto 0) inside, c.first_rows.ensures.shown, get_or-take 180 rows c.f.inside.0 (whole [] Proto 0) c.if-place-lt-FIRST_ROWS.true, c.f.view_is) refl

pub returns-else-place-lt-FIRST_ROWS-clause-row : goal.returns-else-place-lt-FIRST_ROWS-clause-row
unfolding row_of
returns-else-place-lt-FIRST_ROWS-clause-row c =
    let table = c.other_rows.result.now in
    let inside : c.f.inside.0 - 180 < length table = omega (arith, c.other_rows.ensures.len, c.f.invariant, c.if-place-lt-FIRST_ROWS.false) in
    let place : 180 + (c.f.inside.0 - 180) ≡ c.f.inside.0 = omega (arith, c.if-place-lt-FIRST_ROWS.false) in
    rw (← get_or-map row_shown table (c.f.inside.0 - 180) _ (whole [] Proto 0) inside, c.other_rows.ensures.shown, get_or-drop 180 rows (c.f.inside.0 - 180) (whole [] Proto 0), place, c.f.view_is) refl
