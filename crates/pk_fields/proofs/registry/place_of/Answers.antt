use Rattle.std.proofs.Common.{◌≤◌, ◌∙◌, length, refl, arith}
use Rattle.std.specs.Str.{bytes_eq}
use Rattle.pk_fields.specs.Rows.{FieldRow, row_shown}
use Rattle.pk_fields.specs.Fields.{field_named}
use Rattle.pk_fields.specs.Table.{rows}
use Rattle.pk_fields.proofs.HalfLemmas.{position_halves}
use Rattle.pk_fields.proofs.Names.{position-map, found_by, named_by, none_by, rows_len}
use Rattle.pk_fields.proofs.registry.place_of.Goals as goal

pub returns-clause-computed : goal.returns-clause-computed
unfolding field_named
returns-clause-computed c =
    let most : 180 ≤ length rows = omega (arith, rows_len) in
    rw (
      position_halves (λ (row : FieldRow). bytes_eq row.name c.args.name.now) 180 rows most,
      c.joined.ensures,
      c.first_place.ensures.place,
      c.first_place-2.ensures.place,
      ← c.first_rows.ensures.shown,
      ← c.other_rows.ensures.shown,
      position-map (λ (row : FieldRow). bytes_eq row.name c.args.name.now) row_shown c.first_rows.result.now,
      position-map (λ (row : FieldRow). bytes_eq row.name c.args.name.now) row_shown c.other_rows.result.now,
    )
    refl

pub returns-clause-found : goal.returns-clause-found
returns-clause-found c f field same = returns-clause-computed c ∙ found_by c.args.name.now f field same

pub returns-clause-named : goal.returns-clause-named
returns-clause-named c = rw (returns-clause-computed c) (named_by c.args.name.now)

pub returns-clause-none : goal.returns-clause-none
returns-clause-none c = rw (returns-clause-computed c) (none_by c.args.name.now)
