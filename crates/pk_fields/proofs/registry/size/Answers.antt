use Rattle.std.proofs.Common.{◌<◌, [], length, refl}
use Rattle.std.proofs.lemmas.List.{get_or-map}
use Rattle.pk_fields.specs.declared.value_kind.ValueKind.TheVariants.{Proto}
use Rattle.pk_fields.specs.Rows.{size_of_row, whole}
use Rattle.pk_fields.specs.Fields.{row_of}
use Rattle.pk_fields.specs.Table.{rows}
use Rattle.pk_fields.proofs.Names.{rows_len}
use Rattle.pk_fields.proofs.registry.size.Goals as goal

pub returns : goal.returns
unfolding row_of
returns c =
    let inside : c.f.inside.0 < length rows = rw rows_len c.f.invariant in
    rw (c.from.ensures, c.sizes.ensures.sizes, get_or-map size_of_row rows c.f.inside.0 (whole [] Proto 0) 0 inside, c.f.view_is) refl
