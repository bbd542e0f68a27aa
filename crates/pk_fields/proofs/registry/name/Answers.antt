use Rattle.std.proofs.Common.{◌≡◌, ap}
use Rattle.pk_fields.specs.Rows.{FieldRow}
use Rattle.pk_fields.specs.Fields.{row_of}
use Rattle.pk_fields.proofs.Names.{name_place}
use Rattle.pk_fields.proofs.registry.name.Goals as goal

pub returns-clause-known : goal.returns-clause-known
returns-clause-known c =
    let same : c.row_at.result.now.name.now ≡ (row_of c.args.f).name = ap (λ (row : FieldRow). row.name) c.row_at.ensures.row in
    rw same (name_place c.args.f c.row_at.ensures.field)
