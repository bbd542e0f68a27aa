use Rattle.std.proofs.Common.{◌≡◌, ap}
use Rattle.pk_fields.specs.Rows.{FieldRow}
use Rattle.pk_fields.specs.Fields.{row_of}
use Rattle.pk_fields.proofs.Sound.{row_kind}
use Rattle.pk_fields.proofs.registry.kind.Goals as goal

pub returns-clause-kind : goal.returns-clause-kind
returns-clause-kind c =
    let same : c.row_at.result.now.kind ≡ (row_of c.args.f).kind = ap (λ (row : FieldRow). row.kind) c.row_at.ensures.row in
    rw same (row_kind c.args.f)
