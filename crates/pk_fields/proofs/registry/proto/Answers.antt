use Rattle.std.proofs.Common.{◌≡◌, ap}
use Rattle.pk_fields.specs.Rows.{FieldRow}
use Rattle.pk_fields.specs.Fields.{row_of}
use Rattle.pk_fields.proofs.Sound.{row_proto, proto_kind}
use Rattle.pk_fields.proofs.registry.proto.Goals as goal

pub invariant_of-result : goal.invariant_of-result
invariant_of-result c =
    let same : c.row_at.result.now.proto ≡ (row_of c.args.f).proto = ap (λ (row : FieldRow). row.proto) c.row_at.ensures.row in
    rw same (row_proto c.args.f)

pub returns-clause-proto : goal.returns-clause-proto
returns-clause-proto c =
    let same : c.row_at.result.now.proto ≡ (row_of c.args.f).proto = ap (λ (row : FieldRow). row.proto) c.row_at.ensures.row in
    rw same (proto_kind c.args.f)
