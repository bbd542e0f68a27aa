use Rattle.std.proofs.Common.{◌≡◌, ap, ◌∙◌}
use Rattle.pk_fields.specs.Rows.{FieldRow}
use Rattle.pk_fields.specs.Fields.{row_of}
use Rattle.pk_fields.proofs.Sound.{row_sound, row_bits, none_exactly}
use Rattle.pk_fields.proofs.registry.bits.Goals as goal

pub returns-clause-sound : goal.returns-clause-sound
returns-clause-sound c =
    let same : c.bits.result ≡ (row_of c.args.f).bits = c.bits.ensures ∙ ap (λ (row : FieldRow). row.bits) c.row_at.ensures.row in
    rw same (row_sound c.args.f)

pub returns-clause-none : goal.returns-clause-none
returns-clause-none c =
    let same : c.bits.result ≡ (row_of c.args.f).bits = c.bits.ensures ∙ ap (λ (row : FieldRow). row.bits) c.row_at.ensures.row in
    rw same (none_exactly (row_of c.args.f).bits _ (row_bits c.args.f))
