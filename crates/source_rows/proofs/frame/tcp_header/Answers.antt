use Rattle.std.proofs.Common.{◌∷◌, [], true, refl}
use Rattle.pk_fields.specs.Fields.{row_of}
use Rattle.pk_fields.specs.Table.{rows}
use Rattle.source_rows.proofs.frame.tcp_header.Goals as goal

pub returns-clause-whole : goal.returns-clause-whole
unfolding row_of rows
returns-clause-whole c = λ buffers inside. record {
  proto = refl;
  inside = inside;
  holds = true ∷ [];
  fits = c.tcp_slots.ensures.fits (0 ∷ []);
  whole = c.tcp_slots.ensures.whole 0 c.args.span.len c.requires.long;
}
