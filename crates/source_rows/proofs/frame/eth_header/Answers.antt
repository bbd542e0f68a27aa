use Rattle.std.proofs.Common.{◌∷◌, [], refl}
use Rattle.pk_fields.specs.Fields.{row_of}
use Rattle.pk_fields.specs.Table.{rows}
use Rattle.source_rows.proofs.frame.eth_header.Goals as goal

pub returns-clause-whole : goal.returns-clause-whole
unfolding row_of rows
returns-clause-whole c = λ buffers inside. record {
  proto = refl;
  inside = inside;
  holds = [];
  fits = c.eth_slots.ensures.fits (0 ∷ []);
  whole = c.eth_slots.ensures.whole (0 ∷ []) c.args.span.len c.requires.long;
}
