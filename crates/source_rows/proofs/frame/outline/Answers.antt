use Rattle.std.proofs.Common.{◌∷◌, [], arith}
use Rattle.source_rows.proofs.frame.outline.Goals as goal

pub new-requires-clause-outline : goal.new-requires-clause-outline
new-requires-clause-outline c = record {
  short = omega (arith, c.requires.bytes);
  few = omega (arith, c.requires.headers.few);
  whole = c.requires.headers.whole c.args.bytes.now c.requires.bytes;
  told = c.requires.notes (c.args.bytes.now ∷ []);
  numbered = c.requires.headers.numbered c.args.bytes.now c.args.wanted.now c.args.notes.now;
}
