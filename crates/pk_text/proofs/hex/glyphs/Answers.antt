use Rattle.pk_text.proofs.HexLemmas.{lanes_are_glyphs}
use Rattle.pk_text.proofs.hex.glyphs.Goals as goal

pub returns : goal.returns
returns c = lanes_are_glyphs 16 c.args.numbers c.requires.long c.requires.small
