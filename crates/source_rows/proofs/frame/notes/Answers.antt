use Rattle.std.proofs.Common.{◌∷◌, []}
use Rattle.std.proofs.lemmas.List.Elements.{All-from_recursion}
use Rattle.pk_source.specs.Outlines.{NoteFits}
use Rattle.source_rows.proofs.frame.notes.Goals as goal

pub returns : goal.returns
returns c = λ buffers.
    All-from_recursion (NoteFits buffers) (c.number.result ∷ c.number-2.result ∷ []) (c.number.ensures.fits buffers, (c.number-2.ensures.fits buffers, tt))
