use Rattle.std.proofs.Common.{◌≡◌, List, drop}
use Rattle.pk_base.specs.declared.chosen.Layers.{Layers}
use Rattle.pk_source.specs.Found.{fields_told}
use Rattle.pk_source.specs.declared.header.Note.{Note}
use Rattle.pk_source.proofs.found.first_row.Given as goal

abbrev pub invariant-loop-header : goal.invariant-loop-header
invariant-loop-header l =
    (layers : Layers) (notes : List Note) → fields_told l.asked.field layers notes (drop l.header-index l.headers) ≡ fields_told l.asked.field layers notes l.headers
