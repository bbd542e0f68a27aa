use Rattle.std.proofs.Common.{◌≡◌, ℕ, List, drop}
use Rattle.pk_base.specs.declared.chosen.Layers.{Layers}
use Rattle.pk_fields.specs.Fields.{row_of}
use Rattle.pk_source.specs.Found.{fields_told}
use Rattle.pk_source.specs.declared.header.Note.{Note}
use Rattle.pk_source.proofs.found.only_header.Given as goal

abbrev pub invariant-loop-at : goal.invariant-loop-at
invariant-loop-at l =
    (field : ℕ) (layers : Layers) (notes : List Note) → l.home ≡ (row_of field).proto
    → fields_told field layers notes (drop l.at l.headers) ≡ fields_told field layers notes l.headers
