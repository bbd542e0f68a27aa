use Rattle.std.proofs.Common.{◌≡◌, ℕ, List, take}
use Rattle.pk_base.specs.declared.span.Span.{Span}
use Rattle.pk_source.specs.Found.{rows_told}
use Rattle.pk_source.specs.Picks.{picked_told}
use Rattle.pk_source.proofs.picks.picks_of.Given as goal

abbrev pub invariant-loop-at : goal.invariant-loop-at
invariant-loop-at l =
    (span : Span) (sizes : List ℕ) → picked_told span sizes l.field l.slots l.picks ≡ rows_told span sizes l.field (take l.at l.slots)
