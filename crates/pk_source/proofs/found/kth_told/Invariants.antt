use Rattle.std.proofs.Common.{◌≡◌, drop}
use Rattle.std.specs.List.{flat_map}
use Rattle.pk_source.specs.Found.{kth, asked_told}
use Rattle.pk_source.proofs.found.kth_told.Given as goal

abbrev pub invariant-loop-header : goal.invariant-loop-header
invariant-loop-header l =
    kth (flat_map (asked_told l.asked.field l.layers l.notes) (drop l.header-index l.headers)) l.left ≡ kth (flat_map (asked_told l.asked.field l.layers l.notes) l.headers) l.k
