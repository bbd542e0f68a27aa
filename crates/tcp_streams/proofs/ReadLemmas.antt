-- What is kept of a direction is what it is after the segments.
use Rattle.std.proofs.Common.{◌≡◌, ℕ, ◌<◌, List, Option, eqb, inl, inr, ap, ◌∙◌}
use Rattle.std.proofs.lemmas.Bool.{cases_Bool}
use Rattle.tcp_streams.specs.declared.segment.Segment.{Segment}
use Rattle.tcp_streams.specs.declared.stream.Stream.{Stream}
use Rattle.tcp_streams.specs.declared.streams.Streams.{Streams}
use Rattle.tcp_streams.specs.Standing.{StandsFor, stream_count, way_kept, way_in, way_for}
use Rattle.tcp_streams.proofs.TakeLemmas.{at_stream}

pub stands_way : (past : List Segment) (streams : Streams) (stream side : ℕ) → StandsFor past streams → stream < stream_count streams → way_in streams stream side ≡ way_for past stream side
unfolding StandsFor
stands_way past streams stream side stands low =
    let at = at_stream streams.kept.streams.items stream low in
    let is = stands.agrees.each stream at.0 at.1 in
    ap (λ (o : Option Stream). way_kept o (eqb side 1)) at.1 ∙ elim (cases_Bool (eqb side 1)) [
      | inl one ↦ rw one is.one
      | inr zero ↦ rw zero is.zero
    ]
