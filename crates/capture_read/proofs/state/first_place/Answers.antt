use Rattle.std.proofs.Common.{◌≡◌, true, arith}
use Rattle.capture_read.specs.Capture.{held_part, is_pcapng}
use Rattle.capture_read.proofs.FrameBounds.{times_are_small}
use Rattle.capture_read.proofs.KnownBlocks.{capture_of_pcapng}
use Rattle.capture_read.proofs.state.first_place.Goals as goal

pub returns-then-begins_pcapng-clause-value : goal.returns-then-begins_pcapng-clause-value
returns-then-begins_pcapng-clause-value c =
    let is : is_pcapng (held_part c.args.file.now) ≡ true = cc in
    rw c.place_at.ensures (capture_of_pcapng c.args.file.now is)

pub returns-then-begins_pcapng-clause-times : goal.returns-then-begins_pcapng-clause-times
returns-then-begins_pcapng-clause-times c = times_are_small c.args.file.now (λ k. omega (arith, c.type_inv.file k))

pub returns-in-Head-clause-times : goal.returns-in-Head-clause-times
returns-in-Head-clause-times c = times_are_small c.args.file.now (λ k. omega (arith, c.type_inv.file k))
