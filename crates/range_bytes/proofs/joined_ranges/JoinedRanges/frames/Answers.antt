use Rattle.std.proofs.Common.{◌≡◌, ◌<◌, ◌-◌, ◌++◌, ◌∷◌, [], ℕ, arith, subst}
use Rattle.range_bytes.specs.Held.{put_numbers, frames_at}
use Rattle.range_bytes.proofs.Reading.{frames_more}
use Rattle.range_bytes.proofs.joined_ranges.JoinedRanges.frames.Goals as goal

pub loop-next-preserved : goal.loop-next-preserved
loop-next-preserved c =
    let held = c.args.self.now.held in
    let run = c.run_from-mark.ensures in
    let at = c.loop-next.next in
    let high : at < run.piece.end = run.cover.high in
    let total = frames_at held c.args.from (c.args.to - c.args.from) in
    let more = frames_more held at c.args.to run.piece c.loop-next.frames.items total run.cover c.loop-next-test.true c.loop-next.invariant.1 in
    let framed = subst (λ (f : ℕ). put_numbers (c.loop-next.frames.items ++ f ∷ []) (frames_at held run.piece.end (c.args.to - run.piece.end)) ≡ total) run.frame more in (
      omega (arith, c.loop-next.invariant.0, high, run.end),
      rw c.in_ok-push.ensures.items (subst (λ (e : ℕ). put_numbers (c.loop-next.frames.items ++ c.run_from-mark.result.frame ∷ []) (frames_at held e (c.args.to - e)) ≡ total) run.end framed),
    )
