use Rattle.std.proofs.Common.{◌≡◌, ◌*◌, ◌≤◌}
use Rattle.dissect_rows.proofs.captures.take_all.Given as goal

-- all frames so far were taken, none of which has more bytes than one may have
abbrev pub invariant-loop-block : goal.invariant-loop-block
invariant-loop-block l = (l.dissector.taken ≡ l.number) × (l.dissector.captured ≤ 1000 * l.number)
