use Rattle.std.proofs.Common.{◌≡◌, ◌+◌, ◌<◌, ◌^◌, ℕ, drop}
use Rattle.tcp_streams.specs.Gaps.{lost_bytes, AreBetween}
use Rattle.tcp_streams.specs.Numbers.{window}
use Rattle.tcp_streams.proofs.segment.Taken.lost_bytes.Given as goal

-- the gaps that are left lie behind those that were counted
abbrev pub invariant-loop-gap : goal.invariant-loop-gap
invariant-loop-gap l = record {
  counted : l.bytes + lost_bytes (drop l.gap-index l.self.lost) ≡ lost_bytes l.self.lost;
  few : lost_bytes l.self.lost < 2 ^ 32;
  between : (low : ℕ) × AreBetween low (drop l.gap-index l.self.lost) (l.self.front_before + window);
}
