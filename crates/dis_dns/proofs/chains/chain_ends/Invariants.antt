use Rattle.std.proofs.Common.{◌≡◌, ℕ, ◌<◌, length}
use Rattle.std.specs.Prelude.{slice_index}
use Rattle.dis_dns.specs.Chains.{IsChainEnd}
use Rattle.dis_dns.proofs.chains.chain_ends.Given as goal

-- the ends of the chains from all places before this one
abbrev pub invariant-loop-place : goal.invariant-loop-place
invariant-loop-place l = record {
  size : length l.ends.items ≡ l.place;
  each : (before : ℕ) → before < l.place → IsChainEnd l.bytes before (slice_index l.ends.items before);
}
