-- Chains of bare pointers: runs of a name that are a pointer alone, each of which leads to the next one.
use Rattle.std.specs.Prelude.{◌≡◌, ◌≤◌, ◌<◌, ℕ, ◌+◌, List, length, min, slice_index}
use Rattle.dis_dns.specs.declared.names.Walk.{Walk}
use Rattle.dis_dns.specs.Names.{target_at}

-- a run at a place that is a pointer alone, and leads before itself
pub record IsBare (bytes : List ℕ) (place : ℕ) : Type 0 where
  pub room : place + 2 ≤ length bytes
  pub high : 192 ≤ slice_index bytes place
  pub before : target_at bytes place < place

-- bare pointers lead from a place to another, which may be the same one
pub data Leads (bytes : List ℕ) : ℕ → ℕ → Type 0 where
  arrived : (place : ℕ) → Leads bytes place place
  onward : (place end : ℕ) → IsBare bytes place → Leads bytes (target_at bytes place) end
      → Leads bytes place end

-- where the chain from a place on ends: where its last bare pointer leads, or at the place itself if none stands there
pub record IsChainEnd (bytes : List ℕ) (place end : ℕ) : Type 0 where
  pub leads : Leads bytes place end
  pub last : ¬ IsBare bytes end

-- the ends for each place of a message that a pointer's 14 bits can name
pub record AreChainEnds (bytes ends : List ℕ) : Type 0 where
  pub size : length ends ≡ min (length bytes) 16384
  pub each : (place : ℕ) → place < length ends → IsChainEnd bytes place (slice_index ends place)

-- a walk at the end of a chain, in place of its beginning
abbrev pub moved_to : Walk → ℕ → Walk
moved_to w end = record w { start = end; place = end }
