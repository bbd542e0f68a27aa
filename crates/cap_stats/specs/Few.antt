-- How many trees may be noted, so that each sum fits 64 bits: a frame's length has 32 bits.
use Rattle.std.specs.Prelude.{◌≡◌, ◌+◌, ◌^◌, ◌<◌, ◌≤◌, ℕ, false, List, IfSome, length}
use Rattle.std.specs.List.{AllByRecursion as Each}
use Rattle.std.specs.Str.{bytes_eq}
use Rattle.pk_tree.specs.Trees.{TreeShown}
use Rattle.cap_stats.specs.declared.counts.Tally.{Tally}
use Rattle.cap_stats.specs.declared.counts.Talk.{Talk}
use Rattle.cap_stats.specs.declared.stats.Stats.{Stats}
use Rattle.cap_stats.specs.Counts.{of_key, sizes_tally}
use Rattle.cap_stats.specs.Stands.{Stands, is_spent}
use Rattle.cap_stats.specs.Told.{length_of}

-- so many trees at most, of frames whose lengths have 32 bits
pub record AreFew (most : ℕ) (past : List TreeShown) : Type 0 where
  pub count : length past ≤ most
  pub lengths : Each (λ (t : TreeShown). length_of t.layers < 2 ^ 32) past

-- statistics stand for so few, unless they were given up
pub record HasFew (most : ℕ) (stats : Stats) : Type 0 where
  pub few : is_spent stats ≡ false → (past : List TreeShown) × Stands past stats × AreFew most past

-- one more frame can be counted
pub record HasRoom (tally : Tally) : Type 0 where
  pub frames : tally.frames + 1 < 2 ^ 64
  pub bytes : tally.bytes + 2 ^ 32 ≤ 2 ^ 64

pub record HasTalkRoom (talk : Talk) : Type 0 where
  pub there : HasRoom talk.there
  pub back : HasRoom talk.back

-- a frame more of any path can be counted
abbrev pub HaveRoom : List (List ℕ × ℕ) → Type 0
HaveRoom notes = (path : List ℕ) → IfSome (sizes_tally (of_key bytes_eq path notes)) HasRoom
