-- What is known of later frames while lines are made.
use Rattle.std.specs.Prelude.{◌≡◌, ℕ, Bool, true, false, List, map}
use Rattle.second_pass.specs.Laws.{kept_noted}
use Rattle.second_pass.specs.Named.{Noted}
use Rattle.second_pass.specs.Others.{is_named}
use Rattle.second_pass.specs.Stands.{Stands}
use Rattle.run_frames.specs.declared.later.Later.{Later}
use Rattle.run_frames.specs.declared.later.Later.TheVariants.{Unread, Known}
use Rattle.run_frames.specs.Job.{Passes, One, Two}

-- what is known of later frames serves such passes, where frames are read twice or not: nothing, or the links that stand for the
-- trees of the first reading
abbrev pub Serves : Bool → Passes → Later → Type 0
Serves false One Unread = Unit {0}
Serves false One (Known links) = ⊥
Serves false (Two noted) later = ⊥
Serves true One later = ⊥
Serves true (Two noted) Unread = ⊥
Serves true (Two noted) (Known links) = Stands noted links

-- passes of whose known trees only the items of some fields are kept
abbrev pub kept_passes : List ℕ → Passes → Passes
kept_passes wanted One = One
kept_passes wanted (Two noted) = Two (map (kept_noted wanted) noted)

-- the same where the trees keep the items of some fields alone
abbrev pub ServesKept : List ℕ → Bool → Passes → Later → Type 0
ServesKept wanted two passes later = Serves two (kept_passes wanted passes) later

-- no later frame is known to name this one among those that brought its bytes
abbrev pub IsUnnamed : Later → ℕ → Type 0
IsUnnamed Unread frame = Unit {0}
IsUnnamed (Known links) frame = (past : List Noted) → Stands past links → is_named past frame ≡ false
