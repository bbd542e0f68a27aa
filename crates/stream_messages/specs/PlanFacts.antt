-- How large the numbers of a plan are.
use Rattle.std.specs.Prelude.{ℕ, ◌≤◌}
use Rattle.stream_messages.specs.declared.plans.Plan.{Plan}
use Rattle.stream_messages.specs.declared.plans.Plan.TheVariants.{Bare, Chunks, Fixed, Pass, Unknown}
use Rattle.stream_messages.specs.declared.plans.Planned.{Planned}
use Rattle.stream_messages.specs.Limits.{body_limit}

-- a body that is shown is within the limit
abbrev pub IsShort : Plan → Type 0
IsShort Bare = Unit {0}
IsShort Chunks = Unit {0}
IsShort (Fixed n) = n ≤ body_limit
IsShort (Pass n) = Unit {0}
IsShort Unknown = Unit {0}

-- a head in so many bytes
pub record PlanFits (most : ℕ) (p : Planned) : Type 0 where
  pub head : p.start.head ≤ most
  pub body : IsShort p.plan
