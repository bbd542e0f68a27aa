-- Layouts whose rows depend on the rows before them, such as lists of options or records: entries, each with its steps
-- and the place where the next one begins.
use Rattle.std.specs.Prelude.{◌≡◌, ℕ, zero, suc, ◌≤◌, List, [], ◌++◌, Option, Some, None, MatchOption}
use Rattle.pk_tree.specs.declared.layout.Step.{Step}

-- steps, and where reading goes on, or none where it ends with them
pub record Entry : Type 0 where
  pub steps : List Step
  pub next : Option ℕ

abbrev pub goes_on : List Step → ℕ → Entry
goes_on steps at = record { steps = steps; next = Some at }

abbrev pub ends : List Step → Entry
ends steps = record { steps = steps; next = None }

-- an entry with steps before its own
abbrev pub behind : List Step → Entry → Entry
behind steps entry = record { steps = steps ++ entry.steps; next = entry.next }

abbrev pub then_at : List Step → Option ℕ → (ℕ → Entry) → Entry
then_at steps None more = ends steps
then_at steps (Some at) more = behind steps (more at)

-- an entry, and what follows it from its end on
abbrev pub then_on : Entry → (ℕ → Entry) → Entry
then_on entry more = then_at entry.steps entry.next more

-- at most so many entries, one behind the other
unfoldable pub repeated : ℕ → (ℕ → Entry) → ℕ → Entry
repeated zero one at = goes_on [] at
repeated (suc n) one at = then_on (one at) (repeated n one)

-- reading ends with an entry, or has got to a place or behind it
abbrev pub ReadsTo : ℕ → Entry → Type 0
ReadsTo least entry = MatchOption entry.next (Unit {0}) (λ at. least ≤ at)

-- what adding an entry to steps leaves, and answers: where reading goes on
pub record Adds (old new : List Step) (entry : Entry) (answer : Option ℕ) : Type 0 where
  pub steps : new ≡ old ++ entry.steps
  pub next : answer ≡ entry.next
