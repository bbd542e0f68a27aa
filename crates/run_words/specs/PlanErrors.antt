-- The errors of what reads a plan.
use Rattle.std.specs.Prelude.{◌≡◌, ℕ, List, Option, Result, Ok, Err}
use Rattle.run_words.specs.declared.refused.Refused.{Refused}
use Rattle.run_words.specs.declared.refused.Refused.TheVariants as refused
use Rattle.run_words.specs.declared.refused.PlanError.{PlanError}
use Rattle.run_words.specs.declared.refused.PlanError.TheVariants as error
use Rattle.run_words.specs.Plan.{IsFaultAsked}

-- an answer is what is wanted, or refuses for the same reason, or had no memory
abbrev pub Gives : {A : Type 0} → Result A PlanError → Result A Refused → Type 0
Gives (Ok answer) expected = expected ≡ Ok answer
Gives (Err (error.Refused reason)) expected = expected ≡ Err reason
Gives (Err error.NoMemory) expected = Unit {0}

-- the cause of an error; want of memory has none
abbrev pub IsErrorOf : (Refused → Type 0) → PlanError → Type 0
IsErrorOf IsReason (error.Refused reason) = IsReason reason
IsErrorOf IsReason error.NoMemory = Unit {0}

abbrev pub IsFilterError : Option (List ℕ) → PlanError → Type 0
IsFilterError text (error.Refused (refused.Filter fault)) = IsFaultAsked text fault
IsFilterError text (error.Refused reason) = ⊥
IsFilterError text error.NoMemory = Unit {0}
