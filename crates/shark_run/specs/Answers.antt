-- Which answer words get: the one that is wanted, want of memory, and one more that is free.
use Rattle.std.specs.Prelude.{◌≡◌, ◌⊎◌, ℕ, IsTrue, List}
use Rattle.flt_syntax.specs.declared.fault.FilterFault.{FilterFault}
use Rattle.run_words.specs.declared.refused.Refused.TheVariants as refused
use Rattle.run_words.specs.declared.status.Status.{Status}
use Rattle.run_words.specs.declared.status.Status.TheVariants.{BadFilter, NoMemory}
use Rattle.run_words.specs.Plan.{IsRefusal}
use Rattle.run_words.specs.Sure.{is_of_size}

-- words are refused for the size of a pattern in their filter
abbrev pub IsRefusedForSize : List (List ℕ) → Status → Type 0
IsRefusedForSize words answer =
    (answer ≡ BadFilter) × ((fault : FilterFault) × IsRefusal words (refused.Filter fault) × IsTrue (is_of_size fault.reason))

-- an answer is the one that is wanted, but for want of memory and for the size of patterns
abbrev pub IsAnswered : List (List ℕ) → Status → Status → Type 0
IsAnswered words wanted answer = (answer ≡ wanted) ⊎ ((answer ≡ NoMemory) ⊎ IsRefusedForSize words answer)
