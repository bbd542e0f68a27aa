-- What holds of every list of words.
use Rattle.std.specs.Prelude.{◌≡◌, ◌⊎◌, ℕ, List, Some}
use Rattle.flt_mean.specs.Meaning.{meaning}
use Rattle.flt_typed.specs.declared.typed.Typed.{Typed}
use Rattle.pk_tree.specs.Trees.{TreeShown}
use Rattle.run_frames.specs.declared.plan.Plan.{Plan}
use Rattle.run_frames.specs.Accessors.{filter_of}
use Rattle.run_frames.specs.Trees.{lets}
use Rattle.run_words.specs.declared.refused.Refused.{Refused}
use Rattle.run_words.specs.Plan.{IsPlan, IsRefusal}
use Rattle.run_words.specs.Sure.{IsSure}

-- words that ask for a plan have no sure reason to be refused
abbrev pub NeverBoth : Type 0
NeverBoth = (words : List (List ℕ)) (plan : Plan) (reason : Refused) → IsPlan words plan → IsRefusal words reason → IsSure reason → ⊥

-- words ask for a plan, or have a sure reason to be refused
abbrev pub PlanOrReason : Type 0
PlanOrReason = (words : List (List ℕ)) → ((plan : Plan) × IsPlan words plan) ⊎ ((reason : Refused) × IsRefusal words reason × IsSure reason)

-- words have at most one sure reason
abbrev pub OneReason : Type 0
OneReason = (words : List (List ℕ)) (one other : Refused) → IsRefusal words one → IsRefusal words other → IsSure one → IsSure other
    → one ≡ other

-- where words ask for a filter, their plan lets exactly the trees through that satisfy it
abbrev pub LetsByMeaning : Type 0
LetsByMeaning = (words : List (List ℕ)) (plan : Plan) (filter : Typed) → IsPlan words plan → filter_of plan ≡ Some filter
    → (tree : TreeShown) → lets plan tree ≡ meaning filter tree
