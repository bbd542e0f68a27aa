-- Which answer words get.
use Rattle.std.proofs.Common.{◌≡◌, ◌⊎◌, ⊎_elim, inl, inr, ℕ, List, Option, None, Some, Ok, Err, sym, ◌∙◌, subst}
use Rattle.std.specs.Prelude.{IfSome}
use Rattle.shark_words.specs.declared.options.Options.{Options}
use Rattle.run_frames.specs.declared.plan.Plan.{Plan}
use Rattle.run_passes.specs.Reading.{file_of, frames_read}
use Rattle.run_words.specs.declared.refused.Refused.{Refused}
use Rattle.run_words.specs.declared.refused.Refused.TheVariants as refused
use Rattle.run_words.specs.Plan.{IsPlan, IsRefusal, IsRefusalFor}
use Rattle.run_words.specs.Sure.{IsSure}
use Rattle.run_words.proofs.PlanLemmas.{filter_or_fault, plan_or_refusal, same_options}
use Rattle.run_words.specs.declared.status.Status.{Status}
use Rattle.run_words.specs.declared.status.Status.TheVariants as status
use Rattle.shark_run.specs.Answers.{IsAnswered, IsRefusedForSize}
use Rattle.run_words.specs.Statuses.{refusal_status, status_of}

-- words that ask for a plan, refused: for a pattern's size
pub refused_with_plan : (words : List (List ℕ)) (plan : Plan) (reason : Refused) (answer : Status) → IsPlan words plan → IsRefusal words reason
    → answer ≡ refusal_status reason → IsRefusedForSize words answer
refused_with_plan words plan (refused.Words fault) answer asked is same = absurd (plan_or_refusal words plan (refused.Words fault) asked is)
refused_with_plan words plan (refused.Filter fault) answer asked is same =
    (same, (fault, is, plan_or_refusal words plan (refused.Filter fault) asked is))
refused_with_plan words plan (refused.Field name) answer asked is same = absurd (plan_or_refusal words plan (refused.Field name) asked is)

-- a reason that isn't a pattern's size, beside another
same_fault_status : (words : List (List ℕ)) (wanted found : Refused) (options : Options) → IsSure wanted → IsRefusalFor options wanted → IsRefusalFor options found
    → IsRefusal words found → (answer : Status) → answer ≡ refusal_status found → IsAnswered words (refusal_status wanted) answer
same_fault_status words (refused.Words fault) found options sure is also found_is answer same = absurd is
same_fault_status words (refused.Filter fault) (refused.Words other) options sure is also found_is answer same = absurd also
same_fault_status words (refused.Field name) (refused.Words other) options sure is also found_is answer same = absurd also
same_fault_status words (refused.Filter fault) (refused.Filter other) options sure is also found_is answer same = inl same
same_fault_status words (refused.Field name) (refused.Field other) options sure is also found_is answer same = inl same
same_fault_status words (refused.Filter fault) (refused.Field other) options sure is also found_is answer same =
    absurd (sure (filter_or_fault options.filter also.0.0 fault also.0.1 is))
same_fault_status words (refused.Field name) (refused.Filter other) options sure is also found_is answer same =
    inr (inr (same, (other, found_is, filter_or_fault options.filter is.0.0 other is.0.1 also)))

pub refused_alike : (words : List (List ℕ)) (wanted found : Refused) (answer : Status) → IsSure wanted → IsRefusal words wanted → IsRefusal words found
    → answer ≡ refusal_status found → IsAnswered words (refusal_status wanted) answer
unfolding IsRefusal
refused_alike words (refused.Words fault) (refused.Words other) answer sure is also same = inl same
refused_alike words (refused.Words fault) (refused.Filter other) answer sure is also same = let bad : Ok also.0 ≡ Err fault = sym also.1 ∙ is in absurd (cc bad)
refused_alike words (refused.Words fault) (refused.Field other) answer sure is also same = let bad : Ok also.0 ≡ Err fault = sym also.1 ∙ is in absurd (cc bad)
refused_alike words (refused.Filter fault) (refused.Words other) answer sure is also same = let bad : Ok is.0 ≡ Err other = sym is.1 ∙ also in absurd (cc bad)
refused_alike words (refused.Field name) (refused.Words other) answer sure is also same = let bad : Ok is.0 ≡ Err other = sym is.1 ∙ also in absurd (cc bad)
refused_alike words (refused.Filter fault) (refused.Filter other) answer sure is also same = inl same
refused_alike words (refused.Field name) (refused.Field other) answer sure is also same = inl same
refused_alike words (refused.Filter fault) (refused.Field other) answer sure is also same =
    same_fault_status words (refused.Filter fault) (refused.Field other) also.0 sure (subst (λ (o : Options). IsRefusalFor o (refused.Filter fault)) (same_options words is.0 also.0 is.1 also.1) is.2) also.2 also answer same
refused_alike words (refused.Field name) (refused.Filter other) answer sure is also same =
    same_fault_status words (refused.Field name) (refused.Filter other) also.0 sure (subst (λ (o : Options). IsRefusalFor o (refused.Field name)) (same_options words is.0 also.0 is.1 also.1) is.2) also.2 also answer same

-- where a file is known, P of it
pub each_file : (file : Option (List ℕ)) (P Q : List ℕ → Type 0) → ((f : List ℕ) → P f → Q f) → IfSome file P → IfSome file Q
each_file None P Q on was = tt
each_file (Some file) P Q on was = on file was

pub any_file : (file : Option (List ℕ)) (Q : List ℕ → Type 0) → ((f : List ℕ) → Q f) → IfSome file Q
any_file None Q on = tt
any_file (Some file) Q on = on file

pub answered : (words : List (List ℕ)) (wanted answer : Status) → (answer ≡ wanted) ⊎ (answer ≡ status.NoMemory) → IsAnswered words wanted answer
answered words wanted answer is = ⊎_elim (λ same. inl same) (λ none. inr (inl none)) is

refused_answer : (words : List (List ℕ)) (plan : Plan) (reason : Refused) (wanted answer : Status) → IsPlan words plan → IsRefusal words reason
    → (answer ≡ refusal_status reason) ⊎ (answer ≡ status.NoMemory) → IsAnswered words wanted answer
refused_answer words plan reason wanted answer asked is ended =
    ⊎_elim (λ same. inr (inr (refused_with_plan words plan reason answer asked is same))) (λ none. inr (inl none)) ended

-- the same where the words were refused: for a pattern's size
pub complete_refused : (words : List (List ℕ)) (plan : Plan) (reason : Refused) (files : List ℕ → Option (List ℕ)) (answer : Status) (A B C : Type 0) →
    IsPlan words plan → IsRefusal words reason → (answer ≡ refusal_status reason) ⊎ (answer ≡ status.NoMemory) →
    IfSome (file_of plan files) (λ file. A → B → C → IsAnswered words (status_of (frames_read plan file).ending) answer)
complete_refused words plan reason files answer A B C asked is ended =
    any_file (file_of plan files) (λ file. A → B → C → IsAnswered words (status_of (frames_read plan file).ending) answer)
    (λ file a b c. refused_answer words plan reason (status_of (frames_read plan file).ending) answer asked is ended)

pub refused_or_none : (words : List (List ℕ)) (wanted found : Refused) (answer : Status) → IsSure wanted → IsRefusal words wanted → IsRefusal words found
    → (answer ≡ refusal_status found) ⊎ (answer ≡ status.NoMemory) → IsAnswered words (refusal_status wanted) answer
refused_or_none words wanted found answer sure is also ended =
    ⊎_elim (λ same. refused_alike words wanted found answer sure is also same) (λ none. inr (inl none)) ended
