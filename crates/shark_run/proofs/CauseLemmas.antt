-- What the counts of the outside say of a fault, once a file was begun.
use Rattle.std.proofs.Common.{◌≡◌, ◌∙◌, ℕ, List, Option, Some, arith, subst}
use Rattle.std.specs.Prelude.{IfSome}
use Rattle.pk_outside.specs.Outside.{Rose, counted}
use Rattle.run_passes.specs.Passed.{IsReadOn}
use Rattle.shark_run.specs.Causes.{IsUnread}

-- a read of the named file failed
pub unread : (faults_old faults faults_new begun_old begun begun_new missed_old missed missed_new : ℕ) (asked asked_new name : List ℕ)
    → faults ≡ faults_old → begun ≡ counted begun_old → missed ≡ missed_old → asked ≡ name → Rose faults faults_new
    → IsReadOn asked asked_new begun begun_new missed missed_new
    → IsUnread faults_old faults_new begun_old begun_new missed_old missed_new asked_new name
unread faults_old faults faults_new begun_old begun begun_new missed_old missed missed_new asked asked_new name same once none is rose on = record {
  rose = omega (arith, same, rose);
  begun = omega (arith, once, on.begun);
  begun_once = omega (arith, once, on.begun);
  not_missed = on.missed ∙ none;
  asked_name = on.asked ∙ is;
}

-- where nothing is counted, nothing rose
pub none_rose : Rose 0 0 → ⊥
none_rose rose = omega (arith, rose)

-- of the file that is told
pub of_told : (told : Option (List ℕ)) (file : List ℕ) (P : List ℕ → Type 0) → told ≡ Some file → IfSome told P → P file
of_told told file P is holds = let known : IfSome (Some file) P = subst (λ (o : Option (List ℕ)). IfSome o P) is holds in known
