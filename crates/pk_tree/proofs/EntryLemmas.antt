-- Adding entries to steps one by one.
use Rattle.std.proofs.Common.{◌≡◌, ℕ, zero, suc, ◌+◌, ◌-◌, ◌<◌, ◌≤◌, Bool, true, false, if◌then◌else◌, List, [], ◌∷◌, ◌++◌, Option, Some, None, MatchOption, refl, sym, ap, ◌∙◌, arith, append_assoc, append-nil}
use Rattle.std.specs.List.{AllByRecursion as Each}
use Rattle.pk_tree.specs.declared.layout.Reach.TheVariants.{All}
use Rattle.pk_tree.specs.declared.layout.Step.{Step}
use Rattle.pk_tree.specs.Entries.{Entry, goes_on, ends, behind, then_at, then_on, repeated, ReadsTo, Adds}
use Rattle.pk_tree.specs.Layouts.{StepFits, StepsFit, reach}
use Rattle.pk_tree.proofs.TableLemmas.{reach-append}

repeated-suc : (n : ℕ) (one : ℕ → Entry) (at : ℕ) → repeated (suc n) one at ≡ then_on (one at) (repeated n one)
unfolding repeated
repeated-suc n one at = refl

-- an entry that was added, then what follows it
pub adds_on : (old new : List Step) (entry : Entry) (at : ℕ) (more : ℕ → Entry) → Adds old new entry (Some at) → behind old (then_on entry more) ≡ behind new (more at)
adds_on old new entry at more adds =
    rw (adds.steps, ← adds.next) (ap (λ (steps : List Step). record { steps = steps; next = (more at).next }) (sym (append_assoc old entry.steps (more at).steps)))

pub adds_end : (old new : List Step) (entry : Entry) (more : ℕ → Entry) → Adds old new entry None → behind old (then_on entry more) ≡ ends new
adds_end old new entry more adds = rw (adds.steps, ← adds.next) refl

-- a loop that adds entries: one more, after which reading goes on
pub repeat_step : (one : ℕ → Entry) (count done at next : ℕ) (old new : List Step) (whole : Entry) → behind old (repeated (count - done) one at) ≡ whole → done < count → Adds old new (one at) (Some next) →
    behind new (repeated (count - (done + 1)) one next) ≡ whole
repeat_step one count done at next old new whole goes more adds =
    let left : count - done ≡ suc (count - (done + 1)) = omega arith in
    let step : behind old (repeated (count - done) one at) ≡ behind new (repeated (count - (done + 1)) one next) =
    rw (left, repeated-suc (count - (done + 1)) one at) (adds_on old new (one at) next (repeated (count - (done + 1)) one) adds) in
    sym step ∙ goes

-- one more, after which it ends
pub repeat_stop : (one : ℕ → Entry) (count done at : ℕ) (first old new : List Step) (whole : Entry) → behind old (repeated (count - done) one at) ≡ behind first whole → done < count → Adds old new (one at) None →
    Adds first new whole None
repeat_stop one count done at first old new whole goes more adds =
    let left : count - done ≡ suc (count - (done + 1)) = omega arith in
    let stop : behind old (repeated (count - done) one at) ≡ ends new =
    rw (left, repeated-suc (count - (done + 1)) one at) (adds_end old new (one at) (repeated (count - (done + 1)) one) adds) in
    let same : ends new ≡ behind first whole = sym stop ∙ goes in
    record { steps = ap (λ (e : Entry). e.steps) same; next = ap (λ (e : Entry). e.next) same }

-- as many as there may be
pub repeat_done : (one : ℕ → Entry) (count done at : ℕ) (first new : List Step) (whole : Entry) → behind new (repeated (count - done) one at) ≡ behind first whole → count ≤ done →
    Adds first new whole (Some at)
unfolding repeated
repeat_done one count done at first new whole goes most =
    let none : count - done ≡ 0 = omega arith in
    let same : goes_on new at ≡ behind first whole = ap (λ (steps : List Step). goes_on steps at) (sym (append-nil new)) ∙ rw none at goes in
    record { steps = ap (λ (e : Entry). e.steps) same; next = ap (λ (e : Entry). e.next) same }

-- what holds of each step of an entry's parts holds of each of its steps
pub each_append : (P : Step → Type 0) (xs ys : List Step) → Each P xs → Each P ys → Each P (xs ++ ys)
each_append P [] ys front back = back
each_append P (x ∷ xs) ys front back = (front.0, each_append P xs ys front.1 back)

each_at : (P : Step → Type 0) (steps : List Step) (next : Option ℕ) (more : ℕ → Entry) → Each P steps → ((at : ℕ) → Each P (more at).steps) → Each P (then_at steps next more).steps
each_at P steps None more front back = front
each_at P steps (Some at) more front back = each_append P steps (more at).steps front (back at)

pub each_then : (P : Step → Type 0) (entry : Entry) (more : ℕ → Entry) → Each P entry.steps → ((at : ℕ) → Each P (more at).steps) → Each P (then_on entry more).steps
each_then P entry more front back = each_at P entry.steps entry.next more front back

pub each_repeated : (P : Step → Type 0) (count : ℕ) (one : ℕ → Entry) → ((at : ℕ) → Each P (one at).steps) → (at : ℕ) → Each P (repeated count one at).steps
unfolding repeated
each_repeated P zero one each at = tt
each_repeated P (suc count) one each at = each_then P (one at) (repeated count one) (each at) (λ next. each_repeated P count one each next)

-- so that they fit
pub fit_append : (proto : ℕ) (xs ys : List Step) → StepsFit proto xs → StepsFit proto ys → StepsFit proto (xs ++ ys)
unfolding StepsFit
fit_append proto xs ys front back = each_append (StepFits proto) xs ys front back

pub fit_then : (proto : ℕ) (entry : Entry) (more : ℕ → Entry) → StepsFit proto entry.steps → ((at : ℕ) → StepsFit proto (more at).steps) → StepsFit proto (then_on entry more).steps
unfolding StepsFit
fit_then proto entry more front back = each_then (StepFits proto) entry more front back

pub fit_repeated : (proto count : ℕ) (one : ℕ → Entry) → ((at : ℕ) → StepsFit proto (one at).steps) → (at : ℕ) → StepsFit proto (repeated count one at).steps
unfolding StepsFit
fit_repeated proto count one each at = each_repeated (StepFits proto) count one each at

-- an entry after which reading ends, or goes on at that place or behind it
pub record GoesPast (least : ℕ) (entry : Entry) : Type 0 where
  pub past : ReadsTo least entry

pub past_if : (least : ℕ) (b : Bool) (x y : Entry) → (b ≡ true → GoesPast least x) → GoesPast least y → GoesPast least (if b then x else y)
past_if least true x y one other = one refl
past_if least false x y one other = other

pub past_end : (least : ℕ) (steps : List Step) → GoesPast least (ends steps)
past_end least steps = record { past = tt }

pub less_past : (less least : ℕ) (next : Option ℕ) → less ≤ least → MatchOption next (Unit {0}) (λ at. least ≤ at) → MatchOption next (Unit {0}) (λ at. less ≤ at)
less_past less least None lower past = tt
less_past less least (Some at) lower past = omega arith

then_past : (count at : ℕ) (steps : List Step) (next : Option ℕ) (more : ℕ → Entry) → MatchOption next (Unit {0}) (λ next. at + 1 ≤ next) → ((at : ℕ) → ReadsTo (at + count) (more at)) → ReadsTo (at + suc count) (then_at steps next more)
then_past count at steps None more past rest = tt
then_past count at steps (Some next) more past rest = less_past (at + suc count) (next + count) (more next).next (omega arith) (rest next)

-- entries each of which takes at least one place
pub repeated_past : (count : ℕ) (one : ℕ → Entry) → ((at : ℕ) → GoesPast (at + 1) (one at)) → (at : ℕ) → ReadsTo (at + count) (repeated count one at)
unfolding repeated
repeated_past zero one each at = omega arith
repeated_past (suc count) one each at = then_past count at (one at).steps (one at).next (repeated count one) (each at).past (repeated_past count one each)

-- entries whose steps are all read
pub reach_all : (end : ℕ) (xs ys : List Step) → reach end xs ≡ All → reach end ys ≡ All → reach end (xs ++ ys) ≡ All
reach_all end xs ys front back = rw (reach-append end xs ys, front, back) refl

all_at : (end : ℕ) (steps : List Step) (next : Option ℕ) (more : ℕ → Entry) → reach end steps ≡ All → ((at : ℕ) → reach end (more at).steps ≡ All) → reach end (then_at steps next more).steps ≡ All
all_at end steps None more front back = front
all_at end steps (Some at) more front back = reach_all end steps (more at).steps front (back at)

pub all_repeated : (end count : ℕ) (one : ℕ → Entry) → ((at : ℕ) → reach end (one at).steps ≡ All) → (at : ℕ) → reach end (repeated count one at).steps ≡ All
unfolding repeated reach
all_repeated end zero one each at = refl
all_repeated end (suc count) one each at = all_at end (one at).steps (one at).next (repeated count one) (each at) (λ next. all_repeated end count one each next)
