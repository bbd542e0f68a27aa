-- The headline, of what each part of a run promises, and what follows from it.
use Rattle.std.proofs.Common.{◌≡◌, ◌⊎◌, ⊎_elim, inl, inr, ℕ, List, Option, refl, sym, subst}
use Rattle.std.specs.Prelude.{IfSome}
use Rattle.pk_outside.proofs.Parts.{part_whole}
use Rattle.run_frames.specs.declared.plan.Plan.{Plan}
use Rattle.run_passes.specs.Reading.{file_of, frames_read}
use Rattle.run_words.specs.declared.refused.Refused.{Refused}
use Rattle.run_words.specs.declared.refused.Refused.TheVariants as refused
use Rattle.run_words.specs.Plan.{IsPlan, IsRefusal}
use Rattle.shark_run.specs.Wrote.{WroteAll, WrotePart}
use Rattle.run_words.specs.declared.status.Status.{Status}
use Rattle.run_words.specs.declared.status.Status.TheVariants as status
use Rattle.shark_run.specs.Told.{Told}
use Rattle.shark_run.specs.Headline.{AreKept, Headline, HeadlineSaysAll, IsAnswer, IsCarriedOut, IsCutShort, IsRefused}
use Rattle.run_words.specs.Statuses.{refusal_status, status_of, IsNoRefusal, IsRefusing, WhenEnded}
use Rattle.shark_run.proofs.AnswerLemmas.{each_file}

-- the whole output, written over a file
abbrev Whole : Plan → Status → Option (List ℕ) → Option (List ℕ) → List ℕ → Type 0
Whole plan answer old new file = WroteAll plan (frames_read plan file) old new × (answer ≡ status_of (frames_read plan file).ending)

-- a front of it
abbrev Front : Plan → Option (List ℕ) → Option (List ℕ) → List ℕ → Type 0
Front plan old new file = WrotePart plan (frames_read plan file) old new

whole : (plan : Plan) (files : List ℕ → Option (List ℕ)) (answer : Status) (old new : Option (List ℕ)) → IfSome (file_of plan files) (Whole plan answer old new)
    → IfSome (file_of plan files) (IsCarriedOut plan answer old new)
whole plan files answer old new is =
    each_file (file_of plan files) (Whole plan answer old new) (IsCarriedOut plan answer old new) (λ file all. inl (record { written = all.0; status = all.1 })) is

front : (plan : Plan) (files : List ℕ → Option (List ℕ)) (answer : Status) (old new : Option (List ℕ)) → IsCutShort answer → IfSome (file_of plan files) (Front plan old new)
    → IfSome (file_of plan files) (IsCarriedOut plan answer old new)
front plan files answer old new why is =
    each_file (file_of plan files) (Front plan old new) (IsCarriedOut plan answer old new) (λ file part. inr (record { written = part; status = why })) is

carried_out : (plan : Plan) (files : List ℕ → Option (List ℕ)) (answer : Status) (old new : Option (List ℕ)) → IsNoRefusal answer
    → WhenEnded answer (IfSome (file_of plan files) (Whole plan answer old new)) → IfSome (file_of plan files) (Front plan old new)
    → IfSome (file_of plan files) (IsCarriedOut plan answer old new)
carried_out plan files status.Done old new asked ended part = whole plan files status.Done old new ended
carried_out plan files status.Damaged old new asked ended part = whole plan files status.Damaged old new ended
carried_out plan files status.TooLarge old new asked ended part = whole plan files status.TooLarge old new ended
carried_out plan files status.CannotWrite old new asked ended part = whole plan files status.CannotWrite old new ended
carried_out plan files status.CannotOpen old new asked ended part = front plan files status.CannotOpen old new tt part
carried_out plan files status.ReadFault old new asked ended part = front plan files status.ReadFault old new tt part
carried_out plan files status.WriteFault old new asked ended part = front plan files status.WriteFault old new tt part
carried_out plan files status.NoMemory old new asked ended part = front plan files status.NoMemory old new tt part
carried_out plan files status.BadWords old new asked ended part = absurd asked
carried_out plan files status.BadFilter old new asked ended part = absurd asked
carried_out plan files status.BadField old new asked ended part = absurd asked

-- of a plan that was carried out
pub planned : (words : List (List ℕ)) (plan : Plan) (files : List ℕ → Option (List ℕ)) (answer : Status) (old new told_old told_new : Option (List ℕ))
    → IsPlan words plan → IsNoRefusal answer
    → WhenEnded answer (IfSome (file_of plan files) (λ file. WroteAll plan (frames_read plan file) old new × (answer ≡ status_of (frames_read plan file).ending)))
    → IfSome (file_of plan files) (λ file. WrotePart plan (frames_read plan file) old new)
    → Told (IsPlan words) (IsRefusal words) files answer told_old told_new → Headline words files answer old new told_old told_new
unfolding Headline
planned words plan files answer old new told_old told_new is asked ended part told =
    (inr (inl (plan, is, asked, carried_out plan files answer old new asked ended part)), told)

refused_or_nothing : (words : List (List ℕ)) (reason : Refused) (files : List ℕ → Option (List ℕ)) (answer : Status) (old new : Option (List ℕ)) → IsRefusal words reason
    → (answer ≡ refusal_status reason) ⊎ (answer ≡ status.NoMemory) → new ≡ old → IsAnswer words files answer old new
refused_or_nothing words reason files answer old new given ended nothing =
    ⊎_elim (λ same. inl (reason, record { given = given; status = same; nothing = nothing })) (λ none. inr (inr (none, nothing))) ended

-- of a refusal that was told
pub refused_so : (words : List (List ℕ)) (reason : Refused) (files : List ℕ → Option (List ℕ)) (answer : Status) (old new told_old told_new : Option (List ℕ)) → IsRefusal words reason
    → (answer ≡ refusal_status reason) ⊎ (answer ≡ status.NoMemory) → new ≡ old
    → Told (IsPlan words) (IsRefusal words) files answer told_old told_new → Headline words files answer old new told_old told_new
unfolding Headline
refused_so words reason files answer old new told_old told_new given ended nothing told =
    (refused_or_nothing words reason files answer old new given ended nothing, told)

-- of words that found no memory
pub starved : (words : List (List ℕ)) (files : List ℕ → Option (List ℕ)) (old new told_old told_new : Option (List ℕ)) → new ≡ old
    → Told (IsPlan words) (IsRefusal words) files status.NoMemory told_old told_new → Headline words files status.NoMemory old new told_old told_new
unfolding Headline
starved words files old new told_old told_new nothing told = (inr (inr (refl, nothing)), told)

-- no status is one of words that are refused and of words that aren't
pub not_both : (answer : Status) (A : Type 0) → IsNoRefusal answer → IsRefusing answer → A
not_both status.Done A asked refusing = absurd refusing
not_both status.Damaged A asked refusing = absurd refusing
not_both status.TooLarge A asked refusing = absurd refusing
not_both status.CannotWrite A asked refusing = absurd refusing
not_both status.CannotOpen A asked refusing = absurd refusing
not_both status.ReadFault A asked refusing = absurd refusing
not_both status.WriteFault A asked refusing = absurd refusing
not_both status.NoMemory A asked refusing = absurd refusing
not_both status.BadWords A asked refusing = absurd asked
not_both status.BadFilter A asked refusing = absurd asked
not_both status.BadField A asked refusing = absurd asked

ended_refused : (reason : Refused) (P : Type 0) → WhenEnded (refusal_status reason) P
ended_refused (refused.Words fault) P = tt
ended_refused (refused.Filter fault) P = tt
ended_refused (refused.Field name) P = tt

kept_refused : (words : List (List ℕ)) (reason : Refused) (files : List ℕ → Option (List ℕ)) (answer : Status) (old new told_old told_new : Option (List ℕ)) →
    IsRefused words reason answer old new → Told (IsPlan words) (IsRefusal words) files answer told_old told_new → AreKept words files answer old new told_old told_new
kept_refused words reason files answer old new told_old told_new is told = record {
  refusing = λ _. (reason, is.given, is.status);
  untouched = λ _. is.nothing;
  ended = subst (λ (a : Status). WhenEnded a ((plan : Plan) × IsPlan words plan × IfSome (file_of plan files) (Whole plan answer old new))) (sym is.status) (ended_refused reason _);
  part = inl is.nothing;
  told = told;
}

all_of : (plan : Plan) (answer : Status) (old new : Option (List ℕ)) (file : List ℕ) (A : Type 0) → (IsCutShort answer → A) → (Whole plan answer old new file → A)
    → IsCarriedOut plan answer old new file → A
all_of plan answer old new file A cut all is = ⊎_elim (λ is. all (is.written, is.status)) (λ is. cut is.status) is

asked_all : (words : List (List ℕ)) (plan : Plan) (files : List ℕ → Option (List ℕ)) (answer : Status) (old new : Option (List ℕ)) → IsPlan words plan
    → (IsCutShort answer → ⊥) → IfSome (file_of plan files) (IsCarriedOut plan answer old new)
    → (plan : Plan) × IsPlan words plan × IfSome (file_of plan files) (Whole plan answer old new)
asked_all words plan files answer old new is not_cut carried = (
  plan,
  is,
  each_file (file_of plan files) (IsCarriedOut plan answer old new) (Whole plan answer old new)
      (λ file out. all_of plan answer old new file (Whole plan answer old new file) (λ cut. absurd (not_cut cut)) (λ all. all) out) carried,
)

ended_planned : (words : List (List ℕ)) (plan : Plan) (files : List ℕ → Option (List ℕ)) (answer : Status) (old new : Option (List ℕ)) → IsPlan words plan
    → IfSome (file_of plan files) (IsCarriedOut plan answer old new)
    → WhenEnded answer ((plan : Plan) × IsPlan words plan × IfSome (file_of plan files) (Whole plan answer old new))
ended_planned words plan files status.Done old new is carried = asked_all words plan files status.Done old new is (λ cut. cut) carried
ended_planned words plan files status.Damaged old new is carried = asked_all words plan files status.Damaged old new is (λ cut. cut) carried
ended_planned words plan files status.TooLarge old new is carried = asked_all words plan files status.TooLarge old new is (λ cut. cut) carried
ended_planned words plan files status.CannotWrite old new is carried = asked_all words plan files status.CannotWrite old new is (λ cut. cut) carried
ended_planned words plan files status.CannotOpen old new is carried = tt
ended_planned words plan files status.ReadFault old new is carried = tt
ended_planned words plan files status.WriteFault old new is carried = tt
ended_planned words plan files status.NoMemory old new is carried = tt
ended_planned words plan files status.BadWords old new is carried = tt
ended_planned words plan files status.BadFilter old new is carried = tt
ended_planned words plan files status.BadField old new is carried = tt

part_planned : (plan : Plan) (answer : Status) (old new : Option (List ℕ)) (file : List ℕ) → IsCarriedOut plan answer old new file → Front plan old new file
part_planned plan answer old new file is = ⊎_elim (λ is. part_whole old new _ is.written) (λ is. is.written) is

kept_planned : (words : List (List ℕ)) (plan : Plan) (files : List ℕ → Option (List ℕ)) (answer : Status) (old new told_old told_new : Option (List ℕ)) → IsPlan words plan
    → IsNoRefusal answer → IfSome (file_of plan files) (IsCarriedOut plan answer old new)
    → Told (IsPlan words) (IsRefusal words) files answer told_old told_new → AreKept words files answer old new told_old told_new
kept_planned words plan files answer old new told_old told_new is asked carried told = record {
  refusing = λ refusing. not_both answer _ asked refusing;
  untouched = λ refusing. not_both answer _ asked refusing;
  ended = ended_planned words plan files answer old new is carried;
  part = inr (plan, is, each_file (file_of plan files) (IsCarriedOut plan answer old new) (Front plan old new) (part_planned plan answer old new) carried);
  told = told;
}

kept_nothing : (words : List (List ℕ)) (files : List ℕ → Option (List ℕ)) (answer : Status) (old new told_old told_new : Option (List ℕ)) → answer ≡ status.NoMemory → new ≡ old
    → Told (IsPlan words) (IsRefusal words) files answer told_old told_new → AreKept words files answer old new told_old told_new
kept_nothing words files answer old new told_old told_new none nothing told = record {
  refusing = λ refusing. absurd (subst IsRefusing none refusing);
  untouched = λ refusing. nothing;
  ended = subst (λ (a : Status). WhenEnded a ((plan : Plan) × IsPlan words plan × IfSome (file_of plan files) (Whole plan answer old new))) (sym none) tt;
  part = inl nothing;
  told = told;
}

pub headline_says_all : HeadlineSaysAll
unfolding Headline
headline_says_all words files answer old new told_old told_new said =
    ⊎_elim (λ refused. kept_refused words refused.0 files answer old new told_old told_new refused.1 said.1)
    (λ other. ⊎_elim (λ asked. kept_planned words asked.0 files answer old new told_old told_new asked.1 asked.2 asked.3 said.1)
    (λ none. kept_nothing words files answer old new told_old told_new none.0 none.1 said.1) other) said.0
