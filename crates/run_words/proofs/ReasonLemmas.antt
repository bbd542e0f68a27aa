-- Two reasons to refuse the same words.
use Rattle.std.proofs.Common.{◌≡◌, ⊎_elim, ℕ, List, Option, None, Some, Ok, Err, IsTrue, sym, ◌∙◌, ap, subst}
use Rattle.flt_syntax.specs.declared.fault.FilterFault.{FilterFault}
use Rattle.flt_syntax.specs.declared.fault.FilterError.TheVariants.{Fault}
use Rattle.flt_types.specs.TextFaults.{IsFilterFault}
use Rattle.flt_types.proofs.Unique.{one_fault_but_size}
use Rattle.shark_words.specs.declared.options.Options.{Options}
use Rattle.shark_words.specs.Options.{options_of}
use Rattle.run_words.specs.declared.refused.Refused.{Refused}
use Rattle.run_words.specs.declared.refused.Refused.TheVariants as refused
use Rattle.run_words.specs.Laws.{NeverBoth, OneReason}
use Rattle.run_words.specs.Plan.{IsFaultAsked, IsRefusal, IsRefusalFor}
use Rattle.run_words.specs.Sure.{is_of_size, IsSure}
use Rattle.run_words.proofs.PlanLemmas.{filter_or_fault, of_size, refused_not_planned, same_options}

pub never_refused : NeverBoth
never_refused words plan reason asked is sure = refused_not_planned words plan reason asked is sure

one_filter_fault : (text : List ℕ) (f g : FilterFault) → ¬ IsTrue (is_of_size f.reason) → ¬ IsTrue (is_of_size g.reason)
    → IsFilterFault text (Fault f) → IsFilterFault text (Fault g) → f ≡ g
one_filter_fault text f g sure certain is also =
    ⊎_elim
    (λ same. same)
    (λ size. ⊎_elim (λ large. absurd (sure (of_size f.reason large))) (λ large. absurd (certain (of_size g.reason large))) size)
    (one_fault_but_size text f g is also)

one_asked : (text : Option (List ℕ)) (f g : FilterFault) → ¬ IsTrue (is_of_size f.reason) → ¬ IsTrue (is_of_size g.reason)
    → IsFaultAsked text f → IsFaultAsked text g → f ≡ g
one_asked None f g sure certain is also = absurd is
one_asked (Some text) f g sure certain is also = one_filter_fault text f g sure certain is also

one_for : (options : Options) (one other : Refused) → IsSure one → IsSure other → IsRefusalFor options one → IsRefusalFor options other → one ≡ other
one_for options (refused.Words f) other sure certain is also = absurd is
one_for options (refused.Filter f) (refused.Words g) sure certain is also = absurd also
one_for options (refused.Field name) (refused.Words g) sure certain is also = absurd also
one_for options (refused.Filter f) (refused.Filter g) sure certain is also = ap refused.Filter (one_asked options.filter f g sure certain is also)
one_for options (refused.Filter f) (refused.Field name) sure certain is also =
    absurd (sure (filter_or_fault options.filter also.0.0 f also.0.1 is))
one_for options (refused.Field name) (refused.Filter g) sure certain is also =
    absurd (certain (filter_or_fault options.filter is.0.0 g is.0.1 also))
one_for options (refused.Field name) (refused.Field known) sure certain is also =
    let both : Err (refused.Field name) ≡ Err (refused.Field known) = sym is.1 ∙ also.1 in cc

-- a reason of options
abbrev IsOfOptions : List (List ℕ) → Refused → Type 0
IsOfOptions words reason = (options : Options) × (options_of words ≡ Ok options) × IsRefusalFor options reason

one_of_options : (words : List (List ℕ)) (one other : Refused) → IsSure one → IsSure other → IsOfOptions words one → IsOfOptions words other
    → one ≡ other
one_of_options words one other sure certain is also =
    one_for also.0 one other sure certain
    (subst (λ (o : Options). IsRefusalFor o one) (same_options words is.0 also.0 is.1 also.1) is.2) also.2

pub one_reason : OneReason
unfolding IsRefusal
one_reason words (refused.Words f) (refused.Words g) is also sure certain = let both : Err f ≡ Err g = sym is ∙ also in cc
one_reason words (refused.Words f) (refused.Filter g) is also sure certain = let bad : Ok also.0 ≡ Err f = sym also.1 ∙ is in absurd (cc bad)
one_reason words (refused.Words f) (refused.Field name) is also sure certain = let bad : Ok also.0 ≡ Err f = sym also.1 ∙ is in absurd (cc bad)
one_reason words (refused.Filter f) (refused.Words g) is also sure certain = let bad : Ok is.0 ≡ Err g = sym is.1 ∙ also in absurd (cc bad)
one_reason words (refused.Field name) (refused.Words g) is also sure certain = let bad : Ok is.0 ≡ Err g = sym is.1 ∙ also in absurd (cc bad)
one_reason words (refused.Filter f) (refused.Filter g) is also sure certain = one_of_options words (refused.Filter f) (refused.Filter g) sure certain is also
one_reason words (refused.Filter f) (refused.Field name) is also sure certain = one_of_options words (refused.Filter f) (refused.Field name) sure certain is also
one_reason words (refused.Field name) (refused.Filter g) is also sure certain = one_of_options words (refused.Field name) (refused.Filter g) sure certain is also
one_reason words (refused.Field name) (refused.Field known) is also sure certain = one_of_options words (refused.Field name) (refused.Field known) sure certain is also
