-- What words ask for is asked for once.
use Rattle.std.proofs.Common.{◌≡◌, ℕ, List, [], ◌∷◌, Option, None, Some, Result, Ok, Err, refl, sym, ◌∙◌, subst}
use Rattle.std.specs.Prelude.{IsTrue}
use Rattle.pk_fields.specs.Fields.{field_named}
use Rattle.flt_syntax.specs.declared.fault.FilterFault.{FilterFault}
use Rattle.flt_syntax.specs.declared.fault.FilterReason.{FilterReason}
use Rattle.flt_syntax.specs.declared.fault.FilterReason.TheVariants.{PatternSize}
use Rattle.flt_types.proofs.Unique.{typed_or_fault}
use Rattle.shark_words.specs.declared.options.Options.{Options}
use Rattle.shark_words.specs.Options.{options_of}
use Rattle.run_frames.specs.declared.plan.Plan.{Plan}
use Rattle.run_frames.specs.Compiled.{CompiledShown}
use Rattle.run_words.specs.declared.refused.Refused.{Refused}
use Rattle.run_words.specs.declared.refused.Refused.TheVariants as refused
use Rattle.run_words.specs.declared.refused.PlanError.{PlanError}
use Rattle.run_words.specs.declared.refused.PlanError.TheVariants as errors
use Rattle.run_words.specs.Columns.{fields_named, known, with_first, with_others, IsNameRefused}
use Rattle.run_words.specs.Plan.{IsFaultAsked, IsFilterAsked, IsPlan, IsPlanFor, IsRefusal, IsRefusalFor}
use Rattle.run_words.specs.PlanErrors.{IsErrorOf}
use Rattle.run_words.specs.Sure.{is_of_size, IsSure}

pub same_options : (words : List (List ℕ)) (one other : Options) → options_of words ≡ Ok one → options_of words ≡ Ok other → one ≡ other
same_options words one other is also = let both : Ok one ≡ Ok other = sym is ∙ also in cc

pub of_size : (reason : FilterReason) → reason ≡ PatternSize → IsTrue (is_of_size reason)
of_size reason same = subst (λ (r : FilterReason). IsTrue (is_of_size r)) (sym same) refl

-- the reason is a pattern's size
abbrev pub IsOfSize : Refused → Type 0
IsOfSize (refused.Filter fault) = IsTrue (is_of_size fault.reason)
IsOfSize reason = ⊥

pub filter_or_fault : (text : Option (List ℕ)) (chosen : Option CompiledShown) (fault : FilterFault) → IsFilterAsked text chosen → IsFaultAsked text fault
    → IsTrue (is_of_size fault.reason)
filter_or_fault (Some text) (Some compiled) fault asked is = of_size fault.reason (typed_or_fault text compiled.filter fault asked.0 is)
filter_or_fault (Some text) None fault asked is = absurd asked
filter_or_fault None chosen fault asked is = absurd is

-- options that ask for a plan are refused for a pattern's size alone
plan_or_reason : (options : Options) (plan : Plan) (reason : Refused) → IsPlanFor options plan → IsRefusalFor options reason → IsOfSize reason
plan_or_reason options plan (refused.Words fault) asked is = absurd is
plan_or_reason options plan (refused.Filter fault) asked is = filter_or_fault options.filter plan.chosen fault asked.chosen is
plan_or_reason options plan (refused.Field name) asked is =
    let bad : Ok plan.fields ≡ Err (refused.Field name) = sym asked.fields ∙ is.1 in absurd (cc bad)

pub plan_or_refusal : (words : List (List ℕ)) (plan : Plan) (reason : Refused) → IsPlan words plan → IsRefusal words reason → IsOfSize reason
unfolding IsPlan IsRefusal
plan_or_refusal words plan (refused.Words fault) asked is =
    let bad : Ok asked.0 ≡ Err fault = sym asked.1 ∙ is in absurd (cc bad)
plan_or_refusal words plan (refused.Filter fault) asked is =
    plan_or_reason is.0 plan (refused.Filter fault) (subst (λ (o : Options). IsPlanFor o plan) (same_options words asked.0 is.0 asked.1 is.1) asked.2) is.2
plan_or_refusal words plan (refused.Field name) asked is =
    plan_or_reason is.0 plan (refused.Field name) (subst (λ (o : Options). IsPlanFor o plan) (same_options words asked.0 is.0 asked.1 is.1) asked.2) is.2

-- an answer to a sure reason, where a plan was read
pub refused_not_planned : (words : List (List ℕ)) (plan : Plan) (reason : Refused) → IsPlan words plan → IsRefusal words reason → IsSure reason → ⊥
refused_not_planned words plan (refused.Words fault) asked is sure = plan_or_refusal words plan (refused.Words fault) asked is
refused_not_planned words plan (refused.Filter fault) asked is sure = sure (plan_or_refusal words plan (refused.Filter fault) asked is)
refused_not_planned words plan (refused.Field name) asked is sure = plan_or_refusal words plan (refused.Field name) asked is

-- names give no other reason than a name
abbrev pub IsOfName : Result (List ℕ) Refused → Type 0
IsOfName (Ok fields) = Unit {0}
IsOfName (Err (refused.Field name)) = Unit {0}
IsOfName (Err reason) = ⊥

others_alone : (field : ℕ) (others : Result (List ℕ) Refused) → IsOfName others → IsOfName (with_others field others)
others_alone field (Ok fields) is = tt
others_alone field (Err (refused.Field name)) is = tt
others_alone field (Err (refused.Words fault)) is = absurd is
others_alone field (Err (refused.Filter fault)) is = absurd is

first_alone : (name : List ℕ) (found : Option ℕ) (others : Result (List ℕ) Refused) → IsOfName others → IsOfName (with_first (known name found) others)
first_alone name None others is = tt
first_alone name (Some field) others is = others_alone field others is

pub names_alone : (names : List (List ℕ)) → IsOfName (fields_named names)
names_alone [] = tt
names_alone (name ∷ names) = first_alone name (field_named name) (fields_named names) (names_alone names)

reason_of_names : (options : Options) (chosen : Option CompiledShown) (reason : Refused) → IsFilterAsked options.filter chosen → IsOfName (Err reason)
    → fields_named options.names ≡ Err reason → IsRefusalFor options reason
reason_of_names options chosen (refused.Field name) asked is fields = ((chosen, asked), fields)
reason_of_names options chosen (refused.Words fault) asked is fields = absurd is
reason_of_names options chosen (refused.Filter fault) asked is fields = absurd is

-- the options are refused for a name, where their filter is read
pub names_refused : (options : Options) (chosen : Option CompiledShown) (e : PlanError) → IsFilterAsked options.filter chosen
    → IsErrorOf (IsNameRefused options.names) e → IsErrorOf (IsRefusalFor options) e
names_refused options chosen errors.NoMemory asked is = tt
names_refused options chosen (errors.Refused reason) asked fields =
    reason_of_names options chosen reason asked (subst IsOfName fields (names_alone options.names)) fields

pub reason_given : (IsReason : Refused → Type 0) (e : PlanError) (reason : Refused) → e ≡ errors.Refused reason → IsErrorOf IsReason e → IsReason reason
reason_given IsReason e reason same is = subst (λ (x : PlanError). IsErrorOf IsReason x) same is
