-- Words ask for a plan or have a sure reason to be refused.
use Rattle.std.proofs.Common.{◌≡◌, ◌≢◌, ◌⊎◌, inl, inr, ℕ, List, Option, None, Some, Result, Ok, Err, IsTrue, refl}
use Rattle.flt_syntax.specs.declared.fault.FilterFault.{FilterFault}
use Rattle.flt_syntax.specs.declared.fault.FilterError.TheVariants.{Fault}
use Rattle.flt_syntax.specs.declared.fault.FilterReason.{FilterReason}
use Rattle.flt_syntax.specs.declared.fault.FilterReason.TheVariants.{PatternSize}
use Rattle.flt_typing.specs.Texts.{IsTypedText}
use Rattle.flt_typed.specs.declared.typed.Typed.{Typed}
use Rattle.flt_types.specs.TextFaults.{IsFilterFault}
use Rattle.flt_types.proofs.Sure.{typed_or_refused}
use Rattle.flt_code.proofs.CompileLemmas.{texts_programmed}
use Rattle.shark_words.specs.declared.options.Options.{Options}
use Rattle.shark_words.specs.declared.fault.WordFault.{WordFault}
use Rattle.shark_words.specs.Options.{options_of}
use Rattle.run_frames.specs.declared.plan.Plan.{Plan}
use Rattle.run_words.specs.declared.refused.Refused.{Refused}
use Rattle.run_words.specs.declared.refused.Refused.TheVariants as refused
use Rattle.run_words.specs.Sure.{is_of_size, IsSure}
use Rattle.run_words.specs.Columns.{fields_named}
use Rattle.run_frames.specs.Compiled.{CompiledShown}
use Rattle.run_frames.specs.Source.{source_in}
use Rattle.run_words.specs.Laws.{PlanOrReason}
use Rattle.run_words.specs.Plan.{IsFaultAsked, IsFilterAsked, IsPlan, IsPlanFor, IsRefusal, IsRefusalFor}
use Rattle.run_words.proofs.PlanLemmas.{IsOfName, names_alone}

-- the filter that is asked for
abbrev FilterOrFault : Option (List ℕ) → Type 0
FilterOrFault text =
    ((chosen : Option CompiledShown) × IsFilterAsked text chosen) ⊎ ((fault : FilterFault) × IsFaultAsked text fault × (¬ IsTrue (is_of_size fault.reason)))

not_of_size : (reason : FilterReason) → reason ≢ PatternSize → ¬ IsTrue (is_of_size reason)
not_of_size PatternSize other is = other refl
not_of_size reason other is = cc

of_text : (text : List ℕ) → ((filter : Typed) × IsTypedText text filter)
    ⊎ ((fault : FilterFault) × IsFilterFault text (Fault fault) × (fault.reason ≢ PatternSize)) → FilterOrFault (Some text)
of_text text (inl (filter, is)) =
    let code = texts_programmed text filter is in
    inl (Some (record { filter = filter; program = code.0 }), (is, code.1, code.2))
of_text text (inr (fault, is, other)) = inr (fault, is, not_of_size fault.reason other)

filter_asked : (text : Option (List ℕ)) → FilterOrFault text
filter_asked None = inl (None, tt)
filter_asked (Some text) = of_text text (typed_or_refused text)

-- the options
abbrev OptionsAnswered : Options → Type 0
OptionsAnswered options =
    ((plan : Plan) × IsPlanFor options plan) ⊎ ((reason : Refused) × IsRefusalFor options reason × IsSure reason)

with_names : (options : Options) (chosen : Option CompiledShown) (fields : Result (List ℕ) Refused) → IsFilterAsked options.filter chosen
    → IsOfName fields → fields_named options.names ≡ fields → OptionsAnswered options
with_names options chosen (Ok fields) asked alone is =
    let plan : Plan = record {
      source = source_in options.source;
      chosen = chosen;
      stats = options.stats;
      two = options.two;
      fields = fields;
      most = options.most;
      decode = options.decode.rules;
      reports = options.reports;
      kind = options.kind;
      style = options.style;
      quiet = options.quiet;
      written = options.written;
    } in
    inl (plan, record { source = refl; chosen = asked; stats = refl; two = refl; fields = is; most = refl; decode = refl; reports = refl; kind = refl; style = refl; quiet = refl; written = refl })
with_names options chosen (Err (refused.Field name)) asked alone is = inr (refused.Field name, ((chosen, asked), is), tt)
with_names options chosen (Err reason) asked alone is = absurd alone

with_filter : (options : Options) → FilterOrFault options.filter → OptionsAnswered options
with_filter options (inl (chosen, asked)) = with_names options chosen (fields_named options.names) asked (names_alone options.names) refl
with_filter options (inr (fault, is, sure)) = inr (refused.Filter fault, is, sure)

-- the words
abbrev Answered : List (List ℕ) → Type 0
Answered words = ((plan : Plan) × IsPlan words plan) ⊎ ((reason : Refused) × IsRefusal words reason × IsSure reason)

sure_reason : (words : List (List ℕ)) (options : Options) (reason : Refused) → options_of words ≡ Ok options → IsRefusalFor options reason
    → IsRefusal words reason
unfolding IsRefusal
sure_reason words options (refused.Words fault) read is = absurd is
sure_reason words options (refused.Filter fault) read is = (options, read, is)
sure_reason words options (refused.Field name) read is = (options, read, is)

with_options : (words : List (List ℕ)) (options : Options) → options_of words ≡ Ok options → OptionsAnswered options → Answered words
unfolding IsPlan
with_options words options read (inl (plan, is)) = inl (plan, (options, read, is))
with_options words options read (inr (reason, is, sure)) = inr (reason, sure_reason words options reason read is, sure)

with_words : (words : List (List ℕ)) (read : Result Options WordFault) → options_of words ≡ read → Answered words
unfolding IsRefusal
with_words words (Ok options) is = with_options words options is (with_filter options (filter_asked options.filter))
with_words words (Err fault) is = inr (refused.Words fault, is, tt)

pub plan_or_reason : PlanOrReason
plan_or_reason words = with_words words (options_of words) refl
