-- What a list of words asks for: its options, then its filter, then the fields of its names.
use Rattle.std.specs.Prelude.{◌≡◌, ℕ, List, Option, Some, None, Ok, Err}
use Rattle.flt_syntax.specs.declared.fault.FilterFault.{FilterFault}
use Rattle.flt_syntax.specs.declared.fault.FilterError.TheVariants.{Fault}
use Rattle.flt_code.specs.Decides.{Agrees, Decides}
use Rattle.flt_typing.specs.Texts.{IsTypedText}
use Rattle.flt_types.specs.TextFaults.{IsFilterFault}
use Rattle.shark_words.specs.declared.options.Options.{Options}
use Rattle.shark_words.specs.Options.{options_of}
use Rattle.run_frames.specs.declared.plan.Plan.{Plan}
use Rattle.run_words.specs.declared.refused.Refused.{Refused}
use Rattle.run_words.specs.declared.refused.Refused.TheVariants as refused
use Rattle.run_words.specs.Columns.{fields_named}
use Rattle.run_frames.specs.Compiled.{CompiledShown}
use Rattle.run_frames.specs.Source.{source_in}

-- the filter of the text that is asked for, where one is, with a program that decides it: its runs end with the filter's truth
abbrev pub IsFilterAsked : Option (List ℕ) → Option CompiledShown → Type 0
IsFilterAsked None None = Unit {0}
IsFilterAsked None (Some compiled) = ⊥
IsFilterAsked (Some text) None = ⊥
IsFilterAsked (Some text) (Some compiled) =
    IsTypedText text compiled.filter × Decides compiled.program compiled.filter × Agrees compiled.program compiled.filter

-- the first fault of that text
abbrev pub IsFaultAsked : Option (List ℕ) → FilterFault → Type 0
IsFaultAsked None fault = ⊥
IsFaultAsked (Some text) fault = IsFilterFault text (Fault fault)

-- the plan that options ask for
pub record IsPlanFor (options : Options) (plan : Plan) : Type 0 where
  pub source : plan.source ≡ source_in options.source
  pub chosen : IsFilterAsked options.filter plan.chosen
  pub stats : plan.stats ≡ options.stats
  pub two : plan.two ≡ options.two
  pub fields : fields_named options.names ≡ Ok plan.fields
  pub most : plan.most ≡ options.most
  pub decode : plan.decode ≡ options.decode.rules
  pub reports : plan.reports ≡ options.reports
  pub kind : plan.kind ≡ options.kind
  pub style : plan.style ≡ options.style
  pub quiet : plan.quiet ≡ options.quiet
  pub written : plan.written ≡ options.written

-- why options are refused: for their filter, or, where they have a filter or need none, for the first name that isn't known
abbrev pub IsRefusalFor : Options → Refused → Type 0
IsRefusalFor options (refused.Words fault) = ⊥
IsRefusalFor options (refused.Filter fault) = IsFaultAsked options.filter fault
IsRefusalFor options (refused.Field name) =
    ((chosen : Option CompiledShown) × IsFilterAsked options.filter chosen) × (fields_named options.names ≡ Err (refused.Field name))

-- the plan that words ask for
unfoldable pub IsPlan : List (List ℕ) → Plan → Type 0
IsPlan words plan = (options : Options) × (options_of words ≡ Ok options) × IsPlanFor options plan

-- why words are refused: they are outside the command line's grammar, or their options are refused
unfoldable pub IsRefusal : List (List ℕ) → Refused → Type 0
IsRefusal words (refused.Words fault) = options_of words ≡ Err fault
IsRefusal words reason = (options : Options) × (options_of words ≡ Ok options) × IsRefusalFor options reason
