-- What holds of all options that words ask for, so that they can be carried out.
use Rattle.std.specs.Prelude.{◌≡◌, ◌≤◌, true, false, [], IfSome, IsSome}
use Rattle.pk_fields.specs.Rules.{AreRules}
use Rattle.shark_words.specs.declared.options.LineKind.TheVariants.{Text}
use Rattle.shark_words.specs.declared.options.Options.{Options}
use Rattle.shark_words.specs.declared.options.Source.{Source}
use Rattle.shark_words.specs.declared.options.Source.TheVariants.{Named, Generated}
use Rattle.shark_words.specs.Values.{most_generated}

-- a generated capture has from 1 to 200,000 frames
abbrev pub HasFrames : Source → Type 0
HasFrames (Named name) = Unit {0}
HasFrames (Generated number frames) = (1 ≤ frames) × (frames ≤ most_generated)

abbrev pub IsNamed : Source → Type 0
IsNamed (Named name) = Unit {0}
IsNamed (Generated number frames) = ⊥

-- statistics of a filter are asked for only where there is one
abbrev pub IsStated : Options → Type 0
IsStated options = options.stats ≡ true → IsSome options.filter

-- nothing is asked for beside a capture that is written, and it comes from a file
pub record IsWrittenAlone (options : Options) : Type 0 where
  pub source : IsNamed options.source
  pub kind : options.kind ≡ Text
  pub quiet : options.quiet ≡ false
  pub reports : options.reports ≡ []
  pub stats : options.stats ≡ false

pub record AreSound (options : Options) : Type 0 where
  pub frames : HasFrames options.source
  pub rules : AreRules options.decode.rules
  pub stats : IsStated options
  pub written : IfSome options.written (λ format. IsWrittenAlone options)
