-- The texts among the options.
use Rattle.std.specs.Prelude.{ℕ, List, [], All, IfSome}
use Rattle.std.specs.Str.{IsUtf8}
use Rattle.shark_words.specs.declared.options.Options.{Options}
use Rattle.shark_words.specs.declared.options.Source.{Source}
use Rattle.shark_words.specs.declared.options.Source.TheVariants.{Named, Generated}

-- the name of the capture file, none for a generated capture
abbrev pub name_in : Source → List ℕ
name_in (Named name) = name
name_in (Generated number frames) = []

-- the names and the filter are UTF-8
pub record AreUtf8 (options : Options) : Type 0 where
  pub source : IsUtf8 (name_in options.source)
  pub filter : IfSome options.filter IsUtf8
  pub names : All IsUtf8 options.names
