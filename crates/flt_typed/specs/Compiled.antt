-- What a compiled pattern keeps.
use Rattle.std.specs.Prelude.{◌≡◌}
use Rattle.regex.specs.Bytes.{matcher_pattern, regex_config, regex_pattern, IsReadFromSource}
use Rattle.regex.specs.declared.bytes.regex.Regex.{Regex}
use Rattle.regex.specs.declared.bytes.matcher.Matcher.{Matcher}
use Rattle.flt_typed.specs.Patterns.{options}

-- it is what the grammar reads in its text, under the options
pub record IsOurs (r : Regex) : Type 0 where
  pub config : regex_config r ≡ options
  pub read : IsReadFromSource r

-- the matcher searches for what the regex stands for
pub record IsSearchOf (r : Regex) (m : Matcher) : Type 0 where
  pub ours : IsOurs r
  pub pattern : matcher_pattern m ≡ regex_pattern r
