-- The patterns of a filter's `matches`, by the grammar and the search of the library `regex`, whose syntax is that of
-- Rust's crate of this name. Bytes are searched, and letters match in either case.
use Rattle.std.specs.Prelude.{◌≡◌, ⊤, ◌⊎◌, ℕ, ◌<◌, ◌≤◌, ◌==◌, Bool, true, false, IsTrue, List, length, Option, None, Some, is_some, IsSomeAnd, IfSome, IsUtf8, chars}
use Rattle.std.specs.List.{list_any}
use Rattle.regex.specs.Patterns.{Re, Config, default_config, find}
use Rattle.regex_syntax.specs.Brackets.{Nested}
use Rattle.regex_syntax.specs.Grammar.{Names, read}
use Rattle.flt_typed.specs.declared.fault.PatternFault.{PatternFault}
use Rattle.flt_typed.specs.declared.fault.PatternFault.TheVariants.{NoPattern, Large, NoMemory}

-- `regex`'s defaults, but letters match in either case, and what matches need not be UTF-8
abbrev pub options : Config
options = record default_config {
  flags = record default_config.flags { case_insensitive = true };
  utf8 = false;
}

-- what the grammar reads in a text, with how deep it is nested and the names of its groups; none where it is no pattern
unfoldable pub reading : List ℕ → Option (Nested Re × Names)
reading pattern = read options (chars pattern)

abbrev pub found_by : Option (Nested Re × Names) → List ℕ → Bool
found_by None bytes = false
found_by (Some (re, names)) bytes = is_some (find re.value bytes 0)

-- whether the pattern matches somewhere in the bytes: `regex`'s own search, from place 0 on
abbrev pub matches : List ℕ → List ℕ → Bool
matches pattern bytes = found_by (reading pattern) bytes

-- how deep a pattern may be nested
abbrev pub most_nested : ℕ
most_nested = 250

-- a text that is a pattern
pub record IsPattern (text : List ℕ) : Type 0 where
  pub utf8 : IsUtf8 text
  pub read : IsSomeAnd (reading text) (λ (re, names). re.depth ≤ most_nested)

-- a text that is none: it is no UTF-8, the grammar reads nothing in it, or it is nested too deep
abbrev pub IsNoPattern : List ℕ → Type 0
IsNoPattern pattern =
    (¬ IsUtf8 pattern) ⊎ ((reading pattern ≡ None) ⊎ IfSome (reading pattern) (λ (re, names).
    most_nested < re.depth))

-- a pattern of so many bytes without a `{` isn't refused for its size
abbrev pub sure_length : ℕ
sure_length = 64

-- a pattern that may be refused for its size: it is longer, or holds a `{`
pub record MayBeLarge (text : List ℕ) : Type 0 where
  pub pattern : IsPattern text
  pub cause : (sure_length < length text) ⊎ IsTrue (list_any (λ byte. byte == 0x7B) text)

-- why a text is refused; want of memory has no cause in it
abbrev pub HasCause : List ℕ → PatternFault → Type 0
HasCause pattern NoPattern = IsNoPattern pattern
HasCause pattern Large = MayBeLarge pattern
HasCause pattern NoMemory = ⊤
