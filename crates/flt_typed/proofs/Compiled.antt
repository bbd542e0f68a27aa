-- From a compiled pattern to what its text says.
use Rattle.std.proofs.Common.{◌≡◌, ℕ, ◌<◌, ◌≤◌, false, List, get_or, Option, None, Some, is_some, IsSomeAnd, IsUtf8}
use Rattle.std.specs.Str.{chars}
use Rattle.regex.specs.Names.{names_of}
use Rattle.regex.specs.Patterns.{Re, find, SameCaptures}
use Rattle.regex.specs.Bytes.{regex_pattern, regex_source}
use Rattle.regex.specs.declared.bytes.regex.Regex.{Regex}
use Rattle.regex.proofs.ForCallers.{is_match_alike}
use Rattle.regex_syntax.specs.Brackets.{Nested}
use Rattle.regex_syntax.specs.Grammar.{Names, read}
use Rattle.regex_syntax.specs.Verdict.{Reads}
use Rattle.flt_typed.specs.Compiled.{IsOurs}
use Rattle.flt_typed.specs.Patterns.{IsPattern, found_by, matches, most_nested, options, reading}

-- a reading that isn't nested too deep, and matches as this tree does
abbrev IsReadBy : Re → Nested Re × Names → Type 0
IsReadBy tree (re, names) = (re.depth ≤ most_nested) × SameCaptures tree re.value

pub weaker : {A : Type 0} (o : Option A) (P Q : A → Type 0) → ((x : A) → P x → Q x) → IsSomeAnd o P → IsSomeAnd o Q
weaker None P Q f p = absurd p
weaker (Some x) P Q f p = f x p

is_read : (r : Regex) → IsOurs r → IsSomeAnd (reading (regex_source r)) (IsReadBy (regex_pattern r))
unfolding Reads reading
is_read r ours =
    let reads : Reads options (regex_source r) r.pattern.program.hir (names_of r.pattern.names.items) = rw ours.config at ours.read in
    weaker (read options (chars (regex_source r))) _ _ (λ x h. (h.0, h.1)) reads

pub is_pattern : (r : Regex) → IsOurs r → IsUtf8 (regex_source r) → IsPattern (regex_source r)
is_pattern r ours utf8 = record { utf8 = utf8; read = weaker _ _ _ (λ x (h : IsReadBy (regex_pattern r) x). h.0) (is_read r ours) }

module _ (bytes : List ℕ) (are_bytes : (k : ℕ) → get_or bytes k 0 < 256) where
  found_alike : (found : Option (Nested Re × Names)) (tree : Re) → IsSomeAnd found (IsReadBy tree) →
      is_some (find tree bytes 0) ≡ found_by found bytes
  found_alike None tree read = absurd read
  found_alike (Some (re, names)) tree read = is_match_alike read.1 bytes are_bytes false 0

  pub finds_matches : (r : Regex) → IsOurs r → is_some (find (regex_pattern r) bytes 0) ≡ matches (regex_source r) bytes
  finds_matches r ours = found_alike _ _ (is_read r ours)
