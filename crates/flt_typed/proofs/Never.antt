-- A text is no pattern and none.
use Rattle.std.proofs.Common.{◌≡◌, ◌⊎◌, inl, inr, ℕ, ◌<◌, ◌≤◌, List, Option, None, Some, arith}
use Rattle.std.specs.Prelude.{IfSome, IsSomeAnd}
use Rattle.flt_typed.specs.Patterns.{IsNoPattern, IsPattern, most_nested, reading}
use Rattle.regex.specs.Patterns.{Re}
use Rattle.regex_syntax.specs.Brackets.{Nested}
use Rattle.regex_syntax.specs.Grammar.{Names}

never_read : (found : Option (Nested Re × Names)) → IsSomeAnd found (λ (re, names). re.depth ≤ most_nested)
    → (found ≡ None) ⊎ IfSome found (λ (re, names). most_nested < re.depth) → ⊥
never_read None is not = absurd is
never_read (Some read) is (inl none) = absurd (cc none)
never_read (Some read) is (inr deep) = omega (arith, is, deep)

pub never_pattern : (pattern : List ℕ) → IsPattern pattern → IsNoPattern pattern → ⊥
never_pattern pattern is (inl bytes) = bytes is.utf8
never_pattern pattern is (inr unread) = never_read (reading pattern) is.read unread
