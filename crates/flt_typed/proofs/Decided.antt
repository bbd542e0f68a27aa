-- A text is a pattern or none.
use Rattle.std.proofs.Common.{◌≡◌, ◌⊎◌, inl, inr, ℕ, ◌<◌, ◌≤◌, Bool, true, false, List, Option, None, Some, refl, sym, ◌∙◌}
use Rattle.std.specs.Prelude.{IfSome, IsSomeAnd, IsUtf8}
use Rattle.std.specs.Str.{is_utf8}
use Rattle.std.proofs.Math.Dec.{leb}
use Rattle.std.proofs.lemmas.Bool.{false≢true, leb-true, leb-false}
use Rattle.std.proofs.lemmas.Str.{IsUtf8-from_is_utf8, is_utf8-from_IsUtf8}
use Rattle.flt_typed.specs.Patterns.{IsNoPattern, IsPattern, most_nested, reading}
use Rattle.regex.specs.Patterns.{Re}
use Rattle.regex_syntax.specs.Brackets.{Nested}
use Rattle.regex_syntax.specs.Grammar.{Names}

abbrev ReadOrNot : Option (Nested Re × Names) → Type 0
ReadOrNot found =
    IsSomeAnd found (λ (re, names). re.depth ≤ most_nested) ⊎ ((found ≡ None) ⊎ IfSome found (λ (re, names). most_nested < re.depth))

by_depth : (re : Nested Re) (names : Names) (test : Bool) → leb re.depth most_nested ≡ test → ReadOrNot (Some (re, names))
by_depth re names true is = inl (leb-true re.depth most_nested is)
by_depth re names false is = inr (inr (leb-false re.depth most_nested is))

read_or_not : (found : Option (Nested Re × Names)) → ReadOrNot found
read_or_not None = inr (inl refl)
read_or_not (Some (re, names)) = by_depth re names (leb re.depth most_nested) refl

of_reading : (text : List ℕ) → IsUtf8 text → ReadOrNot (reading text) → IsPattern text ⊎ IsNoPattern text
of_reading text utf8 (inl read) = inl (record { utf8 = utf8; read = read })
of_reading text utf8 (inr not) = inr (inr not)

of_bytes : (text : List ℕ) (test : Bool) → is_utf8 text ≡ test → IsPattern text ⊎ IsNoPattern text
of_bytes text true is = of_reading text (IsUtf8-from_is_utf8 text is) (read_or_not (reading text))
of_bytes text false is = inr (inl (λ utf8. false≢true (sym is ∙ is_utf8-from_IsUtf8 text utf8)))

pub pattern_or_none : (text : List ℕ) → IsPattern text ⊎ IsNoPattern text
pattern_or_none text = of_bytes text (is_utf8 text) refl
