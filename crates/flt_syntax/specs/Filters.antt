-- The text of a filter: its tree, or its first fault.
use Rattle.std.specs.Prelude.{◌≡◌, ◌≤◌, ◌<◌, ℕ, List, [], ◌∷◌, ◌++◌, length, map, Ok, Err}
use Rattle.flt_syntax.specs.Grammar.{IsFilter}
use Rattle.flt_syntax.specs.Tokens.{tokens_of}
use Rattle.flt_syntax.specs.Written.{Written}
use Rattle.flt_syntax.specs.declared.fault.FilterError.{FilterError}
use Rattle.flt_syntax.specs.declared.fault.FilterError.TheVariants.{Fault, NoMemory}
use Rattle.flt_syntax.specs.declared.fault.FilterFault.{FilterFault}
use Rattle.flt_syntax.specs.declared.fault.FilterReason.{FilterReason}
use Rattle.flt_syntax.specs.declared.fault.FilterReason.TheVariants.{BadChar, BadString, Unexpected, TooLong, TooDeep}
use Rattle.flt_syntax.specs.declared.token.Kind.{Kind}
use Rattle.flt_syntax.specs.declared.token.Token.{Token}

-- the bytes that a filter has at most, and the parentheses, negations and calls that are open at once
unfoldable pub most_bytes : ℕ
most_bytes = 4096

unfoldable pub most_open : ℕ
most_open = 64

abbrev pub kinds_of : List Token → List Kind
kinds_of ts = map (λ t. t.kind) ts

-- the text is this filter
pub record IsFilterText (text : List ℕ) (filter : Written) : Type 0 where
  pub short : length text ≤ most_bytes
  pub tokens : List Token
  pub lexed : tokens_of text ≡ Ok tokens
  pub parsed : IsFilter most_open (kinds_of tokens) filter

-- some filter begins with these tokens
abbrev pub BeginsFilter : ℕ → List Kind → Type 0
BeginsFilter limit front =
    (filter : Written) × (rest : List Kind) × IsFilter limit (front ++ rest) filter

-- the first fault of tokens without a tree stands behind those in front, where these are the others: no filter, however
-- deep, has this token there, or ends there; or only filters have it in which more are open at once
abbrev pub IsFault : ℕ → List Kind → List Kind → FilterReason → Type 0
IsFault limit front [] Unexpected =
    BeginsFilter limit front × ((filter : Written) (any : ℕ) → IsFilter any front filter → ⊥)
IsFault limit front (k ∷ rest) Unexpected =
    BeginsFilter limit front × ((any : ℕ) → BeginsFilter any (front ++ k ∷ []) → ⊥)
IsFault limit front (k ∷ rest) TooDeep =
    BeginsFilter limit front × (BeginsFilter limit (front ++ k ∷ []) → ⊥)
    × ((any : ℕ) × BeginsFilter any (front ++ k ∷ []))
IsFault limit front rest reason = ⊥

-- the place of the first of these tokens, or the text's length behind the last
abbrev pub place_of : List Token → ℕ → ℕ
place_of [] end = end
place_of (t ∷ rest) end = t.at

-- the first fault of the tokens of a text of some length
pub record IsTokenFault (end : ℕ) (tokens : List Token) (fault : FilterFault) : Type 0 where
  pub front : List Token
  pub rest : List Token
  pub parts : tokens ≡ front ++ rest
  pub place : fault.at ≡ place_of rest end
  pub first : IsFault most_open (kinds_of front) (kinds_of rest) fault.reason

-- the first fault of a text: that it is too long; else the first byte or string that is no token; else the first token
-- that no filter has there, or that no filter has there in which so few are open at once
abbrev pub IsLexicalFault : List ℕ → FilterFault → Type 0
IsLexicalFault text fault = (length text ≤ most_bytes) × (tokens_of text ≡ Err fault)

abbrev pub IsSyntaxFault : List ℕ → FilterFault → Type 0
IsSyntaxFault text fault =
    (length text ≤ most_bytes)
    × ((tokens : List Token) × (tokens_of text ≡ Ok tokens)
    × IsTokenFault (length text) tokens fault)

abbrev pub IsFaultFor : FilterReason → List ℕ → FilterFault → Type 0
IsFaultFor TooLong text fault = (most_bytes < length text) × (fault.at ≡ most_bytes)
IsFaultFor BadChar text fault = IsLexicalFault text fault
IsFaultFor BadString text fault = IsLexicalFault text fault
IsFaultFor Unexpected text fault = IsSyntaxFault text fault
IsFaultFor TooDeep text fault = IsSyntaxFault text fault
IsFaultFor reason text fault = ⊥

abbrev pub IsFirstFault : List ℕ → FilterFault → Type 0
IsFirstFault text fault = IsFaultFor fault.reason text fault

-- what `parse` may answer in place of a tree
abbrev pub IsRefusal : List ℕ → FilterError → Type 0
IsRefusal text NoMemory = Unit {0}
IsRefusal text (Fault fault) = IsFirstFault text fault
