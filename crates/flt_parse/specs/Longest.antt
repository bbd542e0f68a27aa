-- Of the signs that stand at a place of a filter's text the longest one is its token (wireshark-filter(4)).
use Rattle.std.specs.Prelude.{◌≡◌, ◌≤◌, ◌↔◌, ℕ, suc, ◌+◌, Bool, true, false, List, ◌++◌, length, drop, slice_get, Some, Ok}
use Rattle.flt_syntax.specs.Tokens.{first_sign, sign_kind, sign_text, tokens_of}
use Rattle.flt_syntax.specs.declared.token.Mode.{Mode}
use Rattle.flt_syntax.specs.declared.token.Sign.{Sign}
use Rattle.flt_syntax.specs.declared.token.Sign.TheVariants as signs
use Rattle.flt_syntax.specs.declared.token.Token.{Token}

-- bytes begin with a sign
abbrev pub BeginWith : List ℕ → Sign → Type 0
BeginWith bytes s = (rest : List ℕ) × (bytes ≡ sign_text s ++ rest)

-- and with none that is longer
abbrev pub BeginWithLongest : List ℕ → Sign → Type 0
BeginWithLongest bytes s = BeginWith bytes s
    × ((other : Sign) → BeginWith bytes other → length (sign_text other) ≤ length (sign_text s))

-- the signs that stand neither in brackets nor in words
abbrev pub is_operator : Sign → Bool
is_operator signs.Minus = false
is_operator signs.Comma = false
is_operator signs.CloseBracket = false
is_operator s = true

-- the sign in front is the longest one, and there is one where a sign stands there
abbrev pub FirstIsLongest : Type 0
FirstIsLongest =
    (bytes : List ℕ) (s : Sign) → (first_sign bytes ≡ Some s) ↔ BeginWithLongest bytes s

-- a token of a text, where a sign of operators stands, is the longest sign that stands there, and the next token begins
-- behind it
abbrev pub TokensAreLongest : Type 0
TokensAreLongest = (text : List ℕ) (tokens : List Token) (n : ℕ) (t : Token) (s : Sign)
    → tokens_of text ≡ Ok tokens → slice_get tokens n ≡ Some t → is_operator s ≡ true
    → BeginWith (drop t.at text) s
    → (longest : Sign) × BeginWithLongest (drop t.at text) longest
    × ((mode : Mode) × (next : ℕ) × (t.kind ≡ sign_kind mode t.at next longest))
    × ((behind : Token) → slice_get tokens (suc n) ≡ Some behind
    → t.at + length (sign_text longest) ≤ behind.at)
