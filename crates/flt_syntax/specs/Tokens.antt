-- The tokens of a filter's text. Between them stand spaces, tabs, carriage returns and line feeds; the longest counts.
use Rattle.std.specs.Prelude.{◌≡◌, ℕ, zero, suc, ◌+◌, ◌-◌, ◌==◌, Bool, true, false, ◌&&◌, nat_eq, if◌then◌else◌, List, [], ◌∷◌, length, take, drop, codes, Option, Some, None, Result, Ok, Err}
use Rattle.std.specs.Char.{is_ascii_digit}
use Rattle.std.specs.List.{find, starts_with}
use Rattle.std.specs.Str.{bytes_eq}
use Rattle.std.specs.Str.Parse.{digits_value}
use Rattle.flt_syntax.specs.Letters.{is_blank, begins_word, blanks, word_len, digits_len, is_number, opening}
use Rattle.flt_syntax.specs.Strings.{string_inside, raw_inside}
use Rattle.flt_syntax.specs.declared.ast.Arithmetic.TheVariants as arithmetic
use Rattle.flt_syntax.specs.declared.ast.Choice.TheVariants as choices
use Rattle.flt_syntax.specs.declared.ast.Function.{Function}
use Rattle.flt_syntax.specs.declared.ast.Function.TheVariants.{Len, Count, Upper, Lower, Min, Max}
use Rattle.flt_syntax.specs.declared.ast.Negation.TheVariants as negations
use Rattle.flt_syntax.specs.declared.ast.Operator.TheVariants as operators
use Rattle.flt_syntax.specs.declared.fault.FilterError.{FilterError}
use Rattle.flt_syntax.specs.declared.fault.FilterError.TheVariants.{Fault, NoMemory}
use Rattle.flt_syntax.specs.declared.fault.FilterFault.{FilterFault}
use Rattle.flt_syntax.specs.declared.fault.FilterReason.{FilterReason}
use Rattle.flt_syntax.specs.declared.fault.FilterReason.TheVariants.{BadChar, BadString}
use Rattle.flt_syntax.specs.declared.token.Join.TheVariants as joins
use Rattle.flt_syntax.specs.declared.token.Keyword.{Keyword}
use Rattle.flt_syntax.specs.declared.token.Keyword.TheVariants as words
use Rattle.flt_syntax.specs.declared.token.Kind.{Kind}
use Rattle.flt_syntax.specs.declared.token.Kind.TheVariants as kinds
use Rattle.flt_syntax.specs.declared.token.Lexeme.{Lexeme}
use Rattle.flt_syntax.specs.declared.token.Mode.{Mode}
use Rattle.flt_syntax.specs.declared.token.Mode.TheVariants.{Plain, BehindHash, InBrackets}
use Rattle.flt_syntax.specs.declared.token.Sign.{Sign}
use Rattle.flt_syntax.specs.declared.token.Sign.TheVariants as signs
use Rattle.flt_syntax.specs.declared.token.Token.{Token}

-- how the signs are written
abbrev pub sign_text : Sign → List ℕ
sign_text signs.AllEqual = codes "==="
sign_text signs.AnyUnequal = codes "!=="
sign_text signs.Equal = codes "=="
sign_text signs.Unequal = codes "!="
sign_text signs.AtLeast = codes ">="
sign_text signs.AtMost = codes "<="
sign_text signs.And = codes "&&"
sign_text signs.Or = codes "||"
sign_text signs.Xor = codes "^^"
sign_text signs.DotDot = codes ".."
sign_text signs.Open = codes "("
sign_text signs.Close = codes ")"
sign_text signs.OpenBrace = codes "{"
sign_text signs.CloseBrace = codes "}"
sign_text signs.OpenBracket = codes "["
sign_text signs.CloseBracket = codes "]"
sign_text signs.Comma = codes ","
sign_text signs.Hash = codes "#"
sign_text signs.Greater = codes ">"
sign_text signs.Less = codes "<"
sign_text signs.Tilde = codes "~"
sign_text signs.Mask = codes "&"
sign_text signs.Not = codes "!"
sign_text signs.Plus = codes "+"
sign_text signs.Minus = codes "-"
sign_text signs.Star = codes "*"

-- all of them, each before those that it begins with
abbrev pub all_signs : List Sign
all_signs =
    signs.AllEqual ∷ signs.AnyUnequal ∷ signs.Equal ∷ signs.Unequal ∷ signs.AtLeast ∷ signs.AtMost
    ∷ signs.And ∷ signs.Or ∷ signs.Xor
    ∷ signs.DotDot ∷ signs.Open ∷ signs.Close ∷ signs.OpenBrace ∷ signs.CloseBrace
    ∷ signs.OpenBracket ∷ signs.CloseBracket ∷ signs.Comma ∷ signs.Hash
    ∷ signs.Greater ∷ signs.Less ∷ signs.Tilde ∷ signs.Mask ∷ signs.Not ∷ signs.Plus ∷ signs.Minus
    ∷ signs.Star ∷ []

-- the longest sign in front
abbrev pub first_sign : List ℕ → Option Sign
first_sign bytes = find (λ s. starts_with nat_eq bytes (sign_text s)) all_signs

-- what a sign is at a place, where the next token stands at another
abbrev pub bracket_kind : Mode → ℕ → ℕ → Kind
bracket_kind BehindHash at next = kinds.OpenLayers next
bracket_kind mode at next = kinds.OpenRanges at next

abbrev pub sign_kind : Mode → ℕ → ℕ → Sign → Kind
sign_kind mode at next signs.AllEqual = kinds.Compares operators.AllEqual at
sign_kind mode at next signs.AnyUnequal = kinds.Compares operators.AnyUnequal at
sign_kind mode at next signs.Equal = kinds.Compares operators.Equal at
sign_kind mode at next signs.Unequal = kinds.Compares operators.Unequal at
sign_kind mode at next signs.AtLeast = kinds.Compares operators.AtLeast at
sign_kind mode at next signs.AtMost = kinds.Compares operators.AtMost at
sign_kind mode at next signs.And = kinds.Joins joins.And
sign_kind mode at next signs.Or = kinds.Joins joins.Or
sign_kind mode at next signs.Xor = kinds.Joins joins.Xor
sign_kind mode at next signs.DotDot = kinds.DotDot
sign_kind mode at next signs.Open = kinds.Open
sign_kind mode at next signs.Close = kinds.Close
sign_kind mode at next signs.OpenBrace = kinds.OpenBrace
sign_kind mode at next signs.CloseBrace = kinds.CloseBrace
sign_kind mode at next signs.OpenBracket = bracket_kind mode at next
sign_kind mode at next signs.CloseBracket = kinds.CloseBracket
sign_kind mode at next signs.Comma = kinds.Comma
sign_kind mode at next signs.Hash = kinds.Hash
sign_kind mode at next signs.Greater = kinds.Compares operators.Greater at
sign_kind mode at next signs.Less = kinds.Compares operators.Less at
sign_kind mode at next signs.Tilde = kinds.Matches at
sign_kind mode at next signs.Mask = kinds.Mask at
sign_kind mode at next signs.Not = kinds.Negates negations.Sign
sign_kind mode at next signs.Plus = kinds.Computes arithmetic.Sum at
sign_kind mode at next signs.Minus = kinds.Computes arithmetic.Difference at
sign_kind mode at next signs.Star = kinds.Computes arithmetic.Product at

-- how the reserved words are written
abbrev pub keyword_text : Keyword → List ℕ
keyword_text words.And = codes "and"
keyword_text words.Or = codes "or"
keyword_text words.Xor = codes "xor"
keyword_text words.Not = codes "not"
keyword_text words.Any = codes "any"
keyword_text words.All = codes "all"
keyword_text words.In = codes "in"
keyword_text words.Contains = codes "contains"
keyword_text words.Matches = codes "matches"
keyword_text words.Eq = codes "eq"
keyword_text words.Ne = codes "ne"
keyword_text words.Gt = codes "gt"
keyword_text words.Lt = codes "lt"
keyword_text words.Ge = codes "ge"
keyword_text words.Le = codes "le"
keyword_text words.AnyEq = codes "any_eq"
keyword_text words.AllNe = codes "all_ne"
keyword_text words.AllEq = codes "all_eq"
keyword_text words.AnyNe = codes "any_ne"

abbrev pub keywords : List Keyword
keywords =
    words.And ∷ words.Or ∷ words.Xor ∷ words.Not ∷ words.Any ∷ words.All ∷ words.In ∷ words.Contains
    ∷ words.Matches ∷ words.Eq ∷ words.Ne
    ∷ words.Gt ∷ words.Lt ∷ words.Ge ∷ words.Le ∷ words.AnyEq ∷ words.AllNe ∷ words.AllEq
    ∷ words.AnyNe ∷ []

abbrev pub keyword_of : List ℕ → Option Keyword
keyword_of word = find (λ k. bytes_eq (keyword_text k) word) keywords

abbrev pub keyword_kind : ℕ → Keyword → Kind
keyword_kind at words.And = kinds.Joins joins.And
keyword_kind at words.Or = kinds.Joins joins.Or
keyword_kind at words.Xor = kinds.Joins joins.Xor
keyword_kind at words.Not = kinds.Negates negations.Word
keyword_kind at words.Any = kinds.Chooses choices.Any
keyword_kind at words.All = kinds.Chooses choices.All
keyword_kind at words.In = kinds.In
keyword_kind at words.Contains = kinds.Compares operators.Contains at
keyword_kind at words.Matches = kinds.Matches at
keyword_kind at words.Eq = kinds.Compares operators.Equal at
keyword_kind at words.Ne = kinds.Compares operators.Unequal at
keyword_kind at words.Gt = kinds.Compares operators.Greater at
keyword_kind at words.Lt = kinds.Compares operators.Less at
keyword_kind at words.Ge = kinds.Compares operators.AtLeast at
keyword_kind at words.Le = kinds.Compares operators.AtMost at
keyword_kind at words.AnyEq = kinds.Compares operators.AnyEqual at
keyword_kind at words.AllNe = kinds.Compares operators.AllUnequal at
keyword_kind at words.AllEq = kinds.Compares operators.AllEqual at
keyword_kind at words.AnyNe = kinds.Compares operators.AnyUnequal at

-- how the functions are written, which are functions where `(` follows
abbrev pub function_text : Function → List ℕ
function_text Len = codes "len"
function_text Count = codes "count"
function_text Upper = codes "upper"
function_text Lower = codes "lower"
function_text Min = codes "min"
function_text Max = codes "max"

abbrev pub functions : List Function
functions = Len ∷ Count ∷ Upper ∷ Lower ∷ Min ∷ Max ∷ []

abbrev pub function_of : List ℕ → Option Function
function_of word = find (λ f. bytes_eq (function_text f) word) functions

abbrev pub lexeme : Kind → ℕ → Lexeme
lexeme kind width = record { kind = kind; width = width }

-- a word at a place: a layer's number behind `#`, a reserved word, a function with its `(`, or any other word
abbrev pub name_or_call : ℕ → List ℕ → Option Function → Option ℕ → Lexeme
name_or_call at word (Some f) (Some more) = lexeme (kinds.Calls f at) (length word + more)
name_or_call at word f more = lexeme (kinds.Name (record { at = at; text = word })) (length word)

abbrev pub reserved_or : ℕ → List ℕ → List ℕ → Option Keyword → Lexeme
reserved_or at word rest (Some k) = lexeme (keyword_kind at k) (length word)
reserved_or at word rest None = name_or_call at word (function_of word) (opening rest)

abbrev pub is_behind_hash : Mode → Bool
is_behind_hash BehindHash = true
is_behind_hash mode = false

abbrev pub word_lexeme : Mode → ℕ → List ℕ → List ℕ → Lexeme
word_lexeme mode at word rest =
    if is_behind_hash mode && is_number word
    then lexeme (kinds.LayerNumber (record { at = at; nth = digits_value 10 word })) (length word)
    else reserved_or at word rest (keyword_of word)

-- a string at a place, whose inside begins some bytes behind it
abbrev pub text_lexeme : ℕ → ℕ → Option (List ℕ × ℕ) → Result Lexeme FilterReason
text_lexeme at before None = Err BadString
text_lexeme at before (Some s) =
    Ok (lexeme (kinds.Text (record { at = at; bytes = s.0 })) (before + s.1))

-- where the token behind the first byte begins
abbrev pub next_place : ℕ → List ℕ → ℕ
next_place at bytes = at + 1 + blanks (drop 1 bytes)

abbrev pub sign_lexeme : Mode → ℕ → List ℕ → Option Sign → Result Lexeme FilterReason
sign_lexeme mode at bytes None = Err BadChar
sign_lexeme mode at bytes (Some s) =
    Ok (lexeme (sign_kind mode at (next_place at bytes) s) (length (sign_text s)))

-- the token that begins the text from a place on, outside brackets. What begins with `r"` is a raw string
abbrev pub plain_token : Mode → ℕ → List ℕ → Result Lexeme FilterReason
plain_token mode at bytes =
    if starts_with nat_eq bytes (codes "\"") then text_lexeme at 1 (string_inside 0 (drop 1 bytes))
    else if starts_with nat_eq bytes (codes "r\"") then text_lexeme at 2 (raw_inside (drop 2 bytes))
    else if begins_word bytes
    then Ok (word_lexeme mode at (take (word_len bytes) bytes) (drop (word_len bytes) bytes))
    else sign_lexeme mode at bytes (first_sign bytes)

-- one to nine digits are a number
abbrev pub digits_kind : List ℕ → Kind
digits_kind text = if is_number text then kinds.Number (digits_value 10 text) else kinds.LongNumber

abbrev pub digits_lexeme : List ℕ → Lexeme
digits_lexeme bytes = lexeme (digits_kind (take (digits_len bytes) bytes)) (digits_len bytes)

-- the token from a place on in brackets: digits, `-`, `:`, `,`, or the `]` that ends them
abbrev pub bracket_token : ℕ → List ℕ → Result Lexeme FilterReason
bracket_token at [] = Err BadChar
bracket_token at (b ∷ rest) =
    if is_ascii_digit b then Ok (digits_lexeme (b ∷ rest))
    else if b == 45 then Ok (lexeme kinds.Minus 1)
    else if b == 58 then Ok (lexeme kinds.Colon 1)
    else if b == 44 then Ok (lexeme (kinds.NextRange (next_place at (b ∷ rest))) 1)
    else if b == 93 then Ok (lexeme kinds.CloseBracket 1)
    else Err BadChar

abbrev pub token_at : Mode → ℕ → List ℕ → Result Lexeme FilterReason
token_at InBrackets at bytes = bracket_token at bytes
token_at mode at bytes = plain_token mode at bytes

-- how the text is read behind a token
abbrev pub mode_behind : Kind → Mode
mode_behind kinds.Hash = BehindHash
mode_behind (kinds.OpenRanges at next) = InBrackets
mode_behind (kinds.OpenLayers next) = InBrackets
mode_behind (kinds.NextRange next) = InBrackets
mode_behind kinds.Colon = InBrackets
mode_behind kinds.Minus = InBrackets
mode_behind (kinds.Number n) = InBrackets
mode_behind kinds.LongNumber = InBrackets
mode_behind kind = Plain

-- a token before others
abbrev pub before : Token → Result (List Token) FilterFault → Result (List Token) FilterFault
before t (Ok ts) = Ok (t ∷ ts)
before t (Err fault) = Err fault

-- a blank is passed over; behind a token the text is read on; the first byte or string that is no token is the fault
abbrev pub then_read : Bool → Mode → ℕ → Result Lexeme FilterReason
    → (Mode → ℕ → Result (List Token) FilterFault) → Result (List Token) FilterFault
then_read true mode at token rest = rest mode 0
then_read false mode at (Ok l) rest =
    before (record { at = at; kind = l.kind }) (rest (mode_behind l.kind) (l.width - 1))
then_read false mode at (Err reason) rest = Err (record { at = at; reason = reason })

-- the tokens from a place on, or the first fault among them. So many bytes in front belong to the token before
abbrev pub tokens_from : Mode → ℕ → ℕ → List ℕ → Result (List Token) FilterFault
tokens_from mode skip at [] = Ok []
tokens_from mode (suc skip) at (b ∷ rest) = tokens_from mode skip (at + 1) rest
tokens_from mode zero at (b ∷ rest) =
    then_read (is_blank b) mode at (token_at mode at (b ∷ rest)) (λ next skip.
    tokens_from next skip (at + 1) rest)

unfoldable pub tokens_of : List ℕ → Result (List Token) FilterFault
tokens_of text = tokens_from Plain 0 0 text

-- why no token is read at a place, and why no tokens are read
abbrev pub IsTokenError : ℕ → Result Lexeme FilterReason → FilterError → Type 0
IsTokenError at token NoMemory = Unit {0}
IsTokenError at token (Fault fault) = (token ≡ Err fault.reason) × (fault.at ≡ at)

abbrev pub IsTokensError : Result (List Token) FilterFault → FilterError → Type 0
IsTokensError tokens NoMemory = Unit {0}
IsTokensError tokens (Fault fault) = tokens ≡ Err fault
