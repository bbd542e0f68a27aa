-- What the parser answers, in the words of the grammar.
use Rattle.std.proofs.Common.{◌≡◌, ℕ, zero, suc, ◌+◌, ◌-◌, ◌<◌, ◌≤◌, ◌==◌, Bool, true, false, cond, drop, List, [], ◌∷◌, length, Option, Some, None, Result, Ok, Err, sym, ap, ◌∙◌, refl, subst}
use Rattle.std.specs.Char.{is_ascii_digit}
use Rattle.std.specs.Prelude.{IfErr, IfOk}
use Rattle.flt_syntax.specs.Filters.{IsFault, IsFaultFor, IsFilterText, IsLexicalFault, IsSyntaxFault, IsRefusal, kinds_of, most_bytes, most_open}
use Rattle.flt_syntax.specs.Grammar.{IsFilter}
use Rattle.flt_parse.specs.Parser.Reading.{State, Go, Answer, Whole, Bad, ended, start, step, then_go, whole}
use Rattle.flt_parse.specs.Parser.Answers.{IsParseError, IsReadError, refused, tokens_read}
use Rattle.flt_parse.specs.Parser.States.{IsMove, IsWhole}
use Rattle.flt_syntax.specs.Letters.{is_blank}
use Rattle.flt_syntax.specs.Strings.{raw_inside, string_inside}
use Rattle.flt_syntax.specs.Tokens.{IsTokensError, before, bracket_token, digits_lexeme, first_sign, lexeme, mode_behind, next_place, plain_token, sign_lexeme, text_lexeme, then_read, token_at, tokens_from, tokens_of}
use Rattle.flt_syntax.specs.Written.{Written, written}
use Rattle.flt_syntax.specs.declared.ast.Ast.{Ast}
use Rattle.flt_syntax.specs.declared.fault.FilterError.{FilterError}
use Rattle.flt_syntax.specs.declared.fault.FilterError.TheVariants as errors
use Rattle.flt_syntax.specs.declared.fault.FilterFault.{FilterFault}
use Rattle.flt_syntax.specs.declared.fault.FilterReason.{FilterReason}
use Rattle.flt_syntax.specs.declared.fault.FilterReason.TheVariants.{BadChar, BadString, Unexpected, TooLong, TooDeep}
use Rattle.flt_parse.specs.declared.state.Refusal.{Refusal}
use Rattle.flt_parse.specs.declared.state.Refusal.TheVariants.{Fault, NoMemory}
use Rattle.flt_syntax.specs.declared.token.Kind.{Kind}
use Rattle.flt_syntax.specs.declared.token.Kind.TheVariants as kinds
use Rattle.flt_syntax.specs.declared.token.Lexeme.{Lexeme}
use Rattle.flt_syntax.specs.declared.token.Mode.{Mode}
use Rattle.flt_syntax.specs.declared.token.Mode.TheVariants.{Plain, BehindHash, InBrackets}
use Rattle.flt_syntax.specs.declared.token.Sign.{Sign}
use Rattle.flt_syntax.specs.declared.token.Token.{Token}
use Rattle.flt_parse.proofs.Stops.{read_fault, read_filter}

pub read_on : (s next : State) (t : Token) (ts : List Token) → step most_open s t.kind ≡ Go next → tokens_read most_open s (t ∷ ts) ≡ tokens_read most_open next ts
read_on s next t ts e = ap (λ m. then_go m (λ n. tokens_read most_open n ts) (λ r. Bad r (t ∷ ts))) e

pub read_stop : (s : State) (t : Token) (ts : List Token) (end : ℕ) (answer : Answer Token) (refusal : Refusal) → IsMove (step most_open s t.kind) (Err refusal)
    → answer ≡ tokens_read most_open s (t ∷ ts) → IsReadError end answer (refused refusal t.at)
read_stop s t ts end answer (Fault r) h e = (t ∷ ts, e ∙ ap (λ m. then_go m (λ n. tokens_read most_open n ts) (λ q. Bad q (t ∷ ts))) h, refl)
read_stop s t ts end answer NoMemory h e = tt

pub read_whole : (s : State) (ast : Ast) (answer : Answer Token) → IsWhole (whole s) (Ok ast) → answer ≡ tokens_read most_open s [] → answer ≡ Whole (written ast)
read_whole s ast answer h e = e ∙ ap ended h

pub read_cut : (s : State) (end : ℕ) (answer : Answer Token) (refusal : Refusal) → IsWhole (whole s) (Err refusal) → answer ≡ tokens_read most_open s []
    → IsReadError end answer (refused refusal end)
read_cut s end answer (Fault r) h e = ([], e ∙ ap ended h.0 ∙ ap (λ q. Bad q []) (sym h.1), refl)
read_cut s end answer NoMemory h e = tt

pub filter_read : (ts : List Token) (t : Written) → tokens_read most_open start ts ≡ Whole t → IsFilter most_open (kinds_of ts) t
filter_read ts t e = read_filter ts t e

pub error_read : (end : ℕ) (ts : List Token) (e : FilterError) → IsReadError end (tokens_read most_open start ts) e → IsParseError end ts e
error_read end ts (errors.Fault fault) (rest, bad, there) = read_fault end ts rest fault bad there
error_read end ts errors.NoMemory h = tt

-- the text
pub of_filter : (text : List ℕ) (ts : List Token) (t : Written) → length text ≤ most_bytes → tokens_of text ≡ Ok ts → IsFilter most_open (kinds_of ts) t → IsFilterText text t
of_filter text ts t short lexed is = record { short = short; tokens = ts; lexed = lexed; parsed = is }

pub of_length : (text : List ℕ) → most_bytes < length text → IsRefusal text (errors.Fault (record { at = most_bytes; reason = TooLong }))
of_length text long = (long, refl)

-- the reasons of a text that has no tokens
abbrev IsLexicalReason : FilterReason → Type 0
IsLexicalReason BadChar = Unit {0}
IsLexicalReason BadString = Unit {0}
IsLexicalReason r = ⊥

both : {A : Type 0} (P : A → Type 0) (t : Bool) (x y : A) → P x → P y → P (cond t x y)
both P true x y p q = p
both P false x y p q = q

abbrev TokenGood : Result Lexeme FilterReason → Type 0
TokenGood (Ok l) = Unit {0}
TokenGood (Err r) = IsLexicalReason r

-- the same as a record, so that its token is found
record IsTokenGood (token : Result Lexeme FilterReason) : Type 0 where
  good : TokenGood token

text_good : (at before : ℕ) (o : Option (List ℕ × ℕ)) → IsTokenGood (text_lexeme at before o)
text_good at before None = record { good = tt }
text_good at before (Some s) = record { good = tt }

sign_good : (mode : Mode) (at : ℕ) (bytes : List ℕ) (o : Option Sign) → IsTokenGood (sign_lexeme mode at bytes o)
sign_good mode at bytes None = record { good = tt }
sign_good mode at bytes (Some s) = record { good = tt }

lexed_good : (l : Lexeme) → IsTokenGood (Ok l)
lexed_good l = record { good = tt }

no_char : IsTokenGood (Err BadChar)
no_char = record { good = tt }

plain_good : (mode : Mode) (at : ℕ) (bytes : List ℕ) → IsTokenGood (plain_token mode at bytes)
plain_good mode at bytes =
    both IsTokenGood _ _ _ (text_good at 1 (string_inside 0 (drop 1 bytes)))
    (both IsTokenGood _ _ _ (text_good at 2 (raw_inside (drop 2 bytes)))
    (both IsTokenGood _ _ _ (lexed_good _) (sign_good mode at bytes (first_sign bytes))))

bracket_good : (at : ℕ) (bytes : List ℕ) → IsTokenGood (bracket_token at bytes)
bracket_good at [] = no_char
bracket_good at (b ∷ rest) =
    both IsTokenGood (is_ascii_digit b) _ _ (lexed_good (digits_lexeme (b ∷ rest)))
    (both IsTokenGood (b == 45) _ _ (lexed_good (lexeme kinds.Minus 1))
    (both IsTokenGood (b == 58) _ _ (lexed_good (lexeme kinds.Colon 1))
    (both IsTokenGood (b == 44) _ _ (lexed_good (lexeme (kinds.NextRange (next_place at (b ∷ rest))) 1))
    (both IsTokenGood (b == 93) _ _ (lexed_good (lexeme kinds.CloseBracket 1)) no_char))))

token_good : (mode : Mode) (at : ℕ) (bytes : List ℕ) → IsTokenGood (token_at mode at bytes)
token_good Plain at bytes = plain_good Plain at bytes
token_good BehindHash at bytes = plain_good BehindHash at bytes
token_good InBrackets at bytes = bracket_good at bytes

abbrev ReadGood : Result (List Token) FilterFault → Type 0
ReadGood (Ok ts) = Unit {0}
ReadGood (Err fault) = IsLexicalReason fault.reason

before_good : (t : Token) (r : Result (List Token) FilterFault) → ReadGood r → ReadGood (before t r)
before_good t (Ok ts) h = tt
before_good t (Err fault) h = h

then_good : (blank : Bool) (mode : Mode) (at : ℕ) (token : Result Lexeme FilterReason) (rest : Mode → ℕ → Result (List Token) FilterFault)
    → TokenGood token → ((m : Mode) (n : ℕ) → ReadGood (rest m n)) → ReadGood (then_read blank mode at token rest)
then_good true mode at token rest good more = more mode 0
then_good false mode at (Ok l) rest good more = before_good (record { at = at; kind = l.kind }) (rest (mode_behind l.kind) (l.width - 1)) (more (mode_behind l.kind) (l.width - 1))
then_good false mode at (Err r) rest good more = good

from_good : (bytes : List ℕ) (mode : Mode) (skip at : ℕ) → ReadGood (tokens_from mode skip at bytes)
from_good [] mode skip at = tt
from_good (b ∷ rest) mode (suc skip) at = from_good rest mode skip (at + 1)
from_good (b ∷ rest) mode zero at =
    then_good (is_blank b) mode at (token_at mode at (b ∷ rest)) (λ next skip. tokens_from next skip (at + 1) rest) (token_good mode at (b ∷ rest)).good (λ next skip. from_good rest next skip (at + 1))

tokens_good : (text : List ℕ) → ReadGood (tokens_of text)
unfolding tokens_of
tokens_good text = from_good text Plain 0 0

lexical_for : (r : FilterReason) (text : List ℕ) (fault : FilterFault) → IsLexicalReason r → IsLexicalFault text fault → IsFaultFor r text fault
lexical_for BadChar text fault h is = is
lexical_for BadString text fault h is = is
lexical_for r text fault h is = absurd h

pub of_lexical : (text : List ℕ) (e : FilterError) → length text ≤ most_bytes → IsTokensError (tokens_of text) e → IsRefusal text e
of_lexical text errors.NoMemory short h = tt
of_lexical text (errors.Fault fault) short h = lexical_for fault.reason text fault (subst ReadGood h (tokens_good text)) (short, h)

-- the reasons of tokens that are no filter
abbrev IsSyntaxReason : FilterReason → Type 0
IsSyntaxReason Unexpected = Unit {0}
IsSyntaxReason TooDeep = Unit {0}
IsSyntaxReason r = ⊥

syntax_reason : (limit : ℕ) (front rest : List Kind) (r : FilterReason) → IsFault limit front rest r → IsSyntaxReason r
syntax_reason limit front [] Unexpected h = tt
syntax_reason limit front (k ∷ rest) Unexpected h = tt
syntax_reason limit front (k ∷ rest) TooDeep h = tt
syntax_reason limit front [] r h = absurd h
syntax_reason limit front (k ∷ rest) r h = absurd h

syntax_for : (r : FilterReason) (text : List ℕ) (fault : FilterFault) → IsSyntaxReason r → IsSyntaxFault text fault → IsFaultFor r text fault
syntax_for Unexpected text fault h is = is
syntax_for TooDeep text fault h is = is
syntax_for r text fault h is = absurd h

pub of_syntax : (text : List ℕ) (ts : List Token) (e : FilterError) → length text ≤ most_bytes → tokens_of text ≡ Ok ts → IsParseError (length text) ts e → IsRefusal text e
of_syntax text ts errors.NoMemory short lexed h = tt
of_syntax text ts (errors.Fault fault) short lexed h =
    syntax_for fault.reason text fault (syntax_reason most_open (kinds_of h.front) (kinds_of h.rest) fault.reason h.first) (short, (ts, lexed, h))

-- the text that these tokens are of
pub text_read : (text : List ℕ) (ts : List Token) (r : Result Ast FilterError) → length text ≤ 4096 → tokens_of text ≡ Ok ts
    → IfOk r (λ ast. tokens_read most_open start ts ≡ Whole (written ast)) → IfOk r (λ ast. IsFilterText text (written ast))
unfolding most_bytes
text_read text ts (Ok ast) short lexed h = of_filter text ts (written ast) short lexed (filter_read ts (written ast) h)
text_read text ts (Err e) short lexed h = tt

pub text_refused : (text : List ℕ) (ts : List Token) (r : Result Ast FilterError) → length text ≤ most_bytes → tokens_of text ≡ Ok ts
    → IfErr r (IsReadError (length text) (tokens_read most_open start ts)) → IfErr r (IsRefusal text)
text_refused text ts (Ok ast) short lexed h = tt
text_refused text ts (Err e) short lexed h = of_syntax text ts e short lexed (error_read (length text) ts e h)
