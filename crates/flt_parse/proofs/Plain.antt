-- A token at a place, by what stands in front.
use Rattle.std.proofs.Common.{◌≡◌, ℕ, ◌+◌, ◌-◌, ◌<◌, ◌≤◌, true, false, nat_eq, List, length, take, drop, codes, length-take, length-drop, Result, Ok, Err, arith, ap, sym, ◌∙◌, ◌⊎◌, inl, inr, subst}
use Rattle.std.specs.List.{starts_with}
use Rattle.std.specs.Prelude.{IfErr, IfOk}
use Rattle.flt_syntax.specs.Letters.{begins_word, word_len}
use Rattle.flt_syntax.specs.Strings.{raw_inside, string_inside}
use Rattle.flt_syntax.specs.Tokens.{IsTokenError, bracket_token, first_sign, plain_token, sign_lexeme, text_lexeme, token_at, word_lexeme}
use Rattle.flt_syntax.specs.declared.fault.FilterError.{FilterError}
use Rattle.flt_syntax.specs.declared.fault.FilterReason.{FilterReason}
use Rattle.flt_syntax.specs.declared.token.Lexeme.{Lexeme}
use Rattle.flt_syntax.specs.declared.token.Mode.{Mode}
use Rattle.flt_syntax.specs.declared.token.Mode.TheVariants.{Plain, BehindHash, InBrackets}
use Rattle.flt_parse.specs.Parser.Lexemes.{IsToken}

abbrev pub Answered : Type 0
Answered = Result Lexeme FilterError

pub of_string : (mode : Mode) (at most : ℕ) (bytes : List ℕ) (r : Answered) → starts_with nat_eq bytes (codes "\"") ≡ true
    → IsToken at most (text_lexeme at 1 (string_inside 0 (drop 1 bytes))) r → IsToken at most (plain_token mode at bytes) r
of_string mode at most bytes r quote is = rw quote is

pub of_raw : (mode : Mode) (at most : ℕ) (bytes : List ℕ) (r : Answered) → starts_with nat_eq bytes (codes "\"") ≡ false → starts_with nat_eq bytes (codes "r\"") ≡ true
    → IsToken at most (text_lexeme at 2 (raw_inside (drop 2 bytes))) r → IsToken at most (plain_token mode at bytes) r
of_raw mode at most bytes r quote raw is = rw (quote, raw) is

pub of_word : (mode : Mode) (at most : ℕ) (bytes : List ℕ) (r : Answered) → starts_with nat_eq bytes (codes "\"") ≡ false → starts_with nat_eq bytes (codes "r\"") ≡ false
    → begins_word bytes ≡ true
    → IsToken at most (Ok (word_lexeme mode at (take (word_len bytes) bytes) (drop (word_len bytes) bytes))) r → IsToken at most (plain_token mode at bytes) r
of_word mode at most bytes r quote raw word is = rw (quote, raw, word) is

pub of_sign : (mode : Mode) (at most : ℕ) (bytes : List ℕ) (r : Answered) → starts_with nat_eq bytes (codes "\"") ≡ false → starts_with nat_eq bytes (codes "r\"") ≡ false
    → begins_word bytes ≡ false
    → IsToken at most (sign_lexeme mode at bytes (first_sign bytes)) r → IsToken at most (plain_token mode at bytes) r
of_sign mode at most bytes r quote raw word is = rw (quote, raw, word) is

-- the same where the bytes are those from the place on
pub placed : (at : ℕ) (token : List ℕ → Result Lexeme FilterReason) (bytes text : List ℕ) (r : Answered) → bytes ≡ drop at text → at ≤ length text
    → IsToken at (length bytes) (token bytes) r → IsToken at (length text - at) (token (drop at text)) r
placed at token bytes text r here inside is =
    let room : length bytes ≡ length text - at = ap length here ∙ length-drop at text in
    subst (λ b. IsToken at (length text - at) (token b) r) here (subst (λ m. IsToken at m (token bytes) r) room is)

-- a token of three facts
pub token_of : (at most : ℕ) (token : Result Lexeme FilterReason) (r : Answered) → IfOk r (λ l. token ≡ Ok l) → IfOk r (λ l. (0 < l.width) × (l.width ≤ most))
    → IfErr r (IsTokenError at token) → IsToken at most token r
token_of at most token (Ok l) is within why = (is, within.0, within.1)
token_of at most token (Err e) is within why = why

pub word_placed : (mode : Mode) (at : ℕ) (text word rest : List ℕ) (n : ℕ) (l : Lexeme) → word ≡ take (word_len text) text → n ≡ word_len text → n ≤ length text
    → rest ≡ drop n text → 0 < word_len text → l ≡ word_lexeme mode at word rest → (length word ≤ l.width) × (l.width ≤ length word + length rest)
    → IsToken at (length text) (Ok (word_lexeme mode at (take (word_len text) text) (drop (word_len text) text))) (Ok l)
word_placed mode at text word rest n l front size inside behind some is within =
    let short : length word ≡ word_len text = omega (arith, ap length front, length-take (word_len text) text) in
    let long : length rest ≡ length text - n = ap length behind ∙ length-drop n text in
    let same : word_lexeme mode at (take (word_len text) text) (drop (word_len text) text) ≡ l =
    sym (is ∙ ap (λ w. word_lexeme mode at w rest) front ∙ ap (word_lexeme mode at (take (word_len text) text)) (behind ∙ ap (λ k. drop k text) size)) in
    (ap Ok same, omega (arith, within.0), omega (arith, within.1))

pub in_brackets : (mode : Mode) (at most : ℕ) (bytes : List ℕ) (r : Answered) → mode ≡ InBrackets → IsToken at most (bracket_token at bytes) r → IsToken at most (token_at mode at bytes) r
in_brackets mode at most bytes r e is = subst (λ m. IsToken at most (token_at m at bytes) r) (sym e) is

pub outside_brackets : (mode : Mode) (at most : ℕ) (bytes : List ℕ) (r : Answered) → (mode ≡ Plain) ⊎ (mode ≡ BehindHash) → IsToken at most (plain_token mode at bytes) r
    → IsToken at most (token_at mode at bytes) r
outside_brackets Plain at most bytes r e is = is
outside_brackets BehindHash at most bytes r e is = is
outside_brackets InBrackets at most bytes r (inl e) is = cc
outside_brackets InBrackets at most bytes r (inr e) is = cc
