-- A text read token by token.
use Rattle.std.proofs.Common.{◌≡◌, ℕ, zero, suc, ◌+◌, ◌-◌, ◌<◌, true, false, List, [], ◌∷◌, ◌++◌, length, drop, get_or, Result, Ok, Err, add-zero, add-one, append_assoc, arith, sym, ap, ◌∙◌, refl}
use Rattle.std.proofs.lemmas.List.{drop-drop}
use Rattle.std.proofs.Math.Seq.{drop-cons}
use Rattle.flt_syntax.specs.Letters.{is_blank}
use Rattle.flt_syntax.specs.Tokens.{IsTokenError, IsTokensError, before, mode_behind, then_read, token_at, tokens_from, tokens_of}
use Rattle.flt_syntax.specs.declared.fault.FilterError.{FilterError}
use Rattle.flt_syntax.specs.declared.fault.FilterError.TheVariants.{Fault, NoMemory}
use Rattle.flt_syntax.specs.declared.fault.FilterFault.{FilterFault}
use Rattle.flt_syntax.specs.declared.fault.FilterReason.{FilterReason}
use Rattle.flt_syntax.specs.declared.token.Lexeme.{Lexeme}
use Rattle.flt_syntax.specs.declared.token.Mode.{Mode}
use Rattle.flt_syntax.specs.declared.token.Mode.TheVariants.{Plain}
use Rattle.flt_syntax.specs.declared.token.Token.{Token}

abbrev pub Read : Type 0
Read = Result (List Token) FilterFault

-- what is read behind some tokens
abbrev pub all_before : List Token → Read → Read
all_before ts (Ok us) = Ok (ts ++ us)
all_before ts (Err fault) = Err fault

-- the bytes that belong to the token before are passed over
passed : (mode : Mode) (n at : ℕ) (bytes : List ℕ) → tokens_from mode n at bytes ≡ tokens_from mode 0 (at + n) (drop n bytes)
passed mode zero at bytes = ap (λ place. tokens_from mode 0 place bytes) (sym (add-zero at))
passed mode (suc n) at [] = refl
passed mode (suc n) at (b ∷ bytes) =
    let same : at + 1 + n ≡ at + suc n = omega arith in
    passed mode n (at + 1) bytes ∙ ap (λ place. tokens_from mode 0 place (drop n bytes)) same

one_before : (ts : List Token) (t : Token) (r : Read) → all_before ts (before t r) ≡ all_before (ts ++ t ∷ []) r
one_before ts t (Ok us) = ap Ok (sym (append_assoc ts (t ∷ []) us))
one_before ts t (Err fault) = refl

none_before : (r : Read) → r ≡ all_before [] r
none_before (Ok us) = refl
none_before (Err fault) = refl

-- what stands at a place
split : (text : List ℕ) (at : ℕ) → at < length text → drop at text ≡ get_or text at 0 ∷ drop (at + 1) text
split text at inside = rw (add-one, drop-cons text at 0)

pub begun : (text : List ℕ) → tokens_of text ≡ all_before [] (tokens_from Plain 0 0 text)
unfolding tokens_of
begun text = none_before (tokens_from Plain 0 0 text)

-- how the text is read on behind a byte
abbrev on : ℕ → List ℕ → Mode → ℕ → Read
on at rest next skip = tokens_from next skip (at + 1) rest

pub blank_passed : (text : List ℕ) (ts : List Token) (mode : Mode) (at : ℕ) → at < length text → is_blank (get_or text at 0) ≡ true
    → tokens_of text ≡ all_before ts (tokens_from mode 0 at (drop at text)) → tokens_of text ≡ all_before ts (tokens_from mode 0 (at + 1) (drop (at + 1) text))
blank_passed text ts mode at inside blank read =
    let b = get_or text at 0 in
    let rest = drop (at + 1) text in
    read ∙ ap (all_before ts) (ap (tokens_from mode 0 at) (split text at inside)
    ∙ ap (λ t. then_read t mode at (token_at mode at (b ∷ rest)) (on at rest)) blank)

not_blank : (text : List ℕ) (mode : Mode) (at : ℕ) (r : Result Lexeme FilterReason) → at < length text → is_blank (get_or text at 0) ≡ false
    → token_at mode at (drop at text) ≡ r
    → tokens_from mode 0 at (drop at text) ≡ then_read false mode at r (on at (drop (at + 1) text))
not_blank text mode at r inside other token =
    let b = get_or text at 0 in
    let rest = drop (at + 1) text in
    let here : token_at mode at (b ∷ rest) ≡ r = ap (token_at mode at) (sym (split text at inside)) ∙ token in
    ap (tokens_from mode 0 at) (split text at inside)
    ∙ ap (λ t. then_read t mode at (token_at mode at (b ∷ rest)) (on at rest)) other
    ∙ ap (λ t. then_read false mode at t (on at rest)) here

behind_token : (text : List ℕ) (mode : Mode) (at width : ℕ) → 0 < width
    → tokens_from mode (width - 1) (at + 1) (drop (at + 1) text) ≡ tokens_from mode 0 (at + width) (drop (at + width) text)
behind_token text mode at width some =
    let place : at + 1 + (width - 1) ≡ at + width = omega arith in
    passed mode (width - 1) (at + 1) (drop (at + 1) text)
    ∙ ap (tokens_from mode 0 (at + 1 + (width - 1))) (drop-drop (width - 1) (at + 1) text)
    ∙ ap (λ n. tokens_from mode 0 n (drop n text)) place

pub token_taken : (text : List ℕ) (ts : List Token) (mode : Mode) (at : ℕ) (l : Lexeme) → at < length text → is_blank (get_or text at 0) ≡ false
    → token_at mode at (drop at text) ≡ Ok l → 0 < l.width
    → tokens_of text ≡ all_before ts (tokens_from mode 0 at (drop at text))
    → tokens_of text ≡ all_before (ts ++ (record { at = at; kind = l.kind }) ∷ []) (tokens_from (mode_behind l.kind) 0 (at + l.width) (drop (at + l.width) text))
token_taken text ts mode at l inside other token some read =
    let t : Token = record { at = at; kind = l.kind } in
    read ∙ ap (all_before ts) (not_blank text mode at (Ok l) inside other token ∙ ap (before t) (behind_token text (mode_behind l.kind) at l.width some))
    ∙ one_before ts t (tokens_from (mode_behind l.kind) 0 (at + l.width) (drop (at + l.width) text))

pub token_refused : (text : List ℕ) (ts : List Token) (mode : Mode) (at : ℕ) (e : FilterError) → at < length text → is_blank (get_or text at 0) ≡ false
    → tokens_of text ≡ all_before ts (tokens_from mode 0 at (drop at text))
    → IsTokenError at (token_at mode at (drop at text)) e → IsTokensError (tokens_of text) e
token_refused text ts mode at NoMemory inside other read why = tt
token_refused text ts mode at (Fault fault) inside other read why =
    read ∙ ap (all_before ts) (not_blank text mode at (Err fault.reason) inside other why.0)
    ∙ ap (λ n. Err (record { at = n; reason = fault.reason })) (sym why.1)
