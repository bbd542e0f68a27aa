-- A filter has no more tokens than its text has bytes.
use Rattle.std.proofs.Common.{◌≡◌, ℕ, zero, suc, ◌+◌, ◌-◌, ◌^◌, ◌<◌, ◌≤◌, Bool, true, false, List, [], ◌∷◌, length, Ok, Err, Result, refl, ap, subst, arith}
use Rattle.flt_syntax.specs.Filters.{IsFilterText, kinds_of, most_bytes}
use Rattle.flt_syntax.specs.Grammar.{spelled}
use Rattle.flt_syntax.specs.Letters.{is_blank}
use Rattle.flt_syntax.specs.Tokens.{before, mode_behind, then_read, token_at, tokens_from, tokens_of}
use Rattle.flt_syntax.specs.Written.{Written}
use Rattle.flt_syntax.specs.declared.fault.FilterFault.{FilterFault}
use Rattle.flt_syntax.specs.declared.fault.FilterReason.{FilterReason}
use Rattle.flt_syntax.specs.declared.token.Lexeme.{Lexeme}
use Rattle.flt_syntax.specs.declared.token.Mode.{Mode}
use Rattle.flt_syntax.specs.declared.token.Mode.TheVariants.{Plain}
use Rattle.flt_syntax.specs.declared.token.Token.{Token}

-- each token takes a byte
abbrev AreFew : Result (List Token) FilterFault → ℕ → Type 0
AreFew (Ok ts) most = length ts ≤ most
AreFew (Err fault) most = Unit {0}

few_more : (tokens : Result (List Token) FilterFault) (most : ℕ) → AreFew tokens most → AreFew tokens (suc most)
few_more (Ok ts) most h = omega arith
few_more (Err fault) most h = tt

few_before : (t : Token) (tokens : Result (List Token) FilterFault) (most : ℕ) → AreFew tokens most → AreFew (before t tokens) (suc most)
few_before t (Ok ts) most h = omega arith
few_before t (Err fault) most h = tt

few_then : (blank : Bool) (mode : Mode) (at most : ℕ) (token : Result Lexeme FilterReason) (rest : Mode → ℕ → Result (List Token) FilterFault)
    → ((m : Mode) (n : ℕ) → AreFew (rest m n) most) → AreFew (then_read blank mode at token rest) (suc most)
few_then true mode at most token rest more = few_more (rest mode 0) most (more mode 0)
few_then false mode at most (Ok l) rest more =
    few_before (record { at = at; kind = l.kind }) (rest (mode_behind l.kind) (l.width - 1)) most (more (mode_behind l.kind) (l.width - 1))
few_then false mode at most (Err r) rest more = tt

few_from : (bytes : List ℕ) (mode : Mode) (skip at : ℕ) → AreFew (tokens_from mode skip at bytes) (length bytes)
few_from [] mode skip at = omega arith
few_from (b ∷ rest) mode (suc skip) at = few_more (tokens_from mode skip (at + 1) rest) (length rest) (few_from rest mode skip (at + 1))
few_from (b ∷ rest) mode zero at =
    few_then (is_blank b) mode at (length rest) (token_at mode at (b ∷ rest)) (λ next skip. tokens_from next skip (at + 1) rest)
    (λ next skip. few_from rest next skip (at + 1))

few_tokens : (text : List ℕ) (ts : List Token) → tokens_of text ≡ Ok ts → length ts ≤ length text
unfolding tokens_of
few_tokens text ts is = subst (λ (tokens : Result (List Token) FilterFault). AreFew tokens (length text)) is (few_from text Plain 0 0)

length_kinds : (ts : List Token) → length (kinds_of ts) ≡ length ts
length_kinds [] = refl
length_kinds (t ∷ ts) = ap suc (length_kinds ts)

pub spelled_few : (text : List ℕ) (tree : Written) → IsFilterText text tree → length (spelled tree) < 2 ^ 63
unfolding most_bytes
spelled_few text tree is =
    let kinds = ap length is.parsed.spells in
    let tokens = length_kinds is.tokens in
    let few = few_tokens text is.tokens is.lexed in
    let short = is.short in
    omega arith
