-- A token, or why there is none, as the lexer's functions answer it.
use Rattle.std.specs.Prelude.{◌≡◌, ℕ, ◌<◌, ◌≤◌, Result, Ok, Err}
use Rattle.flt_syntax.specs.Tokens.{IsTokenError}
use Rattle.flt_syntax.specs.declared.fault.FilterError.{FilterError}
use Rattle.flt_syntax.specs.declared.fault.FilterReason.{FilterReason}
use Rattle.flt_syntax.specs.declared.token.Lexeme.{Lexeme}

-- the token at a place, which has some bytes and at most so many, or why none is read, where memory allows
abbrev pub IsToken : ℕ → ℕ → Result Lexeme FilterReason → Result Lexeme FilterError → Type 0
IsToken at most token (Ok l) = (token ≡ Ok l) × (0 < l.width) × (l.width ≤ most)
IsToken at most token (Err e) = IsTokenError at token e
