-- What a refusal by `regex` says of a text.
use Rattle.std.proofs.Common.{◌≢◌, inl, inr, ℕ, List, IsUtf8, chars}
use Rattle.regex_syntax.specs.Verdict.{Reads, Refuses}
use Rattle.regex_syntax.specs.Grammar.{read}
use Rattle.regex_syntax.specs.declared.error.ErrorKind.{ErrorKind}
use Rattle.regex_syntax.specs.declared.error.ErrorKind.TheVariants.{OutOfMemory}
use Rattle.regex.specs.Failures as regex
use Rattle.flt_typed.specs.Patterns.{IsNoPattern, IsPattern, options, reading}
use Rattle.flt_typed.proofs.Compiled.{weaker}

pub no_pattern : (text : List ℕ) (kind : ErrorKind) → Refuses options text kind → kind ≢ OutOfMemory → IsNoPattern text
unfolding Refuses reading
no_pattern text kind (inl memory) other = absurd (other memory)
no_pattern text kind (inr (inl none)) other = inr (inl none)
no_pattern text kind (inr (inr deep)) other = inr (inr deep.1)

pub read_pattern : (text : List ℕ) → IsUtf8 text → regex.IsPattern options text → IsPattern text
unfolding Reads reading
read_pattern text utf8 (hir, names, reads) = record { utf8 = utf8; read = weaker (read options (chars text)) _ _ (λ x h. h.0) reads }
