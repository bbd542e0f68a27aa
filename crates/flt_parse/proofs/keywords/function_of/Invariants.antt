use Rattle.std.proofs.Common.{◌≡◌, drop}
use Rattle.std.specs.List.{find}
use Rattle.std.specs.Str.{bytes_eq}
use Rattle.flt_syntax.specs.Tokens.{function_of, function_text, functions}
use Rattle.flt_parse.proofs.keywords.function_of.Given as goal

abbrev pub invariant-loop-function : goal.invariant-loop-function
invariant-loop-function l = function_of l.word ≡ find (λ k. bytes_eq (function_text k) l.word) (drop l.function-index functions)
