use Rattle.std.proofs.Common.{◌≡◌, drop}
use Rattle.std.specs.List.{find}
use Rattle.std.specs.Str.{bytes_eq}
use Rattle.flt_syntax.specs.Tokens.{keyword_of, keyword_text, keywords}
use Rattle.flt_parse.proofs.keywords.keyword_of.Given as goal

abbrev pub invariant-loop-keyword : goal.invariant-loop-keyword
invariant-loop-keyword l = keyword_of l.word ≡ find (λ k. bytes_eq (keyword_text k) l.word) (drop l.keyword-index keywords)
