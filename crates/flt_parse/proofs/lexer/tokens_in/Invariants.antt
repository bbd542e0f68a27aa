use Rattle.std.proofs.Common.{◌≡◌, ◌-◌, ◌≤◌, length, drop}
use Rattle.flt_syntax.specs.Tokens.{tokens_from, tokens_of}
use Rattle.flt_parse.proofs.Lexing.{all_before}
use Rattle.flt_parse.proofs.lexer.tokens_in.Given as goal

abbrev pub invariant-tokens : goal.invariant-tokens
invariant-tokens l = record {
  within : l.at ≤ length l.text;
  read : tokens_of l.text ≡ all_before l.tokens.items (tokens_from l.mode 0 l.at (drop l.at l.text));
}

abbrev pub decreases-tokens : goal.decreases-tokens
decreases-tokens l = length l.text - l.at
