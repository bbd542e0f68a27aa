use Rattle.flt_parse.proofs.LongestLemmas.{first_longest, tokens_longest}
use Rattle.flt_parse.proofs.laws.longest_signs_are_tokens.Goals as goal

pub returns-clause-front : goal.returns-clause-front
returns-clause-front c = first_longest

pub returns-clause-tokens : goal.returns-clause-tokens
returns-clause-tokens c = tokens_longest
