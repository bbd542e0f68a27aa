-- Each text is a filter or has a first fault.
use Rattle.std.proofs.Common.{◌≡◌, ◌⊎◌, inl, inr, ℕ, ◌≤◌, Bool, true, false, List, length, Ok, Err, Result, refl}
use Rattle.std.proofs.Math.Dec.{leb}
use Rattle.std.proofs.lemmas.Bool.{leb-true, leb-false}
use Rattle.flt_syntax.specs.Filters.{IsFilterText, IsFirstFault, most_bytes, most_open, place_of}
use Rattle.flt_parse.specs.Laws.{FilterOrFault}
use Rattle.flt_parse.specs.Parser.Reading.{Answer, Whole, Bad, start}
use Rattle.flt_parse.specs.Parser.Answers.{tokens_read}
use Rattle.flt_syntax.specs.Tokens.{tokens_of}
use Rattle.flt_syntax.specs.Written.{Written}
use Rattle.flt_syntax.specs.declared.fault.FilterError.TheVariants.{Fault}
use Rattle.flt_syntax.specs.declared.fault.FilterFault.{FilterFault}
use Rattle.flt_syntax.specs.declared.fault.FilterReason.TheVariants.{TooLong}
use Rattle.flt_syntax.specs.declared.token.Token.{Token}
use Rattle.flt_parse.proofs.Parsed.{error_read, filter_read, of_filter, of_length, of_lexical, of_syntax}

abbrev Answered : List ℕ → Type 0
Answered text = ((filter : Written) × IsFilterText text filter) ⊎ ((fault : FilterFault) × IsFirstFault text fault)

by_answer : (text : List ℕ) (ts : List Token) (answer : Answer Token) → length text ≤ most_bytes → tokens_of text ≡ Ok ts
    → tokens_read most_open start ts ≡ answer → Answered text
by_answer text ts (Whole t) short lexed is = inl (t, of_filter text ts t short lexed (filter_read ts t is))
by_answer text ts (Bad r rest) short lexed is =
    let fault : FilterFault = record { at = place_of rest (length text); reason = r } in
    inr (fault, of_syntax text ts (Fault fault) short lexed (error_read (length text) ts (Fault fault) (rest, is, refl)))

by_tokens : (text : List ℕ) (tokens : Result (List Token) FilterFault) → length text ≤ most_bytes → tokens_of text ≡ tokens → Answered text
by_tokens text (Ok ts) short is = by_answer text ts (tokens_read most_open start ts) short is refl
by_tokens text (Err fault) short is = inr (fault, of_lexical text (Fault fault) short is)

by_length : (text : List ℕ) (test : Bool) → leb (length text) most_bytes ≡ test → Answered text
by_length text true is = by_tokens text (tokens_of text) (leb-true (length text) most_bytes is) refl
by_length text false is = inr (record { at = most_bytes; reason = TooLong }, of_length text (leb-false (length text) most_bytes is))

pub filter_or_fault : FilterOrFault
filter_or_fault text = by_length text (leb (length text) most_bytes) refl
