-- Fields that were found before others.
use Rattle.std.proofs.Common.{ℕ, List, ◌++◌, Result, Ok, Err}
use Rattle.run_words.specs.declared.refused.Refused.{Refused}

abbrev pub with_front : List ℕ → Result (List ℕ) Refused → Result (List ℕ) Refused
with_front front (Err refused) = Err refused
with_front front (Ok fields) = Ok (front ++ fields)
