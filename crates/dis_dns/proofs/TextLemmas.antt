-- A text has at most as many strings as bytes: each one takes its length at least.
use Rattle.std.proofs.Common.{ℕ, ◌+◌, List, [], ◌∷◌, length, arith}
use Rattle.std.specs.Prelude.{false, nat_le}
use Rattle.pk_tree.specs.declared.layout.Step.TheVariants.{Room}
use Rattle.pk_tree.specs.Entries.{ends}
use Rattle.pk_tree.proofs.EntryLemmas.{GoesPast, past_if, past_end, repeated_past}
use Rattle.dis_dns.specs.Records.{text_string}
use Rattle.dis_dns.specs.Texts.{AllStrings}

string_past : (base : ℕ) (bytes : List ℕ) (field end at : ℕ) → GoesPast (at + 1) (text_string base bytes field end at)
unfolding text_string
string_past base bytes field end at =
    past_if (at + 1) (nat_le end at) (ends []) _ (λ _. past_end (at + 1) [])
    (past_if (at + 1) (nat_le (length bytes) at) (ends (Room false ∷ [])) _ (λ _. past_end (at + 1) (Room false ∷ []))
    (record { past = omega arith }))

pub all_strings : AllStrings
all_strings base bytes field at len =
    repeated_past len (text_string base bytes field (at + len)) (string_past base bytes field (at + len)) at
