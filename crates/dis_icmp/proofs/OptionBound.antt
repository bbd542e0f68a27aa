-- Fewer options than bytes: each one that doesn't end the list takes at least a byte of the message.
use Rattle.std.proofs.Common.{◌≡◌, ℕ, ◌+◌, Bool, true, false, if◌then◌else◌, refl, List, [], ◌∷◌, length, arith}
use Rattle.std.proofs.lemmas.Bool.{eqb-false}
use Rattle.std.specs.Prelude.{◌==◌, slice_index}
use Rattle.pk_fields.specs.Ids.{ND_OPT_TYPE, ND_OPT_LEN}
use Rattle.pk_tree.specs.declared.layout.Step.TheVariants.{Row, Check}
use Rattle.pk_tree.specs.Entries.{Entry, ReadsTo, ends, repeated}
use Rattle.pk_tree.proofs.EntryLemmas.{GoesPast, past_if, past_end, less_past, repeated_past}
use Rattle.dis_icmp.specs.NeighOptions.{option_at, option_with_length, neigh_options}

either_past : (n : ℕ) (b : Bool) (x y : Entry) → GoesPast n x → (b ≡ false → GoesPast n y) → GoesPast n (if b then x else y)
either_past n true x y one other = one
either_past n false x y one other = other refl

with_length_past : (kind len at : ℕ) → GoesPast (at + 1) (option_with_length kind len at)
unfolding option_with_length
with_length_past kind len at =
    either_past (at + 1) (len == 0) (ends (Row ND_OPT_TYPE at ∷ Row ND_OPT_LEN (at + 1) ∷ Check false ∷ [])) _
    (past_end (at + 1) (Row ND_OPT_TYPE at ∷ Row ND_OPT_LEN (at + 1) ∷ Check false ∷ []))
    (λ some. record { past = omega (arith, eqb-false len 0 some) })

option_past : (bytes : List ℕ) (at : ℕ) → GoesPast (at + 1) (option_at bytes at)
unfolding option_at
option_past bytes at =
    past_if (at + 1) _ (ends []) _ (λ _. past_end (at + 1) [])
    (with_length_past (slice_index bytes at) (slice_index bytes (at + 1)) at)

pub options_reach : (bytes : List ℕ) (start : ℕ) → ReadsTo (length bytes) (neigh_options bytes start)
unfolding neigh_options
options_reach bytes start =
    less_past (length bytes) (start + length bytes) (repeated (length bytes) (option_at bytes) start).next (omega arith) (repeated_past (length bytes) (option_at bytes) (option_past bytes) start)
