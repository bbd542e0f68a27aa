-- Fewer options than bytes: each one that doesn't end the list takes at least a byte of the message.
use Rattle.std.proofs.Common.{ℕ, ◌+◌, List, [], ◌∷◌, length, arith}
use Rattle.std.specs.Prelude.{◌==◌, slice_index}
use Rattle.pk_fields.specs.Ids.{DHCP_OPTION_TYPE}
use Rattle.pk_tree.specs.declared.layout.Step.TheVariants.{Row}
use Rattle.pk_tree.specs.Entries.{ReadsTo, goes_on, ends, repeated}
use Rattle.pk_tree.proofs.EntryLemmas.{GoesPast, past_if, past_end, less_past, repeated_past}
use Rattle.dis_hosts.specs.DhcpOptions.{option_at, option_with_length, dhcp_options}

with_length_past : (code len at : ℕ) → GoesPast (at + 1) (option_with_length code len at)
unfolding option_with_length
with_length_past code len at = record { past = omega arith }

option_past : (bytes : List ℕ) (at : ℕ) → GoesPast (at + 1) (option_at bytes at)
unfolding option_at
option_past bytes at =
    past_if (at + 1) _ (ends []) _ (λ _. past_end (at + 1) [])
    (past_if (at + 1) (slice_index bytes at == 0) (goes_on (Row DHCP_OPTION_TYPE at ∷ []) (at + 1)) _ (λ _. record { past = omega arith })
    (past_if (at + 1) (slice_index bytes at == 255) (ends (Row DHCP_OPTION_TYPE at ∷ [])) _ (λ _. past_end (at + 1) (Row DHCP_OPTION_TYPE at ∷ []))
    (with_length_past (slice_index bytes at) (slice_index bytes (at + 1)) at)))

pub options_reach : (bytes : List ℕ) → ReadsTo (length bytes) (dhcp_options bytes)
unfolding dhcp_options
options_reach bytes =
    less_past (length bytes) (240 + length bytes) (repeated (length bytes) (option_at bytes) 240).next (omega arith) (repeated_past (length bytes) (option_at bytes) (option_past bytes) 240)
