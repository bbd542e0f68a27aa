-- At most 40 options: each one that doesn't end the list takes at least a byte of the header.
use Rattle.std.proofs.Common.{ℕ, ◌+◌, ◌-◌, ◌≤◌, ◌&&◌, List, [], ◌∷◌, length, arith}
use Rattle.std.proofs.lemmas.Bool.Decides.{nat_tests}
use Rattle.std.specs.Prelude.{◌==◌, nat_le, slice_index}
use Rattle.pk_fields.specs.Ids.{TCP_OPTION_KIND, TCP_OPTION_LEN, TCP_OPTIONS_BAD}
use Rattle.pk_tree.specs.declared.layout.Step.TheVariants.{Row, Part}
use Rattle.pk_tree.specs.Entries.{goes_on, ends, repeated, ReadsTo}
use Rattle.pk_tree.proofs.EntryLemmas.{GoesPast, past_if, past_end, less_past, repeated_past}
use Rattle.dis_ports.specs.TcpOptions.{option_at, option_data, option_with_length, tcp_options}

with_length_past : (kind len at end : ℕ) → GoesPast (at + 1) (option_with_length kind len at end)
unfolding option_with_length
with_length_past kind len at end =
    past_if (at + 1) (nat_le 2 len && nat_le len (end - at)) (goes_on (Row TCP_OPTION_KIND at ∷ Row TCP_OPTION_LEN (at + 1) ∷ option_data kind len at) (at + len)) _
    (λ sound. record { past = grind (arith, nat_tests) })
    (past_end (at + 1) (Part TCP_OPTIONS_BAD at (end - at) ∷ []))

option_past : (header : List ℕ) (at : ℕ) → GoesPast (at + 1) (option_at header at)
unfolding option_at
option_past header at =
    past_if (at + 1) _ (ends []) _ (λ _. past_end (at + 1) [])
    (past_if (at + 1) (slice_index header at == 0) (ends (Row TCP_OPTION_KIND at ∷ [])) _ (λ _. past_end (at + 1) (Row TCP_OPTION_KIND at ∷ []))
    (past_if (at + 1) (slice_index header at == 1) (goes_on (Row TCP_OPTION_KIND at ∷ []) (at + 1)) _ (λ _. record { past = omega arith })
    (with_length_past (slice_index header at) (slice_index header (at + 1)) at (length header))))

pub options_reach : (header : List ℕ) → length header ≤ 60 → ReadsTo (length header) (tcp_options header)
unfolding tcp_options
options_reach header most = less_past (length header) 60 (repeated 40 (option_at header) 20).next most (repeated_past 40 (option_at header) (option_past header) 20)
