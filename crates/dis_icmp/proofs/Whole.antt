-- Layouts of messages fit their protocol, and are read whole where all their bytes are there.
use Rattle.std.proofs.Common.{rules, ◌≡◌, ◌≤◌, ℕ, Bool, true, false}
use Rattle.pk_fields.specs.Fields.{row_of}
use Rattle.pk_fields.specs.Ids.{ICMP, ICMPV6, IGMP}
use Rattle.pk_fields.specs.Table.{rows}
use Rattle.pk_tree.specs.Layouts.{reach, step_reach, StepsFit}
use Rattle.pk_tree.specs.declared.layout.Reach.TheVariants.{All}
use Rattle.dis_icmp.specs.Icmp.{icmp_rows}
use Rattle.dis_icmp.specs.Icmp6.{header_size, icmp6_rows}
use Rattle.dis_icmp.specs.Igmp.{igmp_layout}

pub icmp_fits : (echo : Bool) → StepsFit ICMP (icmp_rows echo)
unfolding icmp_rows StepsFit row_of rows
icmp_fits true = search rules
icmp_fits false = search rules

pub icmp_whole : (echo : Bool) (end : ℕ) → 8 ≤ end → reach end (icmp_rows echo) ≡ All
unfolding icmp_rows reach step_reach row_of rows
icmp_whole true end all = search rules
icmp_whole false end all = search rules

pub icmp6_fits : (neighbour echo : Bool) → StepsFit ICMPV6 (icmp6_rows neighbour echo)
unfolding icmp6_rows StepsFit row_of rows
icmp6_fits true true = search rules
icmp6_fits true false = search rules
icmp6_fits false true = search rules
icmp6_fits false false = search rules

pub icmp6_whole : (neighbour echo : Bool) (end : ℕ) → header_size neighbour ≤ end → reach end (icmp6_rows neighbour echo) ≡ All
unfolding icmp6_rows reach step_reach row_of rows
icmp6_whole true true end all = search rules
icmp6_whole true false end all = search rules
icmp6_whole false true end all = search rules
icmp6_whole false false end all = search rules

pub igmp_fits : StepsFit IGMP igmp_layout
unfolding igmp_layout StepsFit row_of rows
igmp_fits = search rules

pub igmp_whole : (end : ℕ) → 8 ≤ end → reach end igmp_layout ≡ All
unfolding igmp_layout reach step_reach row_of rows
igmp_whole end all = search rules
