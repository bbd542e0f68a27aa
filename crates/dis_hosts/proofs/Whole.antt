-- Layouts of messages fit their protocol, and are read whole where all their bytes are there.
use Rattle.std.proofs.Common.{rules, ◌≡◌, ◌≤◌, ℕ, Bool, true, false}
use Rattle.pk_fields.specs.Fields.{row_of}
use Rattle.pk_fields.specs.Ids.{NTP}
use Rattle.pk_fields.specs.Table.{rows}
use Rattle.pk_tree.specs.Layouts.{reach, step_reach, StepsFit}
use Rattle.pk_tree.specs.declared.layout.Reach.TheVariants.{All}
use Rattle.dis_hosts.specs.Ntp.{header_size, ntp_rows}

pub ntp_fits : (time : Bool) → StepsFit NTP (ntp_rows time)
unfolding ntp_rows StepsFit row_of rows
ntp_fits true = search rules
ntp_fits false = search rules

pub ntp_whole : (time : Bool) (end : ℕ) → header_size time ≤ end → reach end (ntp_rows time) ≡ All
unfolding ntp_rows reach step_reach row_of rows
ntp_whole true end all = search rules
ntp_whole false end all = search rules
