use Rattle.std.proofs.Common.{◌≡◌, false, ◌-◌, ◌<◌, ◌^◌}
use Rattle.pk_tree.specs.Entries.{repeated}
use Rattle.dis_dns.proofs.CollectedLemmas.{onto}
use Rattle.dis_dns.specs.Records.{resource}
use Rattle.dis_dns.proofs.dns.push_records.Given as goal

-- what is left of them leads where all of them do
abbrev pub invariant-loop-record : goal.invariant-loop-record
invariant-loop-record l = record {
  goes :
      l.steps.spent ≡ false
      → onto l.steps (repeated (l.count - l._record) (resource l.message.fields l.message.base l.message.bytes.now) l.place)
      ≡ onto l.initial.steps (repeated l.count (resource l.message.fields l.message.base l.message.bytes.now) l.at);
  bound : l.place < 2 ^ 33;
}
