use Rattle.std.proofs.Common.{◌≡◌, false, ◌+◌, ◌-◌}
use Rattle.pk_tree.specs.Entries.{repeated}
use Rattle.dis_dns.proofs.CollectedLemmas.{onto}
use Rattle.dis_dns.specs.Records.{text_string}
use Rattle.dis_dns.proofs.records.push_texts.Given as goal

-- what is left of the strings leads where all of them do
abbrev pub invariant-loop-string : goal.invariant-loop-string
invariant-loop-string l =
    l.steps.spent ≡ false
    → onto l.steps (repeated (l.len - l._string) (text_string l.message.base l.message.bytes.now l.message.fields.record_data.text (l.at + l.len)) l.place)
    ≡ onto l.initial.steps (repeated l.len (text_string l.message.base l.message.bytes.now l.message.fields.record_data.text (l.at + l.len)) l.at)
