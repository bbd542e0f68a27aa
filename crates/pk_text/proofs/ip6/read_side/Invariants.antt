use Rattle.std.proofs.Common.{◌<◌, ◌≤◌, ◌^◌, length}
use Rattle.pk_text.proofs.Ip6Lemmas.{IsSideFront}
use Rattle.pk_text.proofs.ip6.read_side.Given as goal

abbrev pub invariant-loop-word : goal.invariant-loop-word
invariant-loop-word l = record {
  count : l.side.count ≤ 8;
  below : l.side.number < (2 ^ 16) ^ l.side.count;
  front : IsSideFront l.text (l.side.count, l.side.number) (length l.yielded);
}
