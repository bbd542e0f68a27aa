use Rattle.flt_vm.proofs.GivenLemmas.{kept_set}
use Rattle.flt_vm.proofs.asks.kept.Goals as goal

pub listed_truth-requires : goal.listed_truth-requires
listed_truth-requires c = kept_set c.args.source.now c.args.slot.now c.requires.0 c.requires.1
