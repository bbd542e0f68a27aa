use Rattle.std.proofs.Common.{length, lt-ltb}
use Rattle.flt_vm.proofs.GivenLemmas.{set_inside}
use Rattle.flt_vm.proofs.given.is_set.Goals as goal

pub returns-else-register-slots-clause-found : goal.returns-else-register-slots-clause-found
returns-else-register-slots-clause-found c = λ set. lt-ltb c.args.register (length c.args.slots.now) (set_inside c.args.slots.now c.args.register set)
