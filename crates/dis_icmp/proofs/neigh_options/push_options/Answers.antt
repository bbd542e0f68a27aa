use Rattle.std.proofs.Common.{length}
use Rattle.pk_tree.specs.Entries.{repeated}
use Rattle.pk_tree.proofs.EntryLemmas.{repeat_step, repeat_stop, repeat_done}
use Rattle.dis_icmp.specs.NeighOptions.{option_at, neigh_options}
use Rattle.dis_icmp.proofs.neigh_options.push_options.Goals as goal

pub loop-option-preserved : goal.loop-option-preserved
loop-option-preserved c =
    repeat_step (option_at c.args.bytes.now) (length c.args.bytes.now) c.loop-option._option c.loop-option.at c.in-Some.next c.loop-option.steps.items c.push_option.new.steps.items _ c.loop-option.invariant c.loop-option-test.true (rw c.in-Some.is at c.in_ok-next.ensures)

pub returns-in-None : goal.returns-in-None
unfolding neigh_options
returns-in-None c =
    (repeat_stop (option_at c.args.bytes.now) (length c.args.bytes.now) c.loop-option._option c.loop-option.at c.args.steps.now.items c.loop-option.steps.items c.push_option.new.steps.items (repeated (length c.args.bytes.now) (option_at c.args.bytes.now) c.args.start) c.loop-option.invariant c.loop-option-test.true
    (rw c.in-None.is at c.in_ok-next.ensures)).steps

pub returns : goal.returns
unfolding neigh_options
returns c =
    (repeat_done (option_at c.args.bytes.now) (length c.args.bytes.now) c.loop-option._option c.loop-option.at c.args.steps.now.items c.loop-option.steps.items (repeated (length c.args.bytes.now) (option_at c.args.bytes.now) c.args.start) c.loop-option.invariant c.loop-option-test.false).steps
