use Rattle.std.proofs.Common.{refl, arith, append_assoc, ◌+◌}
use Rattle.pk_tree.specs.Entries.{repeated}
use Rattle.pk_tree.proofs.EntryLemmas.{repeat_step, repeat_done}
use Rattle.dis_ports.specs.TcpOptions.{sack_block}
use Rattle.dis_ports.proofs.tcp_options.push_blocks.Goals as goal

pub loop-block-preserved : goal.loop-block-preserved
loop-block-preserved c = record {
  goes = repeat_step sack_block c.args.count c.loop-block._block c.loop-block.place (c.loop-block.place + 8) c.loop-block.steps.items c.push-in-loop-block.new.self.items _ c.loop-block.invariant.goes c.loop-block-test.true
      (record { steps = rw (c.in_ok-push-2.ensures.items, c.in_ok-push.ensures.items) (append_assoc c.loop-block.steps.items _ _); next = refl });
  place_is = omega arith;
}

pub returns : goal.returns
returns c =
    (repeat_done sack_block c.args.count c.loop-block._block c.loop-block.place c.args.steps.now.items c.loop-block.steps.items (repeated c.args.count sack_block c.args.at) c.loop-block.invariant.goes c.loop-block-test.false).steps
