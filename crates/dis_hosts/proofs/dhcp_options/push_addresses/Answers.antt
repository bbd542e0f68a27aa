use Rattle.std.proofs.Common.{refl, arith, ◌+◌}
use Rattle.pk_tree.specs.Entries.{repeated}
use Rattle.pk_tree.proofs.EntryLemmas.{repeat_step, repeat_done}
use Rattle.dis_hosts.specs.DhcpOptions.{address}
use Rattle.dis_hosts.proofs.dhcp_options.push_addresses.Goals as goal

pub loop-address-preserved : goal.loop-address-preserved
loop-address-preserved c = record {
  goes = repeat_step (address c.args.field) c.args.count c.loop-address._address c.loop-address.place (c.loop-address.place + 4) c.loop-address.steps.items c.push.new.self.items _ c.loop-address.invariant.goes c.loop-address-test.true
      (record { steps = c.in_ok-push.ensures.items; next = refl });
  place_is = omega arith;
}

pub returns : goal.returns
returns c =
    (repeat_done (address c.args.field) c.args.count c.loop-address._address c.loop-address.place c.args.steps.now.items c.loop-address.steps.items (repeated c.args.count (address c.args.field) c.args.at) c.loop-address.invariant.goes c.loop-address-test.false).steps
