use Rattle.std.proofs.Common.{◌≡◌, sym, ◌∙◌}
use Rattle.dis_dns.specs.declared.names.NameEnd.TheVariants.{Name}
use Rattle.dis_dns.specs.Names.{name_at}
use Rattle.dis_dns.specs.Records.{name_entry}
use Rattle.dis_dns.proofs.records.push_name.Goals as goal

pub returns-in_default-clause-adds : goal.returns-in_default-clause-adds
returns-in_default-clause-adds c = c.push_none.ensures.takes _ _

pub returns-in_default-read_name-clause-adds : goal.returns-in_default-read_name-clause-adds
returns-in_default-read_name-clause-adds c = c.push_none-in_default-read_name.ensures.takes _ _

pub returns-in-Name-clause-adds : goal.returns-in-Name-clause-adds
unfolding name_entry
returns-in-Name-clause-adds c =
    let read : (name_at c.args.message.now.bytes.now c.args.end c.args.place).0 ≡ Name c.in-Name.after = sym c.in-Ok-read_name.ensures.value ∙ c.in-Name.is in
    rw read (c.push_found.ensures.adds (name_at c.args.message.now.bytes.now c.args.end c.args.place).1 (λ shown. c.in-Ok-read_name.ensures.text (c.shows-shown.ensures ∙ shown)))
