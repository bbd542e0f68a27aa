use Rattle.std.proofs.Common.{◌++◌, codes, sym}
use Rattle.std.specs.List.{flat_map}
use Rattle.flt_program.specs.Literals.{member_shown}
use Rattle.flt_program.proofs.ListingLemmas.{further_next}
use Rattle.flt_program.proofs.literals.put_further_members.Goals as goal

pub loop-member-preserved : goal.loop-member-preserved
loop-member-preserved c =
    further_next (codes ", ") member_shown c.args.members.now c.loop-member.member-index c.member-item.result c.member-item.result c.loop-member.line.items c.put_text.new.self.items c.put_member.new.line.items
    (c.args.line.now.items ++ flat_map (λ y. codes ", " ++ member_shown y) c.args.members.now) c.loop-member-test.true (sym c.member-item.is) c.loop-member.invariant c.in_ok-put_text.ensures c.in_ok-put_member.ensures
