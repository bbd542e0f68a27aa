use Rattle.std.proofs.Common.{◌≡◌, ◌++◌, codes, drop}
use Rattle.std.specs.List.{flat_map}
use Rattle.flt_typed.specs.declared.typed.Member.{Member}
use Rattle.flt_program.specs.Literals.{member_shown}
use Rattle.flt_program.proofs.literals.put_further_members.Given as goal

abbrev pub invariant-loop-member : goal.invariant-loop-member
invariant-loop-member l =
    l.line.items ++ flat_map (λ (member : Member). codes ", " ++ member_shown member) (drop l.member-index l.members)
    ≡ l.initial.line.items ++ flat_map (λ (member : Member). codes ", " ++ member_shown member) l.members
