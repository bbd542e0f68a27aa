use Rattle.std.proofs.Common.{◌≡◌, ◌++◌, codes, drop, false}
use Rattle.std.specs.List.{flat_map}
use Rattle.std.specs.Fmt.{digits}
use Rattle.pk_text.proofs.ip6.put_further_groups.Given as goal

abbrev pub invariant-loop-group : goal.invariant-loop-group
invariant-loop-group g l =
    g.S.TextSink.taken l.sink ++ flat_map (λ group. codes ":" ++ digits 16 false group) (drop l.group-index l.groups)
    ≡ g.S.TextSink.taken l.initial.sink ++ flat_map (λ group. codes ":" ++ digits 16 false group) l.groups
