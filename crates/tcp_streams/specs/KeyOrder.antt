-- The order of conversations' ends, by which their numbers are kept.
use Rattle.std.specs.Ordering.{nat_cmp, bool_cmp, ordering_then}
use Rattle.std.specs.declared.cmp.Ordering.{Ordering}
use Rattle.tcp_streams.specs.declared.ends.End.{End}
use Rattle.tcp_streams.specs.declared.ends.Ends.{Ends}
use Rattle.tcp_streams.specs.declared.ends.FourEnds.{FourEnds}

abbrev pub end_cmp : End → End → Ordering
end_cmp a b = ordering_then (bool_cmp a.six b.six) (ordering_then (nat_cmp a.address b.address) (nat_cmp a.port b.port))

abbrev pub ends_cmp : Ends → Ends → Ordering
ends_cmp a b = ordering_then (end_cmp a.lesser b.lesser) (end_cmp a.greater b.greater)

abbrev pub four_cmp : FourEnds → FourEnds → Ordering
four_cmp a b = ordering_then (nat_cmp a.lesser_port b.lesser_port)
    (ordering_then (nat_cmp a.greater_port b.greater_port)
    (ordering_then (nat_cmp a.lesser b.lesser) (nat_cmp a.greater b.greater)))
