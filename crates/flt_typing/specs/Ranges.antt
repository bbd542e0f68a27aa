-- The ranges of a slice that may stand: they have a byte.
use Rattle.std.specs.Prelude.{ℕ, Bool, true, false, nat_le}
use Rattle.flt_syntax.specs.declared.ast.Place.{Place}
use Rattle.flt_syntax.specs.declared.ast.RangePart.{RangePart}
use Rattle.flt_syntax.specs.declared.ast.RangePart.TheVariants as parts

-- whether the second place isn't before the first; of places on different sides nothing is known
abbrev pub order_by : Bool → Bool → ℕ → ℕ → Bool
order_by false false i j = nat_le i j
order_by true true i j = nat_le j i
order_by i_side j_side i j = true

abbrev pub in_order : Place → Place → Bool
in_order i j = order_by i.from_end j.from_end i.offset j.offset

abbrev pub is_range : RangePart → Bool
is_range (parts.One i) = true
is_range (parts.Counted i n) = nat_le 1 n
is_range (parts.Between i j) = in_order i j
is_range (parts.Front n) = nat_le 1 n
is_range (parts.ToEnd i) = true
