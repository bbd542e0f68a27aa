-- The layers that a name with `#` chooses: numbers from 1, and ranges that don't fall.
use Rattle.std.specs.Prelude.{ℕ, Bool, ◌&&◌, nat_le, unwrap_or, None}
use Rattle.flt_syntax.specs.declared.ast.Layer.{Layer}
use Rattle.flt_syntax.specs.declared.ast.LayerRange as written
use Rattle.pk_base.specs.declared.chosen.LayerRange as chosen

-- a range as it is written; a number alone is its own last
abbrev pub last_of : written.LayerRange → ℕ
last_of range = unwrap_or range.last range.first

abbrev pub is_layers : written.LayerRange → Bool
is_layers range = nat_le 1 range.first && nat_le range.first (last_of range)

abbrev pub is_layer : Layer → Bool
is_layer layer = nat_le 1 layer.nth

-- the layers that it chooses
abbrev pub layers_of : written.LayerRange → chosen.LayerRange
layers_of range = record { first = range.first; last = range.last }

abbrev pub one_layer : Layer → chosen.LayerRange
one_layer layer = record { first = layer.nth; last = None }
