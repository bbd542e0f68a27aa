-- Which layers of a protocol are chosen.
use Rattle.std.specs.Prelude.{ℕ, Bool, true, ◌&&◌, List, nat_le, unwrap_or}
use Rattle.std.specs.List.{list_any}
use Rattle.pk_base.specs.declared.chosen.LayerRange.{LayerRange}
use Rattle.pk_base.specs.declared.chosen.Layers.{Layers}
use Rattle.pk_base.specs.declared.chosen.Layers.TheVariants.{All, These}

-- both ends are among the range; a first layer alone is also the last
abbrev pub holds : LayerRange → ℕ → Bool
holds range nth = nat_le range.first nth && nat_le nth (unwrap_or range.last range.first)

abbrev pub some_holds : List LayerRange → ℕ → Bool
some_holds ranges nth = list_any (λ range. holds range nth) ranges

abbrev pub is_chosen : Layers → ℕ → Bool
is_chosen All nth = true
is_chosen (These ranges) nth = some_holds ranges nth
