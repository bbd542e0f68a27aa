-- Sums, differences and products of two lists of numbers.
use Rattle.std.specs.Prelude.{List, [], ◌∷◌}
use Rattle.std.specs.List.{filter_map, zip}
use Rattle.flt_typed.specs.Arithmetic.{calculated}
use Rattle.flt_syntax.specs.declared.ast.Arithmetic.{Arithmetic}
use Rattle.pk_base.specs.declared.value.Value.{Value}

-- a single value goes with each of the other list; else the first goes with the first and so on, as far as the shorter
-- list goes
abbrev pub values_calculated : Arithmetic → List Value → List Value → List Value
values_calculated operation (v ∷ []) ws = filter_map (λ w. calculated operation v w) ws
values_calculated operation vs (w ∷ []) = filter_map (λ v. calculated operation v w) vs
values_calculated operation vs ws =
    filter_map (λ pair. calculated operation pair.0 pair.1) (zip vs ws)
