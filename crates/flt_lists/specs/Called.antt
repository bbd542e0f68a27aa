-- What functions give of lists of values.
use Rattle.std.specs.Prelude.{List, [], ◌∷◌, length}
use Rattle.std.specs.List.{filter_map}
use Rattle.std.specs.Option.{option_to_list}
use Rattle.flt_syntax.specs.declared.ast.Function.{Function}
use Rattle.flt_syntax.specs.declared.ast.Function.TheVariants.{Count, Min, Max}
use Rattle.flt_typed.specs.Arithmetic.{extreme_of}
use Rattle.flt_typed.specs.Calls.{called}
use Rattle.flt_typed.specs.declared.arithmetic.Extreme.TheVariants.{Least, Greatest}
use Rattle.pk_base.specs.declared.value.Value.{Value}
use Rattle.pk_base.specs.declared.value.Value.TheVariants as values

-- `count` gives one number, whatever there is to count; `min` and `max` the least or the greatest number, if there is one
abbrev pub values_called : Function → List Value → List Value
values_called Count vs = values.Uint (length vs) ∷ []
values_called Min vs = option_to_list (extreme_of Least vs)
values_called Max vs = option_to_list (extreme_of Greatest vs)
values_called function vs = filter_map (λ value. called function value) vs
