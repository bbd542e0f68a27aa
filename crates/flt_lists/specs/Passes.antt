-- Tests of lists of values: of any, or of all of them, and of pairs (wireshark-filter(4)).
use Rattle.std.specs.Prelude.{ℕ, ◌&&◌, Bool as Truth, List, Option}
use Rattle.std.specs.List.{list_any, list_all}
use Rattle.flt_syntax.specs.declared.ast.Choice.{Choice}
use Rattle.flt_syntax.specs.declared.ast.Choice.TheVariants.{Any, All}
use Rattle.flt_typed.specs.Relations.{related}
use Rattle.flt_typed.specs.declared.relation.Relation.{Relation}
use Rattle.pk_base.specs.declared.value.Value.{Value}
use Rattle.pk_source.specs.Found.{is_there}

abbrev pub is_some_value : List Value → Truth
is_some_value values = is_there values

-- whether any value of a list passes a test, or all do: where there is none, neither is true
abbrev pub passes : Choice → (Value → Truth) → List Value → Truth
passes Any test vs = list_any test vs
passes All test vs = is_some_value vs && list_all test vs

-- any or all pairs of a left and a right value, of which the right one may have a prefix length
abbrev pub compares : Relation → Choice → List Value → List Value → Option ℕ → Truth
compares relation choice left right prefix =
    passes choice (λ v. passes choice (λ w. related relation v w prefix) right) left
