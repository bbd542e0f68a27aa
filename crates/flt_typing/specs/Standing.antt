-- Where an operand stands, which decides what a word that names no field is there.
use Rattle.std.specs.Prelude.{ℕ, None}
use Rattle.flt_syntax.specs.Written.{WrittenOperand, ComputedOf}
use Rattle.flt_syntax.specs.declared.ast.Function.{Function}
use Rattle.flt_syntax.specs.declared.ast.Function.TheVariants.{Min, Max}
use Rattle.flt_typing.specs.declared.standing.Standing.{Standing}
use Rattle.flt_typing.specs.declared.standing.Standing.TheVariants.{First, Free, Within, Sliced}

-- in a slice: its word names a field
abbrev pub in_slice : Standing → Standing
in_slice First = First
in_slice s = Sliced

-- in a mask or a function at a place, which takes no literal
abbrev pub within : ℕ → Standing → Standing
within at First = First
within at s = Within at

-- the argument of a function: the first of `min` or `max` names a field; arithmetic may begin with a number where a
-- literal may stand
abbrev pub one_argument : ℕ → WrittenOperand → Standing → Standing
one_argument at o First = First
one_argument at (ComputedOf a b l r) s = Free None
one_argument at o s = Within at

abbrev pub argument : Function → ℕ → WrittenOperand → Standing → Standing
argument Min at o s = First
argument Max at o s = First
argument f at o s = one_argument at o s
