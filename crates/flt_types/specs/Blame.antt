-- What is blamed: the sign for a part of a sum that is no number, the side of a test for a string.
use Rattle.std.specs.Prelude.{ℕ, Some, None}
use Rattle.flt_syntax.specs.Written.{WrittenOperand, ComputedOf}
use Rattle.flt_syntax.specs.declared.ast.Function.{Function}
use Rattle.flt_syntax.specs.declared.ast.Function.TheVariants.{Min, Max}
use Rattle.flt_typing.specs.declared.standing.Standing.{Standing}
use Rattle.flt_typing.specs.declared.standing.Standing.TheVariants.{Free}
use Rattle.flt_types.specs.declared.position.Side.{Side}
use Rattle.flt_types.specs.declared.position.Side.TheVariants.{Left, Right}

-- the sign that asks the first part of a sum for a number: the one before it, else the first behind it
abbrev pub sign_for : Standing → ℕ → ℕ
sign_for (Free (Some before)) at = before
sign_for s at = at

-- A string is neither a field nor a number. On the left side of a test it is blamed itself; on the right side the mask or
-- the function at whose place it is taken, where one takes it.
abbrev pub blamed : Side → ℕ → ℕ
blamed (Right (Some around)) at = around
blamed side at = at

-- a part of arithmetic, and an argument of `min` or `max`, is taken by none
abbrev pub by_itself : Side → Side
by_itself Left = Left
by_itself (Right around) = Right None

-- by a mask or a function at a place
abbrev pub taken : ℕ → Side → Side
taken at Left = Left
taken at (Right around) = Right (Some at)

-- by a function; the parts of arithmetic in it are taken by none
abbrev pub one_taken : ℕ → WrittenOperand → Side → Side
one_taken at (ComputedOf a b l r) side = by_itself side
one_taken at o side = taken at side

abbrev pub taken_by : Function → ℕ → WrittenOperand → Side → Side
taken_by Min at o side = by_itself side
taken_by Max at o side = by_itself side
taken_by f at o side = one_taken at o side
