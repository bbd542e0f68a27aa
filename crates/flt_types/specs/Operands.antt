-- What signs or commas join, with another left part.
use Rattle.std.specs.Prelude.{Bool, true, false}
use Rattle.flt_syntax.specs.Written.{Written, WrittenOperand, SlicedOf, MaskedOf, CalledOf, ComputedOf, ArgumentsOf, JoinedOf}

-- whether a part is a slice, a mask or a call, around another operand
abbrev pub is_around : WrittenOperand → Bool
is_around (SlicedOf o at rs) = true
is_around (MaskedOf o at w) = true
is_around (CalledOf f at o) = true
is_around o = false

-- an operand with another one to the left of its outermost sign or comma
abbrev pub with_left : WrittenOperand → WrittenOperand → WrittenOperand
with_left (ComputedOf a at l r) left = ComputedOf a at left r
with_left (ArgumentsOf l r) left = ArgumentsOf left r
with_left o left = left

-- a tree with another one to the left of its outermost sign
abbrev pub tree_with : Written → Written → Written
tree_with (JoinedOf j l r) left = JoinedOf j left r
tree_with tree left = left
