-- Programs, and the patterns of filters.
use Rattle.std.specs.Prelude.{◌≡◌, ℕ, ◌+◌, ◌<◌, ◌^◌, List, [], ◌∷◌, ◌++◌, length, Some}
use Rattle.std.specs.List.{slice_get}
use Rattle.flt_typed.specs.declared.typed.Typed.{Typed}
use Rattle.flt_typed.specs.declared.typed.Typed.TheVariants.{Either', Differ', Both', Not', Exists, AnyBit, Compare, Among, Matches}
use Rattle.flt_program.specs.declared.instr.Instr.{Instr}
use Rattle.flt_program.specs.declared.instr.Instr.TheVariants as instr

-- a program: its instructions, and how many registers it has
pub record Code : Type 0 where
  pub registers : ℕ
  pub items : List Instr

-- an instruction at a place of so many has its registers, and leads to an instruction behind it
abbrev pub Fits : ℕ → ℕ → ℕ → Instr → Type 0
Fits count size at (instr.Read r field layers) = (r < count) × (at + 1 < size)
Fits count size at (instr.Const r c) = (r < count) × (at + 1 < size)
Fits count size at (instr.Slice r q ranges) = (r < count) × (q < count) × (at + 1 < size)
Fits count size at (instr.Mask r q mask) = (r < count) × (q < count) × (at + 1 < size)
Fits count size at (instr.Call r function q) = (r < count) × (q < count) × (at + 1 < size)
Fits count size at (instr.Count r field layers) = (r < count) × (at + 1 < size)
Fits count size at (instr.Compute r operation p q) =
    (r < count) × (p < count) × (q < count) × (at + 1 < size)
Fits count size at (instr.Choose r extreme p q) =
    (r < count) × (p < count) × (q < count) × (at + 1 < size)
Fits count size at (instr.Save r) = (r < count) × (at + 1 < size)
Fits count size at (instr.Test choice relation p q) =
    (p < count) × (q < count) × (at + 1 < size)
Fits count size at (instr.In choice r ms) = (r < count) × (at + 1 < size)
Fits count size at (instr.Match choice r n) = (r < count) × (at + 1 < size)
Fits count size at (instr.NonZero r) = (r < count) × (at + 1 < size)
Fits count size at instr.Not = at + 1 < size
Fits count size at (instr.Differ r) = (r < count) × (at + 1 < size)
Fits count size at (instr.JumpFalse n) = at + 1 + n < size
Fits count size at (instr.JumpTrue n) = at + 1 + n < size
Fits count size at instr.Return = Unit {0}

-- jumps lead forward and inside, registers are in range, and the last instruction is RETURN
pub record IsProgram (code : Code) : Type 0 where
  pub some : 0 < length code.items
  pub few : length code.items < 2 ^ 32
  pub fits : (at : ℕ) (i : Instr) → slice_get code.items at ≡ Some i
      → Fits code.registers (length code.items) at i

-- the patterns of a filter, in its order
abbrev pub patterns_of : Typed → List (List ℕ)
patterns_of (Either' p left q right) = patterns_of left ++ patterns_of right
patterns_of (Differ' p left q right) = patterns_of left ++ patterns_of right
patterns_of (Both' p left q right) = patterns_of left ++ patterns_of right
patterns_of (Not' p filter) = patterns_of filter
patterns_of (Exists term) = []
patterns_of (AnyBit term) = []
patterns_of (Compare relation choice left right) = []
patterns_of (Among negated choice term members) = []
patterns_of (Matches choice term pattern) = pattern ∷ []
