-- The listing of a program: a line for each instruction, which is its place from 0, and its words.
use Rattle.std.specs.Prelude.{ℕ, ◌+◌, ◌<◌, ◌^◌, List, [], ◌∷◌, ◌++◌, codes, decimal, unwrap_or, slice_get}
use Rattle.flt_program.specs.Literals.{constant_shown, field_shown, members_shown, ranges_shown, string_shown}
use Rattle.flt_syntax.specs.declared.ast.Arithmetic.{Arithmetic}
use Rattle.flt_syntax.specs.declared.ast.Arithmetic.TheVariants.{Sum, Difference, Product}
use Rattle.flt_syntax.specs.declared.ast.Choice.{Choice}
use Rattle.flt_syntax.specs.declared.ast.Choice.TheVariants as choices
use Rattle.flt_syntax.specs.declared.ast.Function.{Function}
use Rattle.flt_syntax.specs.declared.ast.Function.TheVariants as functions
use Rattle.flt_typed.specs.declared.typed.Typed.{Typed}
use Rattle.flt_typed.specs.declared.arithmetic.Extreme.{Extreme}
use Rattle.flt_typed.specs.declared.arithmetic.Extreme.TheVariants.{Least, Greatest}
use Rattle.flt_typed.specs.declared.relation.Relation.{Relation}
use Rattle.flt_typed.specs.declared.relation.Relation.TheVariants as relations
use Rattle.flt_program.specs.Programs.{Code, patterns_of}
use Rattle.flt_program.specs.declared.instr.Instr.{Instr}
use Rattle.flt_program.specs.declared.instr.Instr.TheVariants as instr

-- a register
abbrev pub register_shown : ℕ → List ℕ
register_shown register = codes "r" ++ decimal register

-- words
abbrev pub choice_shown : Choice → List ℕ
choice_shown choices.Any = codes "any"
choice_shown choices.All = codes "all"

abbrev pub relation_shown : Relation → List ℕ
relation_shown relations.Equal = codes "=="
relation_shown relations.Unequal = codes "!="
relation_shown relations.Greater = codes ">"
relation_shown relations.Less = codes "<"
relation_shown relations.AtLeast = codes ">="
relation_shown relations.AtMost = codes "<="
relation_shown relations.Contains = codes "contains"

abbrev pub function_shown : Function → List ℕ
function_shown functions.Len = codes "len"
function_shown functions.Count = codes "count"
function_shown functions.Upper = codes "upper"
function_shown functions.Lower = codes "lower"
function_shown functions.Min = codes "min"
function_shown functions.Max = codes "max"

abbrev pub operation_shown : Arithmetic → List ℕ
operation_shown Sum = codes "ADD"
operation_shown Difference = codes "SUB"
operation_shown Product = codes "MUL"

abbrev pub extreme_shown : Extreme → List ℕ
extreme_shown Least = codes "MIN"
extreme_shown Greatest = codes "MAX"

-- the pattern of a number; one that no pattern has is shown as no bytes
abbrev pub pattern_at : List (List ℕ) → ℕ → List ℕ
pattern_at patterns n = unwrap_or (slice_get patterns n) []

-- words with single spaces between them
abbrev pub spaced : List (List ℕ) → List ℕ
spaced [] = []
spaced (word ∷ []) = word
spaced (word ∷ words) = word ++ (codes " " ++ spaced words)

-- an instruction at a place; a jump says where it leads
unfoldable pub instr_shown : List (List ℕ) → ℕ → Instr → List ℕ
instr_shown patterns at (instr.Read r field layers) =
    spaced (codes "READ" ∷ register_shown r ∷ field_shown field layers ∷ [])
instr_shown patterns at (instr.Const r c) =
    spaced (codes "CONST" ∷ register_shown r ∷ constant_shown c ∷ [])
instr_shown patterns at (instr.Slice r q ranges) =
    spaced (codes "SLICE" ∷ register_shown r ∷ register_shown q ∷ ranges_shown ranges ∷ [])
instr_shown patterns at (instr.Mask r q mask) =
    spaced (codes "MASK" ∷ register_shown r ∷ register_shown q ∷ decimal mask ∷ [])
instr_shown patterns at (instr.Call r function q) =
    spaced (codes "CALL" ∷ register_shown r ∷ function_shown function ∷ register_shown q ∷ [])
instr_shown patterns at (instr.Count r field layers) =
    spaced (codes "COUNT" ∷ register_shown r ∷ field_shown field layers ∷ [])
instr_shown patterns at (instr.Compute r operation p q) =
    spaced (operation_shown operation ∷ register_shown r ∷ register_shown p ∷ register_shown q ∷ [])
instr_shown patterns at (instr.Choose r extreme p q) =
    spaced (extreme_shown extreme ∷ register_shown r ∷ register_shown p ∷ register_shown q ∷ [])
instr_shown patterns at (instr.Save r) = spaced (codes "SAVE" ∷ register_shown r ∷ [])
instr_shown patterns at (instr.Test choice relation p q) =
    spaced (codes "TEST" ∷ choice_shown choice ∷ relation_shown relation ∷ register_shown p
    ∷ register_shown q ∷ [])
instr_shown patterns at (instr.In choice r ms) =
    spaced (codes "IN" ∷ choice_shown choice ∷ register_shown r ∷ members_shown ms ∷ [])
instr_shown patterns at (instr.Match choice r n) =
    spaced (codes "MATCH" ∷ choice_shown choice ∷ register_shown r
    ∷ string_shown (pattern_at patterns n) ∷ [])
instr_shown patterns at (instr.NonZero r) = spaced (codes "NONZERO" ∷ register_shown r ∷ [])
instr_shown patterns at instr.Not = codes "NOT"
instr_shown patterns at (instr.Differ r) = spaced (codes "XOR" ∷ register_shown r ∷ [])
instr_shown patterns at (instr.JumpFalse n) = spaced (codes "JF" ∷ decimal (at + 1 + n) ∷ [])
instr_shown patterns at (instr.JumpTrue n) = spaced (codes "JT" ∷ decimal (at + 1 + n) ∷ [])
instr_shown patterns at instr.Return = codes "RETURN"

-- a jump from a place leads to one below 2^32
abbrev pub IsNear : ℕ → Instr → Type 0
IsNear at (instr.JumpFalse n) = at + 1 + n < 2 ^ 32
IsNear at (instr.JumpTrue n) = at + 1 + n < 2 ^ 32
IsNear at i = Unit {0}

abbrev pub line_shown : List (List ℕ) → ℕ → Instr → List ℕ
line_shown patterns at i = spaced (decimal at ∷ instr_shown patterns at i ∷ []) ++ codes "\n"

-- the lines of instructions from a place on
abbrev pub lines_from : List (List ℕ) → ℕ → List Instr → List ℕ
lines_from patterns at [] = []
lines_from patterns at (i ∷ items) = line_shown patterns at i ++ lines_from patterns (at + 1) items

unfoldable pub listing_of : Code → Typed → List ℕ
listing_of code filter = lines_from (patterns_of filter) 0 code.items
