-- The fields whose values a program asks for.
use Rattle.std.specs.Prelude.{◌≡◌, ◌==◌, ◌||◌, ℕ, Bool as Truth, true, false, List, [], ◌∷◌, Some}
use Rattle.std.specs.List.{slice_get}
use Rattle.flt_program.specs.Programs.{Code}
use Rattle.flt_program.specs.declared.instr.Instr.{Instr}
use Rattle.flt_program.specs.declared.instr.Instr.TheVariants as instr
use Rattle.pk_fields.specs.Fields.{row_of}
use Rattle.pk_fields.specs.FieldSets.{is_in}

-- a set of fields has the one that an instruction asks for
abbrev pub HasField : List ℕ → Instr → Type 0
HasField set (instr.Read r field layers) = is_in set field ≡ true
HasField set (instr.Count r field layers) = is_in set field ≡ true
HasField set i = Unit {0}

-- and each that a program asks for
unfoldable pub HasCode : List ℕ → Code → Type 0
HasCode set code = (at : ℕ) (i : Instr) → slice_get code.items at ≡ Some i → HasField set i

-- the field that an instruction asks for, and the protocol in whose layers it stands
abbrev pub asks_by : Instr → ℕ → Truth
asks_by (instr.Read r field layers) f = f == field || f == (row_of field).proto
asks_by (instr.Count r field layers) f = f == field || f == (row_of field).proto
asks_by i f = false

-- those of instructions
abbrev pub asks_in : List Instr → ℕ → Truth
asks_in [] f = false
asks_in (i ∷ items) f = asks_by i f || asks_in items f
