-- What slots stand for in a tree: what a register holds, and the flag.
use Rattle.std.specs.Prelude.{◌≡◌, ◌<◌, ℕ, Bool as Truth, true, false, ◌+◌, List, get_or, length, map, Option, Some, None, slice_get}
use Rattle.flt_lists.specs.Passes.{is_some_value}
use Rattle.flt_vm.specs.Held.{Held, constant_held, kept_truth, plain, truth_held}
use Rattle.flt_vm.specs.Machine.{Job, Move, Goes, Ends, Missing, Runs, State}
use Rattle.flt_program.specs.declared.instr.Instr.{Instr}
use Rattle.flt_program.specs.declared.instr.Instr.TheVariants as instr
use Rattle.flt_vm.specs.declared.slots.Flag.{Flag}
use Rattle.flt_vm.specs.declared.slots.Flag.TheVariants as flags
use Rattle.flt_vm.specs.declared.slots.Gathered.{Gathered}
use Rattle.flt_vm.specs.declared.slots.Gathered.TheVariants.{Own, Lent}
use Rattle.flt_vm.specs.declared.slots.Slot.{Slot}
use Rattle.flt_vm.specs.declared.slots.Slot.TheVariants as slots
use Rattle.pk_tree.specs.FieldValues.{values_of}
use Rattle.pk_tree.specs.Trees.{TreeShown}
use Rattle.pk_base.specs.declared.value.Value.{Value}

abbrev pub held_in : TreeShown → Slot → Option Held
held_in tree slots.Unset = None
held_in tree (slots.Field field layers) = Some (plain (values_of tree field layers.now))
held_in tree (slots.Single c) = Some (constant_held c.now)
held_in tree (slots.Truth truth) = Some (truth_held truth)
held_in tree (slots.Values values) = Some (plain values.items)

abbrev pub listed_values : Gathered → List Value
listed_values (Own values) = values.items
listed_values (Lent values) = values.now

abbrev pub is_unset : Slot → Truth
is_unset slots.Unset = true
is_unset slot = false

-- a register is set
abbrev pub IsSet : List Slot → ℕ → Type 0
IsSet all register = (slot : Slot) → slot ≡ get_or all register slot → is_unset slot ≡ false

-- the one truth that a slot keeps
abbrev pub truth_of : Option Held → Option Truth
truth_of None = None
truth_of (Some held) = kept_truth held

abbrev pub truth_in : TreeShown → Slot → Option Truth
truth_in tree slot = truth_of (held_in tree slot)

-- a register keeps one truth
abbrev pub IsKept : TreeShown → List Slot → ℕ → Type 0
IsKept tree all register = (slot : Slot) → slot ≡ get_or all register slot
    → (truth : Truth) × (truth_in tree slot ≡ Some truth)

-- a register is set, to this
abbrev pub IsHeld : TreeShown → List Slot → ℕ → Held → Type 0
IsHeld tree all register held = slice_get (map (held_in tree) all) register ≡ Some (Some held)

abbrev pub flag_in : TreeShown → Flag → Truth
flag_in tree (flags.Known truth) = truth
flag_in tree (flags.IsThere field layers) = is_some_value (values_of tree field layers.now)

abbrev pub state_in : TreeShown → ℕ → Flag → List Slot → State
state_in tree at flag all =
    record { at = at; flag = flag_in tree flag; registers = map (held_in tree) all }

-- where there is a step, it is this one
abbrev pub Does : Move → Move → Type 0
Does (Goes s) move = move ≡ Goes s
Does (Ends flag) move = move ≡ Ends flag
Does Missing move = Unit {0}

-- there is a step
abbrev pub IsThere : Move → Type 0
IsThere (Goes s) = Unit {0}
IsThere (Ends flag) = Unit {0}
IsThere Missing = ⊥

-- what an instruction takes is there: registers that are set, one that keeps a truth, a pattern
abbrev pub IsGiven : TreeShown → List (List ℕ) → List Slot → Instr → Type 0
IsGiven tree patterns all (instr.Slice r q ranges) = IsSet all q
IsGiven tree patterns all (instr.Mask r q mask) = IsSet all q
IsGiven tree patterns all (instr.Call r function q) = IsSet all q
IsGiven tree patterns all (instr.Compute r operation p q) = IsSet all p × IsSet all q
IsGiven tree patterns all (instr.Choose r extreme p q) = IsSet all p × IsSet all q
IsGiven tree patterns all (instr.Test choice relation p q) = IsSet all p × IsSet all q
IsGiven tree patterns all (instr.In choice r ms) = IsSet all r
IsGiven tree patterns all (instr.Match choice r n) = IsSet all r × (n < length patterns)
IsGiven tree patterns all (instr.NonZero r) = IsSet all r
IsGiven tree patterns all (instr.Differ r) = IsKept tree all r
IsGiven tree patterns all i = Unit {0}

-- an instruction's registers are among so many
abbrev pub HasRegisters : ℕ → Instr → Type 0
HasRegisters count (instr.Read r field layers) = r < count
HasRegisters count (instr.Const r c) = r < count
HasRegisters count (instr.Slice r q ranges) = (r < count) × (q < count)
HasRegisters count (instr.Mask r q mask) = (r < count) × (q < count)
HasRegisters count (instr.Call r function q) = (r < count) × (q < count)
HasRegisters count (instr.Count r field layers) = r < count
HasRegisters count (instr.Compute r operation p q) = (r < count) × (p < count) × (q < count)
HasRegisters count (instr.Choose r extreme p q) = (r < count) × (p < count) × (q < count)
HasRegisters count (instr.Save r) = r < count
HasRegisters count (instr.Test choice relation p q) = (p < count) × (q < count)
HasRegisters count (instr.In choice r ms) = r < count
HasRegisters count (instr.Match choice r n) = r < count
HasRegisters count (instr.NonZero r) = r < count
HasRegisters count (instr.Differ r) = r < count
HasRegisters count i = Unit {0}

-- whether an instruction leads to the next one
abbrev pub acts : Instr → Truth
acts (instr.JumpFalse n) = false
acts (instr.JumpTrue n) = false
acts instr.Return = false
acts i = true

-- whether it makes values, or asks registers
abbrev pub works : Instr → Truth
works (instr.Read r field layers) = false
works (instr.Const r c) = false
works (instr.Save r) = false
works instr.Not = false
works (instr.JumpFalse n) = false
works (instr.JumpTrue n) = false
works instr.Return = false
works i = true

-- whether it asks registers
abbrev pub asks_registers : Instr → Truth
asks_registers (instr.Test choice relation p q) = true
asks_registers (instr.In choice r ms) = true
asks_registers (instr.Match choice r n) = true
asks_registers (instr.NonZero r) = true
asks_registers (instr.Differ r) = true
asks_registers i = false

-- the place behind an instruction, and behind as many more as are passed over
abbrev pub place_behind : ℕ → Truth → ℕ → ℕ
place_behind at true count = at + 1 + count
place_behind at false count = at + 1

abbrev pub is_return : Instr → Truth
is_return instr.Return = true
is_return i = false

-- each run from a state comes to another, after so many steps
abbrev pub LeadsTo : Job → State → State → ℕ → Type 0
LeadsTo job first now steps = (total : ℕ) (flag : Truth) → Runs job total first flag
    → (rest : ℕ) × Runs job rest now flag × (steps + rest ≡ total)
