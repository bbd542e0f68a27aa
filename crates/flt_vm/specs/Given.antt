-- What instructions take beside what they own.
use Rattle.std.specs.Prelude.{◌<◌, ℕ, List, length}
use Rattle.flt_vm.specs.Slots.{IsKept, IsSet}
use Rattle.flt_vm.specs.declared.given.Takes.{Takes}
use Rattle.flt_vm.specs.declared.given.Takes.TheVariants as takes
use Rattle.flt_program.specs.declared.instr.Instr.{Instr}
use Rattle.flt_program.specs.declared.instr.Instr.TheVariants as instr
use Rattle.flt_vm.specs.declared.slots.Slot.{Slot}
use Rattle.pk_tree.specs.Trees.{TreeShown}

abbrev pub takes_of : Instr → Takes
takes_of (instr.Slice r q ranges) = takes.One q
takes_of (instr.Mask r q mask) = takes.One q
takes_of (instr.Call r function q) = takes.One q
takes_of (instr.Compute r operation p q) = takes.Two p q
takes_of (instr.Choose r extreme p q) = takes.Two p q
takes_of (instr.Test choice relation p q) = takes.Two p q
takes_of (instr.In choice r ms) = takes.One r
takes_of (instr.Match choice r n) = takes.Searched r n
takes_of (instr.NonZero r) = takes.One r
takes_of (instr.Differ r) = takes.Kept r
takes_of i = takes.Nothing

-- an instruction finds what it takes
abbrev pub Finds : TreeShown → List (List ℕ) → List Slot → Takes → Type 0
Finds tree patterns all takes.Nothing = Unit {0}
Finds tree patterns all (takes.One q) = IsSet all q
Finds tree patterns all (takes.Two p q) = IsSet all p × IsSet all q
Finds tree patterns all (takes.Searched q n) = IsSet all q × (n < length patterns)
Finds tree patterns all (takes.Kept q) = IsKept tree all q
