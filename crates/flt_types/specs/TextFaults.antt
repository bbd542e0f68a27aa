-- The first fault of a text that is no filter.
use Rattle.std.specs.Prelude.{◌⊎◌, ℕ, List}
use Rattle.flt_syntax.specs.Filters.{IsFilterText, IsFirstFault}
use Rattle.flt_syntax.specs.Written.{Written}
use Rattle.flt_syntax.specs.declared.fault.FilterError.{FilterError}
use Rattle.flt_syntax.specs.declared.fault.FilterError.TheVariants.{Fault, NoMemory}
use Rattle.flt_syntax.specs.declared.fault.FilterFault.{FilterFault}
use Rattle.flt_types.specs.Faults.{IsFirst, faults}

-- the first fault of the types of a text that has a tree
abbrev pub IsTypeFault : List ℕ → FilterFault → Type 0
IsTypeFault text fault =
    (tree : Written) × IsFilterText text tree × IsFirst (faults tree) fault.at fault.reason

-- the text has no filter, for this reason: the first fault of its letters or its syntax, else of its types
abbrev pub IsFilterFault : List ℕ → FilterError → Type 0
IsFilterFault text NoMemory = Unit {0}
IsFilterFault text (Fault fault) = IsFirstFault text fault ⊎ IsTypeFault text fault
