-- What holds of every text.
use Rattle.std.specs.Prelude.{◌≡◌, ◌⊎◌, ℕ, List}
use Rattle.flt_syntax.specs.Filters.{IsFilterText, IsFirstFault}
use Rattle.flt_syntax.specs.Written.{Written}
use Rattle.flt_syntax.specs.declared.fault.FilterFault.{FilterFault}

-- no text is a filter and has a fault
abbrev pub NeverBoth : Type 0
NeverBoth = (text : List ℕ) (filter : Written) (fault : FilterFault) → IsFilterText text filter
    → IsFirstFault text fault → ⊥

-- a text has at most one first fault
abbrev pub OneFault : Type 0
OneFault = (text : List ℕ) (f g : FilterFault) → IsFirstFault text f → IsFirstFault text g → f ≡ g

-- a text is at most one filter
abbrev pub OneFilter : Type 0
OneFilter = (text : List ℕ) (t u : Written) → IsFilterText text t → IsFilterText text u → t ≡ u

-- a text is a filter or has a first fault
abbrev pub FilterOrFault : Type 0
FilterOrFault = (text : List ℕ)
    → ((filter : Written) × IsFilterText text filter)
    ⊎ ((fault : FilterFault) × IsFirstFault text fault)
