-- What holds of every text.
use Rattle.std.specs.Prelude.{◌≡◌, ◌≢◌, ◌⊎◌, ℕ, List}
use Rattle.flt_mean.specs.Meaning.{meaning}
use Rattle.flt_syntax.specs.declared.fault.FilterError.TheVariants.{Fault}
use Rattle.flt_syntax.specs.declared.fault.FilterFault.{FilterFault}
use Rattle.flt_syntax.specs.declared.fault.FilterReason.TheVariants.{PatternSize}
use Rattle.flt_typing.specs.Texts.{IsTypedText}
use Rattle.flt_typed.specs.declared.typed.Typed.{Typed}
use Rattle.flt_types.specs.TextFaults.{IsFilterFault}
use Rattle.pk_tree.specs.Trees.{TreeShown}

-- a text is a filter, or has a first fault that isn't the size of a pattern
abbrev pub TypedOrRefused : Type 0
TypedOrRefused = (text : List ℕ) → ((filter : Typed) × IsTypedText text filter)
    ⊎ ((fault : FilterFault) × IsFilterFault text (Fault fault) × (fault.reason ≢ PatternSize))

-- a text that is a filter may be refused for a pattern's size, and for nothing else
abbrev pub TypedOrFault : Type 0
TypedOrFault = (text : List ℕ) (filter : Typed) (fault : FilterFault) → IsTypedText text filter
    → IsFilterFault text (Fault fault)
    → fault.reason ≡ PatternSize

-- a text has at most one first fault, but that a pattern's size may be one in its stead
abbrev pub OneFault : Type 0
OneFault = (text : List ℕ) (f g : FilterFault) → IsFilterFault text (Fault f)
    → IsFilterFault text (Fault g)
    → (f ≡ g) ⊎ ((f.reason ≡ PatternSize) ⊎ (g.reason ≡ PatternSize))

-- a text has one meaning
abbrev pub OneMeaning : Type 0
OneMeaning = (text : List ℕ) (f g : Typed) (tree : TreeShown) → IsTypedText text f
    → IsTypedText text g → meaning f tree ≡ meaning g tree
