-- What holds of every tree.
use Rattle.std.specs.Prelude.{ℕ, List}
use Rattle.flt_syntax.specs.Filters.{IsFilterText}
use Rattle.flt_syntax.specs.Written.{Written}
use Rattle.flt_typing.specs.Typing.{HasType}
use Rattle.flt_typed.specs.declared.typed.Typed.{Typed}
use Rattle.flt_types.specs.Faults.{IsClear, faults}

-- a tree with a type has no fault
abbrev pub TypedIsClear : Type 0
TypedIsClear = (tree : Written) (filter : Typed) → HasType tree filter → IsClear (faults tree)

-- a text's tree without a fault has a type
abbrev pub ClearIsTyped : Type 0
ClearIsTyped = (text : List ℕ) (tree : Written) → IsFilterText text tree → IsClear (faults tree)
    → (filter : Typed) × HasType tree filter
