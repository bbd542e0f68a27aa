-- What holds of every filter.
use Rattle.std.specs.Prelude.{ℕ, List}
use Rattle.flt_code.specs.Decides.{Agrees, Decides}
use Rattle.flt_syntax.specs.Grammar.{IsGrouped}
use Rattle.flt_syntax.specs.Written.{Written}
use Rattle.flt_typing.specs.Texts.{IsTypedText}
use Rattle.flt_typing.specs.Typing.{HasType}
use Rattle.flt_typed.specs.declared.typed.Typed.{Typed}
use Rattle.flt_program.specs.Programs.{Code}

-- a program that decides the filter, and in no tree ends with anything but its truth
abbrev pub HasProgram : Typed → Type 0
HasProgram filter = (code : Code) × Decides code filter × Agrees code filter

-- each filter that a syntax tree is has one
abbrev pub FiltersHavePrograms : Type 0
FiltersHavePrograms =
    (w : Written) (filter : Typed) → HasType w filter → IsGrouped w → HasProgram filter

-- and each that a text is
abbrev pub TextsHavePrograms : Type 0
TextsHavePrograms =
    (text : List ℕ) (filter : Typed) → IsTypedText text filter → HasProgram filter
