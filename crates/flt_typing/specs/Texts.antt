-- A filter's text and its typed filter.
use Rattle.std.specs.Prelude.{ℕ, List}
use Rattle.flt_syntax.specs.Filters.{IsFilterText}
use Rattle.flt_syntax.specs.Written.{Written}
use Rattle.flt_typing.specs.Typing.{HasType}
use Rattle.flt_typed.specs.declared.typed.Typed.{Typed}

-- the text is this filter
abbrev pub IsTypedText : List ℕ → Typed → Type 0
IsTypedText text filter = (tree : Written) × IsFilterText text tree × HasType tree filter

-- some text's filter
abbrev pub IsFilter : Typed → Type 0
IsFilter filter = (text : List ℕ) × IsTypedText text filter
