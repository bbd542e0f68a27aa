-- What the parser answers, beside the reading.
use Rattle.std.specs.Prelude.{◌≡◌, ℕ, Bool, true, false, List, Option, Some, None}
use Rattle.flt_syntax.specs.Filters.{IsTokenFault, place_of}
use Rattle.flt_parse.specs.Parser.Reading as reading
use Rattle.flt_syntax.specs.declared.fault.FilterError.{FilterError}
use Rattle.flt_syntax.specs.declared.fault.FilterError.TheVariants as errors
use Rattle.flt_syntax.specs.declared.fault.FilterReason.TheVariants.{Unexpected}
use Rattle.flt_parse.specs.declared.state.Refusal.{Refusal}
use Rattle.flt_parse.specs.declared.state.Refusal.TheVariants.{Fault, NoMemory}
use Rattle.flt_syntax.specs.declared.token.Kind.{Kind}
use Rattle.flt_syntax.specs.declared.token.Kind.TheVariants as kinds
use Rattle.flt_syntax.specs.declared.token.Token.{Token}

-- an operand that goes on, or a token that doesn't go on with it
abbrev pub further : Option reading.Spot → reading.Side → List reading.Waiting → List reading.Call
    → reading.Frame → List reading.Frame → reading.Move
further (Some s) side ws calls f around = reading.Go (reading.InOperand s side ws calls f around)
further None side ws calls f around = reading.Stop Unexpected

-- the tokens that begin more than a test without `any` and `all`
abbrev pub begins_more : Kind → Bool
begins_more (kinds.Negates n) = true
begins_more kinds.Open = true
begins_more (kinds.Chooses c) = true
begins_more kind = false

-- the tokens read from a state on
abbrev pub tokens_read : ℕ → reading.State → List Token → reading.Answer Token
tokens_read limit s ts = reading.read (λ t. t.kind) limit s ts

-- a refusal at a place
abbrev pub refused : Refusal → ℕ → FilterError
refused (Fault r) at = errors.Fault (record { at = at; reason = r })
refused NoMemory at = errors.NoMemory

-- why no filter is read, where memory allows: the fault stands at the place of the first token that is left
abbrev pub IsReadError : ℕ → reading.Answer Token → FilterError → Type 0
IsReadError end answer (errors.Fault fault) =
    (rest : List Token) × (answer ≡ reading.Bad fault.reason rest) × (fault.at ≡ place_of rest end)
IsReadError end answer errors.NoMemory = Unit {0}

abbrev pub IsParseError : ℕ → List Token → FilterError → Type 0
IsParseError end tokens (errors.Fault fault) = IsTokenFault end tokens fault
IsParseError end tokens errors.NoMemory = Unit {0}
