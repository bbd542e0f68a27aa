-- Which protocols the output asks for.
use Rattle.std.specs.Prelude.{◌≡◌, ℕ, true, List}
use Rattle.pk_fields.specs.FieldSets.{is_in}
use Rattle.dissect.specs.Protocols.{IsOne}

-- a set has all protocols
abbrev pub HasProtocols : List ℕ → Type 0
HasProtocols wanted = (proto : ℕ) → IsOne proto → is_in wanted proto ≡ true
