-- What patterns are made from.
use Rattle.std.specs.Prelude.{ℕ, List, [], map}
use Rattle.std.proofs.Common.{Bor}
use Rattle.flt_program.specs.Programs.{patterns_of}
use Rattle.flt_typed.specs.declared.pattern.Pattern.{Pattern}
use Rattle.flt_typed.specs.declared.typed.Typed.{Typed}
use Rattle.flt_typed.specs.declared.typed.Typed.TheVariants.{Either', Differ', Both'}

abbrev pub sources_of : List (Bor Pattern) → List (List ℕ)
sources_of patterns = map (λ (p : Bor Pattern). p.now) patterns

-- the patterns to the right of a filter's outermost sign
abbrev pub patterns_right : Typed → List (List ℕ)
patterns_right (Either' p left q right) = patterns_of right
patterns_right (Differ' p left q right) = patterns_of right
patterns_right (Both' p left q right) = patterns_of right
patterns_right filter = []
