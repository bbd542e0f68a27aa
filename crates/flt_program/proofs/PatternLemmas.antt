-- The patterns of a filter are those of its left side, and then those of its right one.
use Rattle.std.proofs.Common.{◌≡◌, ℕ, Some, List, ◌++◌, append_assoc, ap, sym, ◌∙◌}
use Rattle.std.proofs.lemmas.Option.{same_Some}
use Rattle.flt_program.specs.Programs.{patterns_of}
use Rattle.flt_program.specs.Sources.{patterns_right}
use Rattle.flt_chains.specs.Parts.{left_of_filter}
use Rattle.flt_typed.specs.declared.typed.Typed.{Typed}
use Rattle.flt_typed.specs.declared.typed.Typed.TheVariants.{Either', Differ', Both'}

patterns_parted : (filter part : Typed) → left_of_filter filter ≡ Some part → patterns_of filter ≡ patterns_of part ++ patterns_right filter
patterns_parted (Either' p left q right) part is = ap (λ x. patterns_of x ++ patterns_of right) (same_Some left part is)
patterns_parted (Differ' p left q right) part is = ap (λ x. patterns_of x ++ patterns_of right) (same_Some left part is)
patterns_parted (Both' p left q right) part is = ap (λ x. patterns_of x ++ patterns_of right) (same_Some left part is)
patterns_parted filter part is = cc

pub patterns_next : (old ps qs : List (List ℕ)) (filter part : Typed) → left_of_filter filter ≡ Some part → ps ≡ old ++ patterns_of part
    → qs ≡ ps ++ patterns_right filter → qs ≡ old ++ patterns_of filter
patterns_next old ps qs filter part is first second =
    second ∙ ap (λ xs. xs ++ patterns_right filter) first ∙ append_assoc old (patterns_of part) (patterns_right filter) ∙ ap (λ xs. old ++ xs) (sym (patterns_parted filter part is))
