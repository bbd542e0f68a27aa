use Rattle.std.proofs.Common.{◌≡◌, drop}
use Rattle.std.specs.Prelude.{is_some}
use Rattle.std.specs.List.{list_all}
use Rattle.flt_typed.specs.Relations.{octets_of}
use Rattle.flt_lists.proofs.inside.are_bytes.Given as goal

abbrev pub invariant-loop-value : goal.invariant-loop-value
invariant-loop-value l = list_all (λ v. is_some (octets_of v)) (drop l.value-index l.values) ≡ list_all (λ v. is_some (octets_of v)) l.values
