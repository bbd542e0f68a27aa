use Rattle.std.proofs.Common.{◌≡◌, drop}
use Rattle.std.specs.List.{list_all}
use Rattle.flt_typing.specs.Ranges.{is_range}
use Rattle.flt_types.specs.Faults.{ranges_faults}
use Rattle.flt_types.proofs.ranges.check_ranges.Given as goal

abbrev pub invariant-loop-range : goal.invariant-loop-range
invariant-loop-range l = record {
  all : list_all (λ r. is_range r.part) l.ranges ≡ list_all (λ r. is_range r.part) (drop l.range-index l.ranges);
  faults : ranges_faults l.ranges ≡ ranges_faults (drop l.range-index l.ranges);
}
