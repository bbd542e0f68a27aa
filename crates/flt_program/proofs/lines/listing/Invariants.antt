use Rattle.std.proofs.Common.{◌≡◌, ◌++◌, drop}
use Rattle.flt_program.specs.Listing.{lines_from}
use Rattle.flt_program.specs.Sources.{sources_of}
use Rattle.flt_program.proofs.lines.listing.Given as goal

abbrev pub invariant-loop-at : goal.invariant-loop-at
invariant-loop-at l =
    l.lines.items ++ lines_from (sources_of l.patterns.items) l.at (drop l.at l.code) ≡ lines_from (sources_of l.patterns.items) 0 l.code
