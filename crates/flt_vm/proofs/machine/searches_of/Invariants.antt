use Rattle.std.proofs.Common.{◌≡◌, ◌++◌, drop}
use Rattle.flt_program.specs.Sources.{sources_of}
use Rattle.flt_vm.proofs.machine.searches_of.Given as goal

abbrev pub invariant-loop-pattern : goal.invariant-loop-pattern
invariant-loop-pattern l = l.searches.items ++ sources_of (drop l.pattern-index l.patterns) ≡ sources_of l.patterns
