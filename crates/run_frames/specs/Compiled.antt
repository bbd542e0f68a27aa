-- A filter with its program.
use Rattle.std.specs.Prelude.{◌≡◌}
use Rattle.flt_typed.specs.declared.typed.Typed.{Typed}
use Rattle.flt_program.specs.Programs.{Code, patterns_of}
use Rattle.flt_vm.specs.Programs.{FitsFilter, Ready}

-- what is asked of a tree, and the program that decides it
pub record CompiledShown : Type 0 where
  pub filter : Typed
  pub program : Code

-- a machine runs the program, which fits the filter, and searches for the filter's patterns
pub record IsReadyFor (compiled : CompiledShown) (machine : Ready) : Type 0 where
  pub fits : FitsFilter compiled.program compiled.filter
  pub code : machine.code ≡ compiled.program
  pub patterns : machine.patterns ≡ patterns_of compiled.filter
