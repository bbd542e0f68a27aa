-- Which trees a program lets through.
use Rattle.std.specs.Prelude.{Bool, true, Option, Some, None}
use Rattle.flt_mean.specs.Meaning.{meaning}
use Rattle.flt_vm.specs.Verdicts.{verdict_of}
use Rattle.flt_vm.specs.declared.run.Verdict.{Verdict}
use Rattle.pk_tree.specs.Trees.{TreeShown}
use Rattle.run_frames.specs.Compiled.{CompiledShown}

-- the flag at the end of a run, and its steps; in the tree of a frame each program that fits its filter has a run, so that the truth
-- of the filter isn't asked
abbrev pub decided : Option Verdict → Bool → Verdict
decided None truth = record { holds = truth; steps = 0 }
decided (Some verdict) truth = verdict

-- what the run of the program on a tree answers; where there is no program every tree is let through, in no step
unfoldable pub judged : Option CompiledShown → TreeShown → Verdict
judged None tree = record { holds = true; steps = 0 }
judged (Some compiled) tree = decided (verdict_of compiled.program compiled.filter tree) (meaning compiled.filter tree)

-- whether the run ends with the flag true
abbrev pub satisfies : Option CompiledShown → TreeShown → Bool
satisfies chosen tree = (judged chosen tree).holds
