use Rattle.std.proofs.Common.{◌≡◌, length}
use Rattle.std.specs.Option.{option_map}
use Rattle.capture_formats.specs.Options.{after_all, options_of, settings_of}
use Rattle.capture_formats.proofs.options.read_options.Given as goal

-- what was read, and then the options still to come, say what all say
abbrev pub invariant-loop-rest : goal.invariant-loop-rest
invariant-loop-rest l = option_map (after_all l.settings) (options_of l.little 0 l.rest) ≡ settings_of l.little l.fn.bytes

abbrev pub decreases-loop-rest : goal.decreases-loop-rest
decreases-loop-rest l = length l.rest
