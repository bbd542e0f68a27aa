use Rattle.std.proofs.Common.{◌≡◌, ◌-◌, reverse, take}
use Rattle.std.specs.List.{find}
use Rattle.cap_stats.specs.Told.{is_ip}
use Rattle.cap_stats.proofs.headers.last_ip.Given as goal

abbrev pub invariant-loop-step : goal.invariant-loop-step
invariant-loop-step l = find is_ip (reverse (take l.at l.outline.layers)) ≡ find is_ip (reverse (take (l.at - l.step) l.outline.layers))
