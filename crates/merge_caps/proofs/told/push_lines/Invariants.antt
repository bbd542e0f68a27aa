use Rattle.std.proofs.Common.{◌≡◌, ◌++◌, drop, string_bytes}
use Rattle.merge_caps.specs.Texts.{damage_lines}
use Rattle.merge_caps.proofs.told.push_lines.Given as goal

abbrev pub invariant-loop-place : goal.invariant-loop-place
invariant-loop-place l =
    string_bytes l.text ++ damage_lines (drop l.place l.names) (drop l.place l.endings) ≡ string_bytes l.fn.text ++ damage_lines l.names l.endings
