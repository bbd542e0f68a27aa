use Rattle.std.proofs.Common.{◌≡◌, ◌-◌, ◌≤◌, length, drop}
use Rattle.flt_syntax.specs.Strings.{string_inside}
use Rattle.flt_parse.proofs.Inside.{behind}
use Rattle.flt_parse.proofs.strings.read_string.Given as goal

abbrev pub invariant-pieces : goal.invariant-pieces
invariant-pieces l = record {
  within : l.at ≤ length l.text;
  read : string_inside 0 l.text ≡ behind l.bytes.items l.at (string_inside 0 (drop l.at l.text));
}

abbrev pub decreases-pieces : goal.decreases-pieces
decreases-pieces l = length l.text - l.at
