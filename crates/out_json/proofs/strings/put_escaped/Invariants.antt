use Rattle.std.proofs.Common.{◌≡◌, ◌++◌, drop}
use Rattle.json.specs.Print.{escape}
use Rattle.out_json.proofs.strings.put_escaped.Given as goal

abbrev pub invariant-loop-byte : goal.invariant-loop-byte
invariant-loop-byte l =
    l.line ++ escape (drop l.byte-index l.text) ≡ l.initial.line ++ escape l.text
