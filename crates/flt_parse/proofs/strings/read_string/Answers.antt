use Rattle.std.proofs.Common.{◌≡◌, length, drop, Some, length-drop, arith, ap, sym, ◌∙◌, rules}
use Rattle.flt_syntax.specs.Strings.{piece}
use Rattle.flt_parse.proofs.Inside.{read_on}
use Rattle.flt_parse.proofs.strings.read_string.Goals as goal

pub pieces-preserved : goal.pieces-preserved
pieces-preserved c =
    let rest : c.bytes_from.result.now ≡ drop c.pieces.at c.args.text.now = c.bytes_from.ensures in
    let read : piece (drop c.pieces.at c.args.text.now) ≡ Some (c.in-Some.piece.value, c.in-Some.piece.width) = ap piece (sym rest) ∙ sym c.in-Some.ensures.value in
    let within = c.in-Some.ensures.within in
    record {
      within = omega (arith, ap length rest, length-drop c.pieces.at c.args.text.now);
      read = rw c.in-Ok.ensures.items (read_on c.args.text.now c.pieces.bytes.items c.pieces.at c.in-Some.piece.value c.in-Some.piece.width (omega arith) (search rules) read within.0 c.pieces.invariant.read);
    }
