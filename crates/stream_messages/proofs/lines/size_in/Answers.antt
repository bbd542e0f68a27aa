use Rattle.std.proofs.Common.{ℕ, take, subst, sym, arith}
use Rattle.std.specs.Str.Parse.{AllDigits}
use Rattle.stream_messages.proofs.SizeLemmas.{hex_digits, counted_fits}
use Rattle.stream_messages.proofs.lines.size_in.Goals as goal

pub number_of-requires-clause-digits : goal.number_of-requires-clause-digits
number_of-requires-clause-digits c =
    subst (λ (n : ℕ). AllDigits 16 (take n c.args.line.now)) (sym c.digits_len-count.ensures.value) (hex_digits c.args.line.now)

pub number_of-requires-clause-fits : goal.number_of-requires-clause-fits
number_of-requires-clause-fits c = omega (arith, counted_fits c.args.line.now c.digits_len-count.result c.digits_len-count.ensures.value (omega arith))

pub returns-clause-fits : goal.returns-clause-fits
returns-clause-fits c = omega (arith, c.number_of.ensures, counted_fits c.args.line.now c.digits_len-count.result c.digits_len-count.ensures.value (omega arith))
