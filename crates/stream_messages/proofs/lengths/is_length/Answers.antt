use Rattle.std.proofs.Common.{◌∙◌, sym, arith}
use Rattle.stream_messages.proofs.LengthLemmas.{all_digits, length_fits}
use Rattle.stream_messages.proofs.lengths.is_length.Goals as goal

pub returns-then-value-le18-clause-fits : goal.returns-then-value-le18-clause-fits
returns-then-value-le18-clause-fits c =
    λ e. length_fits c.args.value.now (omega arith) (all_digits c.args.value.now (sym c.are_digits.ensures ∙ e))

pub returns-then-value-le18-clause-digits : goal.returns-then-value-le18-clause-digits
returns-then-value-le18-clause-digits c = λ e. all_digits c.args.value.now (sym c.are_digits.ensures ∙ e)
