use Rattle.std.proofs.Common.{◌≤◌, ◌<◌, arith, length}
use Rattle.stream_messages.proofs.LengthLemmas.{digits_step, digits_fit, digit_at}
use Rattle.stream_messages.proofs.lengths.number_of.Goals as goal

pub overflow_mul-number : goal.overflow_mul-number
overflow_mul-number c =
    let some : 1 ≤ c.args.radix = omega arith in
    let inside : c.loop-digit.digit-index < length c.args.digits.now = omega arith in
    omega (arith, digits_fit c.args.radix c.args.digits.now c.loop-digit.digit-index c.loop-digit.number some inside c.loop-digit.invariant c.requires.fits)

pub digit_value-requires : goal.digit_value-requires
digit_value-requires c =
    let inside : c.loop-digit.digit-index < length c.args.digits.now = omega arith in
    omega (arith, digit_at c.args.radix c.args.digits.now c.loop-digit.digit-index c.requires.digits inside)

pub overflow_add-number : goal.overflow_add-number
overflow_add-number c =
    let some : 1 ≤ c.args.radix = omega arith in
    let inside : c.loop-digit.digit-index < length c.args.digits.now = omega arith in
    omega (arith, digits_fit c.args.radix c.args.digits.now c.loop-digit.digit-index c.loop-digit.number some inside c.loop-digit.invariant c.requires.fits, c.digit_value.ensures)

pub loop-digit-preserved : goal.loop-digit-preserved
loop-digit-preserved c =
    let some : 1 ≤ c.args.radix = omega arith in
    let inside : c.loop-digit.digit-index < length c.args.digits.now = omega arith in
    let step = digits_step c.args.radix c.args.digits.now c.loop-digit.digit-index c.loop-digit.number some inside c.loop-digit.invariant in
    cc (step)
