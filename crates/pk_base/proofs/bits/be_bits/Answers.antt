use Rattle.std.proofs.Common.{◌≡◌, ◌<◌, ◌≤◌, ◌+◌, ◌*◌, ◌%◌, ◌^◌, arith, sym}
use Rattle.std.proofs.Math.Facts.{Fits-of_lt}
use Rattle.pk_base.specs.Bits.{number_of_bits}
use Rattle.pk_base.proofs.BitLemmas.{bits_none, bits_bound, byte_more, more_fits, weight_fits}
use Rattle.pk_base.proofs.bits.be_bits.Goals as goal

pub loop-done-init : goal.loop-done-init
loop-done-init c = (omega arith, sym (bits_none c.args.bytes.now c.args.first_bit), omega arith)

pub overflow_mul-number : goal.overflow_mul-number
overflow_mul-number c =
    let room : c.loop-done.done + c.min-count.result ≤ 64 = omega arith in
    let weight : 1 * 2 ^ c.min-count.result % 2 ^ 64 ≡ 2 ^ c.min-count.result = weight_fits c.min-count.result (omega arith) in
    let some : 0 < 2 ^ c.min-count.result = omega (arith, bits_bound c.args.bytes.now c.args.first_bit c.min-count.result) in
    let fits : c.loop-done.number * 2 ^ c.min-count.result + 0 < 2 ^ 64 = more_fits c.loop-done.number 0 c.loop-done.done c.min-count.result c.loop-done.invariant.2 some room in
    Fits-of_lt (rw weight (omega arith))

pub overflow_add-number : goal.overflow_add-number
overflow_add-number c =
    let room : c.loop-done.done + c.min-count.result ≤ 64 = omega arith in
    let weight : 1 * 2 ^ c.min-count.result % 2 ^ 64 ≡ 2 ^ c.min-count.result = weight_fits c.min-count.result (omega arith) in
    Fits-of_lt (rw weight (more_fits c.loop-done.number c.bits_of_byte.result c.loop-done.done c.min-count.result c.loop-done.invariant.2 c.bits_of_byte.ensures.bound room))

pub loop-done-preserved : goal.loop-done-preserved
loop-done-preserved c =
    let weight : 1 * 2 ^ c.min-count.result % 2 ^ 64 ≡ 2 ^ c.min-count.result = weight_fits c.min-count.result (omega arith) in
    let more = byte_more c.args.bytes.now c.args.first_bit c.loop-done.done c.min-count.result c.loop-done.number c.loop-done.invariant.1 (omega arith) in
    let e : c.loop-done.number * (1 * 2 ^ c.min-count.result % 2 ^ 64) + c.bits_of_byte.result ≡ number_of_bits c.args.bytes.now c.args.first_bit (c.loop-done.done + c.min-count.result) = rw (weight, c.bits_of_byte.ensures.value) more in
    (omega arith, e, rw e (bits_bound c.args.bytes.now c.args.first_bit (c.loop-done.done + c.min-count.result)))
