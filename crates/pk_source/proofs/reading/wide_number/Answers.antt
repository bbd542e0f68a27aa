use Rattle.std.proofs.Common.{◌≡◌, ◌+◌, ◌*◌, ◌^◌, arith}
use Rattle.pk_base.specs.Bits.{number_of_bits}
use Rattle.pk_base.proofs.JoinedBits.{bits_joined}
use Rattle.pk_source.proofs.reading.wide_number.Goals as goal

pub returns : goal.returns
returns c =
    let bytes = c.args.bytes.now in
    let joined : number_of_bits bytes 0 128 ≡ number_of_bits bytes 0 64 * 2 ^ 64 + number_of_bits bytes 64 64 = bits_joined bytes 0 64 64 in
    omega (arith, c.from.ensures, c.be_bits.ensures.value, c.be_bits.ensures.bound, c.from-2.ensures, c.be_bits-2.ensures.value)
