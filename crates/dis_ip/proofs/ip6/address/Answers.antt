use Rattle.std.proofs.Common.{◌≡◌, ◌+◌, ◌*◌, ◌^◌, arith}
use Rattle.std.proofs.lemmas.Bool.Decides.{nat_tests}
use Rattle.pk_base.specs.Bits.{number_of_bits}
use Rattle.pk_tree.specs.Layouts.{peeked}
use Rattle.pk_base.proofs.JoinedBits.{bits_joined}
use Rattle.dis_ip.proofs.ip6.address.Goals as goal

pub returns : goal.returns
unfolding peeked
returns c =
    let bytes = c.args.bytes.now in
    let first = c.args.first_bit in
    let joined : number_of_bits bytes first 128 ≡ number_of_bits bytes first 64 * 2 ^ 64 + number_of_bits bytes (first + 64) 64 = bits_joined bytes first 64 64 in
    grind (arith, nat_tests, joined, c.from.ensures, c.be_bits.ensures.value, c.be_bits.ensures.bound, c.from-2.ensures, c.be_bits-2.ensures.value, c.be_bits-2.ensures.bound)
