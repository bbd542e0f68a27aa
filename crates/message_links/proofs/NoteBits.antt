-- What is noted of a message of DNS is what its fields tell.
use Rattle.std.proofs.Common.{◌≡◌, ◌==◌, ◌+◌, ◌*◌, ◌/◌, ◌%◌, ◌<◌, ℕ, Bool as Truth, true, false, nat_le, cond, List, [], ◌∷◌, refl, sym, ◌∙◌, inl, inr, arith}
use Rattle.std.proofs.lemmas.Bool.{cases_lt, eqb-false, eqb-true, le-leb, lt-leb}
use Rattle.pk_base.specs.Bits.{number_of_bits, sum_below}
use Rattle.pk_fields.specs.Fields.{row_of}
use Rattle.pk_fields.specs.Ids.{DNS_FLAGS_RESPONSE, DNS_ID}
use Rattle.pk_fields.specs.Table.{rows}
use Rattle.pk_base.specs.declared.value.Value.TheVariants.{Bool, Uint}
use Rattle.pk_tree.specs.Values.{value_of}
use Rattle.message_links.specs.declared.notes.Note.TheVariants.{Answer, Other, Query, Request, Response}
use Rattle.message_links.specs.Laws.{DnsShort, DnsTold, HttpTold, NotesTold}

-- a byte is the sum of its bits
sum_of : (a b c d e f g h r0 r1 r2 r3 r4 r5 r6 r7 : ℕ) → a ≡ r7 → b ≡ 2 * a + r6 → c ≡ 2 * b + r5 → d ≡ 2 * c + r4
    → e ≡ 2 * d + r3 → f ≡ 2 * e + r2 → g ≡ 2 * f + r1 → h ≡ 2 * g + r0
    → r7 * 128 + r6 * 64 + r5 * 32 + r4 * 16 + r3 * 8 + r2 * 4 + r1 * 2 + r0 ≡ h
sum_of a b c d e f g h r0 r1 r2 r3 r4 r5 r6 r7 e7 e6 e5 e4 e3 e2 e1 e0 = omega (arith, e7, e6, e5, e4, e3, e2, e1, e0)

byte_is : (h : ℕ) → h < 256
    → h / 128 % 2 * 128 + h / 64 % 2 * 64 + h / 32 % 2 * 32 + h / 16 % 2 * 16 + h / 8 % 2 * 8 + h / 4 % 2 * 4 + h / 2 % 2 * 2 + h / 1 % 2 ≡ h
byte_is h few =
    let e7 : h / 128 ≡ h / 128 % 2 = omega (arith, few) in
    let e6 : h / 64 ≡ 2 * (h / 128) + h / 64 % 2 = omega arith in
    let e5 : h / 32 ≡ 2 * (h / 64) + h / 32 % 2 = omega arith in
    let e4 : h / 16 ≡ 2 * (h / 32) + h / 16 % 2 = omega arith in
    let e3 : h / 8 ≡ 2 * (h / 16) + h / 8 % 2 = omega arith in
    let e2 : h / 4 ≡ 2 * (h / 8) + h / 4 % 2 = omega arith in
    let e1 : h / 2 ≡ 2 * (h / 4) + h / 2 % 2 = omega arith in
    let e0 : h ≡ 2 * (h / 2) + h / 1 % 2 = omega arith in
    sum_of (h / 128) (h / 64) (h / 32) (h / 16) (h / 8) (h / 4) (h / 2) h
    (h / 1 % 2) (h / 2 % 2) (h / 4 % 2) (h / 8 % 2) (h / 16 % 2) (h / 32 % 2) (h / 64 % 2) (h / 128 % 2) e7 e6 e5 e4 e3 e2 e1 e0

id_read : (bytes : List ℕ) → value_of DNS_ID bytes ≡ Uint (1 * number_of_bits bytes 0 16)
unfolding value_of row_of rows
id_read bytes = refl

flag_read : (bytes : List ℕ) → value_of DNS_FLAGS_RESPONSE bytes ≡ Bool (1 * number_of_bits bytes 0 1 == 1)
unfolding value_of row_of rows
flag_read bytes = refl

id_bits : (high low : ℕ)
    → number_of_bits (high ∷ low ∷ []) 0 16
    ≡ 0 + high / 128 % 2 * 32768 + high / 64 % 2 * 16384 + high / 32 % 2 * 8192 + high / 16 % 2 * 4096
    + high / 8 % 2 * 2048 + high / 4 % 2 * 1024 + high / 2 % 2 * 512 + high / 1 % 2 * 256
    + low / 128 % 2 * 128 + low / 64 % 2 * 64 + low / 32 % 2 * 32 + low / 16 % 2 * 16
    + low / 8 % 2 * 8 + low / 4 % 2 * 4 + low / 2 % 2 * 2 + low / 1 % 2 * 1
unfolding number_of_bits sum_below
id_bits high low = refl

flag_bit : (flags more : ℕ) → number_of_bits (flags ∷ more ∷ []) 0 1 ≡ 0 + flags / 128 % 2 * 1
unfolding number_of_bits sum_below
flag_bit flags more = refl

id_sum : (r0 r1 r2 r3 r4 r5 r6 r7 s0 s1 s2 s3 s4 s5 s6 s7 high low : ℕ)
    → r7 * 128 + r6 * 64 + r5 * 32 + r4 * 16 + r3 * 8 + r2 * 4 + r1 * 2 + r0 ≡ high
    → s7 * 128 + s6 * 64 + s5 * 32 + s4 * 16 + s3 * 8 + s2 * 4 + s1 * 2 + s0 ≡ low
    → 0 + r7 * 32768 + r6 * 16384 + r5 * 8192 + r4 * 4096 + r3 * 2048 + r2 * 1024 + r1 * 512 + r0 * 256
    + s7 * 128 + s6 * 64 + s5 * 32 + s4 * 16 + s3 * 8 + s2 * 4 + s1 * 2 + s0 * 1
    ≡ high * 256 + low
id_sum r0 r1 r2 r3 r4 r5 r6 r7 s0 s1 s2 s3 s4 s5 s6 s7 high low one other = omega (arith, one, other)

id_is : (high low : ℕ) → high < 256 → low < 256 → number_of_bits (high ∷ low ∷ []) 0 16 ≡ high * 256 + low
id_is high low high_few low_few =
    id_bits high low
    ∙ id_sum (high / 1 % 2) (high / 2 % 2) (high / 4 % 2) (high / 8 % 2) (high / 16 % 2) (high / 32 % 2) (high / 64 % 2) (high / 128 % 2)
    (low / 1 % 2) (low / 2 % 2) (low / 4 % 2) (low / 8 % 2) (low / 16 % 2) (low / 32 % 2) (low / 64 % 2) (low / 128 % 2) high low
    (byte_is high high_few) (byte_is low low_few)

flag_is : (flags more : ℕ) → flags < 256 → nat_le 128 flags ≡ (1 * number_of_bits (flags ∷ more ∷ []) 0 1 == 1)
flag_is flags more few = by (1 * number_of_bits (flags ∷ more ∷ []) 0 1 == 1) refl
  where
    bit : number_of_bits (flags ∷ more ∷ []) 0 1 ≡ 0 + flags / 128 % 2 * 1
    bit = flag_bit flags more

    by : (test : Truth) → (1 * number_of_bits (flags ∷ more ∷ []) 0 1 == 1) ≡ test → nat_le 128 flags ≡ test
    by true is =
        let one : 1 * number_of_bits (flags ∷ more ∷ []) 0 1 ≡ 1 = eqb-true (1 * number_of_bits (flags ∷ more ∷ []) 0 1) 1 is in
        le-leb 128 flags (omega (arith, one, bit))
    by false is = elim (cases_lt flags 128) [
      | inl less ↦ lt-leb 128 flags less
      | inr low ↦ absurd (eqb-false (1 * number_of_bits (flags ∷ more ∷ []) 0 1) 1 is (omega (arith, bit, low, few)))
    ]

dns_told : DnsTold
dns_told high low flags more rest high_few low_few flags_few id response id_is_told response_is_told =
    let numbers : Uint (1 * number_of_bits (high ∷ low ∷ []) 0 16) ≡ Uint id = sym (id_read (high ∷ low ∷ [])) ∙ id_is_told in
    let number : 1 * number_of_bits (high ∷ low ∷ []) 0 16 ≡ id = cc in
    let exact : number_of_bits (high ∷ low ∷ []) 0 16 ≡ high * 256 + low = id_is high low high_few low_few in
    let same : high * 256 + low ≡ id = omega (arith, number, exact) in
    let truths : Bool (1 * number_of_bits (flags ∷ more ∷ []) 0 1 == 1) ≡ Bool response = sym (flag_read (flags ∷ more ∷ [])) ∙ response_is_told in
    let truth : (1 * number_of_bits (flags ∷ more ∷ []) 0 1 == 1) ≡ response = cc in
    let flag : nat_le 128 flags ≡ response = flag_is flags more flags_few ∙ truth in
    λ i. cond (flag i) (Response (same i)) (Query (same i))

dns_short : DnsShort
dns_short [] few = refl
dns_short (high ∷ []) few = refl
dns_short (high ∷ low ∷ []) few = refl
dns_short (high ∷ low ∷ flags ∷ []) few = refl
dns_short (high ∷ low ∷ flags ∷ more ∷ rest) few = absurd (omega (arith, few))

http_told : HttpTold
http_told = record {
  request = λ shape is i. cond (is i) Request (cond shape.interim Other Answer);
  interim = λ shape no_request is i. cond (no_request i) Request (cond (is i) Other Answer);
  answer = λ shape no_request is i. cond (no_request i) Request (cond (is i) Other Answer);
}

pub notes_told : NotesTold
notes_told = record { dns = dns_told; short = dns_short; http = http_told }
