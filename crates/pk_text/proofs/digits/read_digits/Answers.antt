use Rattle.std.proofs.Common.{◌≡◌, ℕ, ◌+◌, ◌*◌, ◌<◌, List, length, get_or, take, sym, ap, ◌∙◌, arith, rules}
use Rattle.std.specs.Char.{digit_value}
use Rattle.std.specs.Str.Parse.{digits_value}
use Rattle.std.proofs.lemmas.Int.Digits.{digits_value_more}
use Rattle.pk_text.specs.Digits.{wide}
use Rattle.pk_text.proofs.DigitsLemmas.{are_digits_more}
use Rattle.pk_text.proofs.digits.read_digits.Goals as goal

value_more : (radix : ℕ) (ds : List ℕ) (i byte digit : ℕ) → i < length ds → byte ≡ get_or ds i 0 → digit ≡ digit_value byte → digits_value radix (take i ds) * radix + digit ≡ digits_value radix (take (i + 1) ds)
value_more radix ds i byte digit h b d = ap (λ n. digits_value radix (take i ds) * radix + n) (d ∙ ap digit_value b) ∙ sym (digits_value_more radix ds i h)

pub loop-byte-preserved : goal.loop-byte-preserved
loop-byte-preserved c =
    let byte : c.from.result ≡ get_or c.args.digits.now c.loop-byte.byte-index 0 = search rules in
    record {
      front = are_digits_more _ _ _ (omega arith) c.loop-byte.invariant.front (rw byte at c.in_ok-digit.ensures.value.0);
      value = c.with_digit-number.ensures _ c.loop-byte.invariant.value
          ∙ ap wide (value_more c.args.radix c.args.digits.now c.loop-byte.byte-index c.from.result c.in_ok-digit.digit (omega arith) byte c.in_ok-digit.ensures.value.1);
    }
