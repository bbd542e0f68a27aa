-- What a literal writes is of the kind by which it is read, with a prefix length only where one may stand.
use Rattle.std.proofs.Common.{◌≡◌, ℕ, Bool as Truth, true, false, cond, nat_le, List, Option, Some, None, option_map, refl, subst}
use Rattle.flt_code.proofs.ValueKinds.{wide}
use Rattle.flt_syntax.specs.declared.ast.Literal.{Literal}
use Rattle.flt_syntax.specs.declared.ast.Literal.TheVariants as literals
use Rattle.flt_typing.specs.Constants.{literal_read}
use Rattle.flt_typed.specs.Kinds.{kind_of_value}
use Rattle.flt_typing.specs.Literals.{leading_read, number_read, number_within, prefix_of, quote_read, truth_of, value_read, word_read}
use Rattle.flt_typed.specs.declared.constant.Constant.{Constant}
use Rattle.flt_typing.specs.declared.literal.Reading.{Reading}
use Rattle.flt_typing.specs.declared.literal.Reading.TheVariants as readings
use Rattle.pk_fields.specs.declared.value_kind.ValueKind.{ValueKind}
use Rattle.pk_fields.specs.declared.value_kind.ValueKind.TheVariants as kinds
use Rattle.pk_text.specs.Cut.{cut_at}
use Rattle.pk_text.specs.Ether.{ether_of}
use Rattle.pk_text.specs.Ip4.{ip4_of}
use Rattle.pk_text.specs.Ip6.{ip6_of}
use Rattle.pk_text.specs.Number.{number_of}
use Rattle.pk_text.specs.Octets.{bytes_of}
use Rattle.pk_text.specs.Time.{time_of}
use Rattle.pk_text.specs.declared.number.Wide.{Wide}
use Rattle.pk_text.specs.declared.number.Wide.TheVariants as wides
use Rattle.pk_base.specs.declared.value.Value.{Value}
use Rattle.pk_base.specs.declared.value.Value.TheVariants as values

-- a constant of a kind
pub record IsGood (prefixed : Truth) (kind : ValueKind) (c : Constant) : Type 0 where
  pub kind_is : kind_of_value c.value ≡ wide kind
  pub plain : prefixed ≡ false → c.prefix ≡ None

abbrev IfReads : Truth → ValueKind → Reading → Type 0
IfReads prefixed kind (readings.Reads c) = IsGood prefixed kind c
IfReads prefixed kind readings.Beyond = Unit {0}
IfReads prefixed kind readings.Unread = Unit {0}

if_reads : (prefixed : Truth) (kind : ValueKind) (b : Truth) (x y : Reading) → IfReads prefixed kind x → IfReads prefixed kind y → IfReads prefixed kind (cond b x y)
if_reads prefixed kind true x y a b = a
if_reads prefixed kind false x y a b = b

number_good : (prefixed : Truth) (width : ℕ) (number : Option Wide) → IfReads prefixed (kinds.Uint width) (number_read number)
number_good prefixed width None = tt
number_good prefixed width (Some wides.Beyond) = tt
number_good prefixed width (Some (wides.Fits n)) = record { kind_is = refl; plain = λ e. refl }

value_good : {A : Type 0} (prefixed : Truth) (kind : ValueKind) (f : A → Value) (o : Option A) → ((a : A) → kind_of_value (f a) ≡ wide kind) → IfReads prefixed kind (value_read (option_map f o))
value_good prefixed kind f None is = tt
value_good prefixed kind f (Some a) is = record { kind_is = is a; plain = λ e. refl }

-- an address that is read is of the family
leading_with : (kind : ValueKind) (most : ℕ) (address : Option Value) (prefix : Option Wide) → IfReads true kind (value_read address) → IfReads true kind (leading_read most address prefix)
leading_with kind most None prefix good = tt
leading_with kind most (Some a) None good = tt
leading_with kind most (Some a) (Some wides.Beyond) good = tt
leading_with kind most (Some a) (Some (wides.Fits n)) good = if_reads true kind (nat_le n most) (readings.Reads (record { value = a; prefix = Some n; quoted = false })) readings.Beyond
    (record { kind_is = good.kind_is; plain = λ e. cc }) tt

ip4_good : (prefixed : Truth) (text : List ℕ) (parts : Option (List ℕ × List ℕ)) → cut_at 47 text ≡ parts → IfReads prefixed kinds.Ip4 (word_read prefixed kinds.Ip4 text)
unfolding word_read
ip4_good prefixed text None is = rw is (value_good prefixed kinds.Ip4 values.Ip4 (ip4_of text) (λ a. refl))
ip4_good true text (Some parts) is =
    rw is (leading_with kinds.Ip4 32 (option_map values.Ip4 (ip4_of parts.0)) (prefix_of parts.1) (value_good true kinds.Ip4 values.Ip4 (ip4_of parts.0) (λ a. refl)))
ip4_good false text (Some parts) is = rw is tt

ip6_good : (prefixed : Truth) (text : List ℕ) (parts : Option (List ℕ × List ℕ)) → cut_at 47 text ≡ parts → IfReads prefixed kinds.Ip6 (word_read prefixed kinds.Ip6 text)
unfolding word_read
ip6_good prefixed text None is = rw is (value_good prefixed kinds.Ip6 values.Ip6 (ip6_of text) (λ a. refl))
ip6_good true text (Some parts) is =
    rw is (leading_with kinds.Ip6 128 (option_map values.Ip6 (ip6_of parts.0)) (prefix_of parts.1) (value_good true kinds.Ip6 values.Ip6 (ip6_of parts.0) (λ a. refl)))
ip6_good false text (Some parts) is = rw is tt

word_good : (prefixed : Truth) (kind : ValueKind) (text : List ℕ) → IfReads prefixed kind (word_read prefixed kind text)
unfolding word_read
word_good prefixed (kinds.Uint width) text = number_good prefixed width (number_within width (number_of text))
word_good prefixed kinds.Bool text = value_good prefixed kinds.Bool values.Bool (truth_of text) (λ a. refl)
word_good prefixed kinds.Bytes text = value_good prefixed kinds.Bytes values.Bytes (bytes_of text) (λ a. refl)
word_good prefixed kinds.Text text = tt
word_good prefixed kinds.Ether text = value_good prefixed kinds.Ether values.Ether (ether_of text) (λ a. refl)
word_good prefixed kinds.Ip4 text = ip4_good prefixed text (cut_at 47 text) refl
word_good prefixed kinds.Ip6 text = ip6_good prefixed text (cut_at 47 text) refl
word_good prefixed kinds.Time text = value_good prefixed kinds.Time values.Time (time_of text) (λ a. refl)
word_good prefixed kinds.Proto text = value_good prefixed kinds.Proto values.Proto (bytes_of text) (λ a. refl)

quote_good : (prefixed : Truth) (kind : ValueKind) (bytes : List ℕ) → IfReads prefixed kind (quote_read kind bytes)
quote_good prefixed kinds.Bytes bytes = record { kind_is = refl; plain = λ e. refl }
quote_good prefixed kinds.Text bytes = record { kind_is = refl; plain = λ e. refl }
quote_good prefixed kinds.Proto bytes = record { kind_is = refl; plain = λ e. refl }
quote_good prefixed kind bytes = tt

literal_good : (prefixed : Truth) (kind : ValueKind) (literal : Literal) → IfReads prefixed kind (literal_read prefixed kind literal)
literal_good prefixed kind (literals.Bare w) = word_good prefixed kind w.text
literal_good prefixed kind (literals.Text q) = quote_good prefixed kind q.bytes

pub read_good : (prefixed : Truth) (kind : ValueKind) (literal : Literal) (c : Constant) → literal_read prefixed kind literal ≡ readings.Reads c → IsGood prefixed kind c
read_good prefixed kind literal c is = subst (IfReads prefixed kind) is (literal_good prefixed kind literal)

pub word_reads : (prefixed : Truth) (kind : ValueKind) (text : List ℕ) (c : Constant) → word_read prefixed kind text ≡ readings.Reads c → IsGood prefixed kind c
word_reads prefixed kind text c is = subst (IfReads prefixed kind) is (word_good prefixed kind text)
