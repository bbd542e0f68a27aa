-- A kind with bits is read as a number.
use Rattle.std.proofs.Common.{◌≡◌, ℕ, true, false, List, Option, None, Some, sym, ap}
use Rattle.flt_typed.specs.Kinds.{is_masked}
use Rattle.flt_typing.specs.Literals.{number_read, number_within, plain, word_read}
use Rattle.flt_typed.specs.declared.constant.Constant.{Constant}
use Rattle.flt_typing.specs.declared.literal.Reading.TheVariants.{Reads}
use Rattle.pk_fields.specs.declared.value_kind.ValueKind.{ValueKind}
use Rattle.pk_fields.specs.declared.value_kind.ValueKind.TheVariants as kinds
use Rattle.pk_text.specs.Number.{number_of}
use Rattle.pk_text.specs.declared.number.Wide.{Wide}
use Rattle.pk_text.specs.declared.number.Wide.TheVariants as wides
use Rattle.pk_base.specs.declared.value.Value.TheVariants as values

number_has : (number : Option Wide) (c : Constant) → number_read number ≡ Reads c → (m : ℕ) × (c.value ≡ values.Uint m)
number_has None c h = absurd (cc h)
number_has (Some wides.Beyond) c h = absurd (cc h)
number_has (Some (wides.Fits n)) c h = let same : plain (values.Uint n) None ≡ c = cc in (n, ap (λ (x : Constant). x.value) (sym same))

pub mask_has : (kind : ValueKind) (text : List ℕ) (c : Constant) → is_masked kind ≡ true → word_read false kind text ≡ Reads c → (m : ℕ) × (c.value ≡ values.Uint m)
unfolding word_read
mask_has (kinds.Uint width) text c is h = number_has (number_within width (number_of text)) c h
mask_has kind text c is h = absurd (cc is)
