use Rattle.std.proofs.Common.{◌≡◌, ℕ, List, Option, Some, None, refl, ap, sym, ◌∙◌}
use Rattle.flt_typing.specs.Terms.{IsMask}
use Rattle.flt_types.proofs.operand.mask_number.Goals as goal
use Rattle.flt_typing.specs.Literals.{number_read, number_within, plain, word_read}
use Rattle.pk_fields.specs.declared.value_kind.ValueKind.{ValueKind}
use Rattle.pk_fields.specs.declared.value_kind.ValueKind.TheVariants as kinds
use Rattle.pk_text.specs.Number.{number_of}
use Rattle.pk_text.specs.declared.number.Wide.{Wide}
use Rattle.pk_text.specs.declared.number.Wide.TheVariants as wides
use Rattle.pk_base.specs.declared.value.Value.TheVariants as values

mask_read : (kind : ValueKind) (width : ℕ) (text letters : List ℕ) (found : Option Wide) (n : ℕ) → kind ≡ kinds.Uint width → letters ≡ text →
    found ≡ number_within width (number_of letters) → found ≡ Some (wides.Fits n) → IsMask kind text n
unfolding word_read
mask_read kind width text letters found n is same read fits =
    (plain (values.Uint n) None, rw (is, ← same) (ap number_read (sym read ∙ fits)), refl)

pub returns-in-Some-Fits-clause-ok : goal.returns-in-Some-Fits-clause-ok
returns-in-Some-Fits-clause-ok c =
    mask_read c.args.kind c.in-Uint.width c.args.word.now.text c.as_str.result.now c.read_within.result c.in-Some-Fits.number c.in-Uint.is c.as_str.ensures
    c.read_within.ensures (c.in-Some-Fits.is ∙ ap Some c.in-Some-Fits.field-0-is)
