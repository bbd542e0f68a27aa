-- Literals where they stand: in a test's right side, in a set, behind `&`.
use Rattle.std.specs.Prelude.{ℕ, Bool as Truth, false, if◌then◌else◌, Option, Some, None}
use Rattle.flt_syntax.specs.Written.{WrittenOperand, TextOf, NamedOf}
use Rattle.flt_syntax.specs.declared.ast.Literal.{Literal}
use Rattle.flt_syntax.specs.declared.ast.Literal.TheVariants as literals
use Rattle.flt_syntax.specs.declared.word.Word.{Word}
use Rattle.flt_typed.specs.Kinds.{admits_prefix, is_truth, kind_of_right}
use Rattle.flt_typing.specs.Literals.{quote_read, word_read}
use Rattle.flt_typing.specs.declared.literal.Reading.{Reading}
use Rattle.flt_typing.specs.declared.literal.Reading.TheVariants as readings
use Rattle.flt_typed.specs.declared.relation.Relation.{Relation}
use Rattle.pk_fields.specs.Fields.{field_named}
use Rattle.pk_fields.specs.declared.value_kind.ValueKind.{ValueKind}

abbrev pub place_of_literal : Literal → ℕ
place_of_literal (literals.Bare w) = w.at
place_of_literal (literals.Text q) = q.at

-- what a literal writes, for a kind; a prefix length may stand in it or not
abbrev pub literal_read : Truth → ValueKind → Literal → Reading
literal_read prefixed kind (literals.Bare w) = word_read prefixed kind w.text
literal_read prefixed kind (literals.Text q) = quote_read kind q.bytes

-- to the right of a relation
abbrev pub side_read : Relation → ValueKind → Literal → Reading
side_read relation kind literal =
    literal_read (admits_prefix relation) (kind_of_right relation kind) literal

-- as an end of a range in a set: not of truths, and without a prefix length
abbrev pub end_read : ValueKind → Literal → Reading
end_read kind literal = if is_truth kind then readings.Unread else literal_read false kind literal

-- a word is a literal where it is no name
abbrev pub word_or_name : Word → Option ℕ → Option Literal
word_or_name w (Some field) = None
word_or_name w None = Some (literals.Bare w)

-- the literal that a right operand is
abbrev pub literal_of : WrittenOperand → Option Literal
literal_of (TextOf q) = Some (literals.Text q)
literal_of (NamedOf w) = word_or_name w (field_named w.text)
literal_of o = None
