use Rattle.std.proofs.Common.{ap, sym, ◌∙◌}
use Rattle.flt_syntax.specs.Written.{operand_of}
use Rattle.flt_syntax.specs.declared.ast.Literal.TheVariants.{Bare, Text}
use Rattle.flt_typing.specs.Constants.{literal_of, word_or_name}
use Rattle.flt_types.proofs.conditions.right_side.Goals as goal
use Rattle.pk_fields.specs.Fields.{field_named}

pub returns-in-Ok-clause-ok : goal.returns-in-Ok-clause-ok
returns-in-Ok-clause-ok c =
    (Text c.in-Text.quote, ap (λ o. literal_of (operand_of o)) c.in-Text.is, c.in-Ok.ensures.ok)

pub returns-in-Ok-right_word-clause-ok : goal.returns-in-Ok-right_word-clause-ok
returns-in-Ok-right_word-clause-ok c =
    let no_name = ap field_named (sym c.as_str.ensures) ∙ sym c.by_name.ensures.computed ∙ c.in-None.is in
    (Bare c.in-Named.word, ap (λ o. literal_of (operand_of o)) c.in-Named.is ∙ ap (word_or_name c.in-Named.word) no_name, c.in-Ok-right_word.ensures.ok)
