use Rattle.std.proofs.Common.{◌≡◌, ◌<◌, ◌/◌, ◌∙◌, ◌==◌, ◌||◌, length, ap, arith}
use Rattle.pk_fields.specs.FieldSets.{is_in}
use Rattle.pk_fields.proofs.FieldSetLemmas.{in_added}
use Rattle.pk_fields.proofs.field_set.set_bit.Goals as goal

pub returns : goal.returns
returns c f =
    let same : c.from-number.result ≡ c.args.field = c.from-number.ensures ∙ c.field.view_is in
    let inside : c.from-number.result / 64 < length c.args.words.now = omega (arith, c.told-words, c.from-number.ensures, c.field.invariant) in
    in_added c.args.words.now c.from-number.result f inside ∙ ap (λ n. f == n || is_in c.args.words.now f) same
