use Rattle.std.proofs.Common.{◌∷◌, [], Some, ap, sym, ◌∙◌}
use Rattle.std.specs.Option.{option_map}
use Rattle.pk_source.specs.Found.{value_at}
use Rattle.pk_source.proofs.FitLemmas.{first_reads}
use Rattle.pk_source.proofs.OutlineLaws.{first_values}
use Rattle.pk_source.proofs.outline.Outline.value_in.Goals as goal

pub value_at-requires : goal.value_at-requires
value_at-requires c =
    let o = c.self.inside in
    let found = rw c.asked.ensures.field at c.in-Some.ensures in
    first_reads o.bytes.now o.wanted.now o.headers.now o.notes.now c.args.field c.args.place c.in-Some.told c.self.invariant.0 (sym found)

pub returns-in_ok-value_at-in-Some : goal.returns-in_ok-value_at-in-Some
returns-in_ok-value_at-in-Some c =
    let o = c.self.inside in
    let found = rw c.asked.ensures.field at c.in-Some.ensures in
    rw (← c.self.view_is, first_values o.bytes.now o.wanted.now o.headers.now o.notes.now c.args.field c.args.place c.self.invariant.0)
    (ap Some c.in_ok-value_at-in-Some.ensures ∙ ap (option_map (value_at (o.bytes.now ∷ []) c.args.field)) found)

pub returns-in-None : goal.returns-in-None
returns-in-None c =
    let o = c.self.inside in
    let found = rw c.asked.ensures.field at c.in-None.ensures in
    rw (← c.self.view_is, first_values o.bytes.now o.wanted.now o.headers.now o.notes.now c.args.field c.args.place c.self.invariant.0)
    (ap (option_map (value_at (o.bytes.now ∷ []) c.args.field)) found)

pub find_in-requires-clause-picked : goal.find_in-requires-clause-picked
find_in-requires-clause-picked c = λ k d inside same.
    let home = sym c.asked.ensures.home ∙ sym same in
    rw (c.asked.ensures.field, c.asked.ensures.picks) (c.self.invariant.1 k d inside c.args.field home)
