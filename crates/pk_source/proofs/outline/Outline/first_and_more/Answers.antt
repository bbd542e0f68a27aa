use Rattle.std.proofs.Common.{List, slice_get, ap, sym}
use Rattle.std.specs.Option.{is_some}
use Rattle.pk_base.specs.declared.value.Value.{Value}
use Rattle.pk_source.specs.declared.header.Told.TheVariants.{Read}
use Rattle.pk_source.proofs.OnlyLemmas.{one_reads, one_value}
use Rattle.pk_source.proofs.outline.Outline.first_and_more.Goals as goal

pub first_of-requires : goal.first_of-requires
first_of-requires c =
    let o = c.self.inside in
    let one = rw c.asked-asked.ensures.field at c.in-Some.ensures in
    (c.args.field, one_reads o.bytes.now o.wanted.now o.headers.now o.notes.now c.args.field (Read c.in-Some.span) c.self.invariant.0 one)

pub returns-in-Some-clause-first : goal.returns-in-Some-clause-first
returns-in-Some-clause-first c =
    let o = c.self.inside in
    let one = rw c.asked-asked.ensures.field at c.in-Some.ensures in
    rw (← c.self.view_is, one_value o.bytes.now o.wanted.now o.headers.now o.notes.now c.args.field (Read c.in-Some.span) c.self.invariant.0 one) (c.first_of.ensures.value c.args.field)

pub returns-in-Some-clause-more : goal.returns-in-Some-clause-more
returns-in-Some-clause-more c =
    let o = c.self.inside in
    let one = rw c.asked-asked.ensures.field at c.in-Some.ensures in
    rw (← c.self.view_is) (ap (λ (values : List Value). is_some (slice_get values 1)) (sym (one_value o.bytes.now o.wanted.now o.headers.now o.notes.now c.args.field (Read c.in-Some.span) c.self.invariant.0 one)))

pub returns-in-Some-clause-reads : goal.returns-in-Some-clause-reads
returns-in-Some-clause-reads c =
    let o = c.self.inside in
    let one = rw c.asked-asked.ensures.field at c.in-Some.ensures in
    c.first_of.ensures.reads c.args.field (one_reads o.bytes.now o.wanted.now o.headers.now o.notes.now c.args.field (Read c.in-Some.span) c.self.invariant.0 one)
