use Rattle.std.proofs.Common.{Some, None, sym, ◌∙◌}
use Rattle.pk_source.proofs.FitLemmas.{found_reads}
use Rattle.pk_source.proofs.OnlyLemmas.{kth_value, no_second}
use Rattle.pk_source.proofs.outline.Outline.first_sought.Goals as goal
use Rattle.pk_base.specs.declared.chosen.Layers.TheVariants.{All as AllLayers}
use Rattle.pk_tree.specs.FieldValues.{values_of}

pub first_of-requires : goal.first_of-requires
first_of-requires c =
    let o = c.self.inside in
    let found = rw c.asked.ensures.field at c.in-Some.ensures in
    (c.args.field, found_reads o.bytes.now o.wanted.now o.headers.now o.notes.now c.args.field AllLayers 0 c.in-Some.told c.self.invariant.0 (sym found))

pub returns-in-Some-clause-first : goal.returns-in-Some-clause-first
returns-in-Some-clause-first c =
    let o = c.self.inside in
    let found = rw c.asked.ensures.field at c.in-Some.ensures in
    rw (← c.self.view_is)
    (c.first_of.ensures.value c.args.field ∙ kth_value o.bytes.now o.wanted.now o.headers.now o.notes.now c.args.field 0 (Some c.in-Some.told) c.self.invariant.0 found)

pub returns-in-Some-clause-reads : goal.returns-in-Some-clause-reads
returns-in-Some-clause-reads c =
    let o = c.self.inside in
    let found = rw c.asked.ensures.field at c.in-Some.ensures in
    c.first_of.ensures.reads c.args.field (found_reads o.bytes.now o.wanted.now o.headers.now o.notes.now c.args.field AllLayers 0 c.in-Some.told c.self.invariant.0 (sym found))

pub returns-in-None-clause-first : goal.returns-in-None-clause-first
returns-in-None-clause-first c =
    let o = c.self.inside in
    let found = rw c.asked.ensures.field at c.in-None.ensures in
    rw (← c.self.view_is) (kth_value o.bytes.now o.wanted.now o.headers.now o.notes.now c.args.field 0 None c.self.invariant.0 found)

pub returns-in-None-clause-more : goal.returns-in-None-clause-more
returns-in-None-clause-more c =
    let o = c.self.inside in
    let found = rw c.asked.ensures.field at c.in-None.ensures in
    no_second (values_of c.args.self.now c.args.field AllLayers)
    (rw (← c.self.view_is) (sym (kth_value o.bytes.now o.wanted.now o.headers.now o.notes.now c.args.field 0 None c.self.invariant.0 found)))
