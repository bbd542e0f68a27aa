use Rattle.std.proofs.Common.{arith}
use Rattle.std.proofs.lemmas.List.{drop_all}
use Rattle.dis_http.proofs.RowLemmas.{going_at, going_done}
use Rattle.dis_http.proofs.heads.push_fields.Goals as goal

pub loop-header-preserved : goal.loop-header-preserved
loop-header-preserved c = (
  c.field_places-field.ensures.bound,
  λ fields lines. going_at c.args.head.now c.loop-header.place c.loop-header.header-index _ c.args.headers.now c.loop-header.steps.items _ _ _ c.loop-header-test.true (c.loop-header.invariant.1 fields lines)
      c.field_places-field.ensures.value (rw c.of.ensures at c.in_ok-push_field.ensures),
)

pub returns : goal.returns
returns c = λ fields lines.
    going_done c.args.head.now c.loop-header.place c.loop-header.steps.items _ (rw (drop_all c.loop-header.header-index c.args.headers.now (omega arith)) at c.loop-header.invariant.1 fields lines)
