use Rattle.std.proofs.Common.{◌≡◌, true, false, [], ap, sym, refl, ◌∙◌, drop}
use Rattle.std.proofs.lemmas.List.{drop_all}
use Rattle.pk_fields.specs.Fields.{row_of}
use Rattle.pk_source.specs.Found.{fields_told, asked_told, is_asked, kth}
use Rattle.pk_source.specs.declared.found.Kth.TheVariants.{At, Left}
use Rattle.pk_source.proofs.FoundLemmas.{more_at, more_left}
use Rattle.pk_source.proofs.found.kth_told.Goals as goal
use Rattle.pk_source.proofs.found.kth_told.Goals.{then-is_asked+in-Left, else-is_asked}

pub loop-header-preserved : goal.loop-header-preserved
loop-header-preserved c =
    let asked = c.args.asked.now in
    let told = asked_told asked.field c.args.layers.now c.args.notes.now in
    let headers = c.args.headers.now in
    let at = c.loop-header.header-index in
    let header = c.header-item.result in
    let home : is_asked (row_of asked.field).proto c.args.layers.now header ≡ is_asked asked.home c.args.layers.now header = ap (λ proto. is_asked proto c.args.layers.now header) (sym c.requires.home) in
    elim c.if-is_asked.branch [
      | then-is_asked+in-Left w ↦
          let is : is_asked (row_of asked.field).proto c.args.layers.now header ≡ true = home ∙ sym c.is_asked.ensures ∙ w.if-is_asked.true in
          let left : Left w.in-Left.rest ≡ kth (told header) c.loop-header.left = rw is w.in-Left.ensures in
          rw w.left-is (more_left told headers at header header c.loop-header.left w.in-Left.rest _ c.loop-header-test.true c.header-item.is left c.loop-header.invariant)
      | else-is_asked w ↦
          let is : is_asked (row_of asked.field).proto c.args.layers.now header ≡ false = home ∙ sym c.is_asked.ensures ∙ w.if-is_asked.false in
          let left : Left c.loop-header.left ≡ kth (told header) c.loop-header.left = rw is refl in
          rw w.left-is (more_left told headers at header header c.loop-header.left c.loop-header.left _ c.loop-header-test.true c.header-item.is left c.loop-header.invariant)
    ]

pub returns-in-At : goal.returns-in-At
unfolding fields_told
returns-in-At c =
    let asked = c.args.asked.now in
    let header = c.header-item.result in
    let is : is_asked (row_of asked.field).proto c.args.layers.now header ≡ true = ap (λ proto. is_asked proto c.args.layers.now header) (sym c.requires.home) ∙ sym c.is_asked.ensures ∙ c.if-is_asked.true in
    let at : At c.in-At.told ≡ kth (asked_told asked.field c.args.layers.now c.args.notes.now header) c.loop-header.left = rw is c.in-At.ensures in
    more_at (asked_told asked.field c.args.layers.now c.args.notes.now) c.args.headers.now c.loop-header.header-index header header c.loop-header.left c.in-At.told _ c.loop-header-test.true c.header-item.is at c.loop-header.invariant

pub returns : goal.returns
unfolding fields_told
returns c =
    let rest : drop c.loop-header.header-index c.args.headers.now ≡ [] = drop_all c.loop-header.header-index c.args.headers.now c.loop-header-test.false in
    rw rest at c.loop-header.invariant
