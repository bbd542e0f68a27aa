use Rattle.std.proofs.Common.{◌≡◌, List, Some, inl, inr, length, refl, sym, ap, ◌∙◌, arith}
use Rattle.std.specs.List.{slice_get}
use Rattle.std.proofs.lemmas.Option.{slice_get_read}
use Rattle.range_bytes.specs.declared.in_order.Mark.{Mark}
use Rattle.range_bytes.proofs.Joining.{marked_all, run_of, run_none}
use Rattle.range_bytes.proofs.in_order.InOrder.run_at.Goals as goal

pub returns-then-at-self-clause-none : goal.returns-then-at-self-clause-none
returns-then-at-self-clause-none c =
    run_none c.args.self.now.start c.args.self.now.bytes.items c.args.self.now.marks.items c.args.at c.requires.marked (inl c.if-at-self.true)

pub returns-then-place-len-clause-none : goal.returns-then-place-len-clause-none
returns-then-place-len-clause-none c =
    let row = c.args.self.now in
    let size : length row.marks.items ≡ length c.deref.result.now = ap length (sym c.deref.ensures.value) in
    run_none row.start row.bytes.items row.marks.items c.args.at c.requires.marked
    (inr (marked_all row.start row.bytes.items row.marks.items c.args.at c.requires.marked c.if-at-self.false
    (λ last mark next is. c.place_of-place.ensures.before last mark (omega (arith, next, size, c.if-place-len.true, c.len.ensures, c.deref.ensures.len))
    (ap (λ (marks : List Mark). slice_get marks last) c.deref.ensures.value ∙ is))))

pub returns-clause-some : goal.returns-clause-some
returns-clause-some c =
    let row = c.args.self.now in
    let place = c.place_of-place.result in
    let mark = c.index-mark.result.now in
    let size : length row.marks.items ≡ length c.deref.result.now = ap length (sym c.deref.ensures.value) in
    let is : slice_get row.marks.items place ≡ Some mark =
    slice_get_read row.marks.items (length row.marks.items) place mark refl (omega (arith, size, c.if-place-len.false, c.len.ensures, c.deref.ensures.len, c.place_of-place.ensures.within)) c.index-mark.ensures in
    let there : slice_get c.deref.result.now place ≡ Some mark = ap (λ (marks : List Mark). slice_get marks place) c.deref.ensures.value ∙ is in
    run_of row.start row.bytes.items row.marks.items place c.args.at mark c.requires.marked c.if-at-self.false
    (λ last other next at. c.place_of-place.ensures.before last other next (ap (λ (marks : List Mark). slice_get marks last) c.deref.ensures.value ∙ at))
    is (c.place_of-place.ensures.behind mark there)
