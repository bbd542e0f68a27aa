use Rattle.std.proofs.Common.{◌+◌, ◌<◌, ◌^◌, sym, subst}
use Rattle.pk_source.specs.Outlines.{IsReadWhole}
use Rattle.pk_source.specs.Picks.{IsPickedIn}
use Rattle.pk_source.specs.declared.header.Header.{Header}
use Rattle.pk_source.proofs.found.find_in.Goals as goal

pub first_told-requires-clause-end : goal.first_told-requires-clause-end
first_told-requires-clause-end c =
    let found = c.in-Some.ensures.lookup.3 in
    subst (λ (h : Header). h.span.start + h.span.len < 2 ^ 32) (sym (found.1 c.in-Some.header.now)) (c.requires.short c.args.place c.in-Some.header.now found.0)

pub first_told-requires-clause-whole : goal.first_told-requires-clause-whole
first_told-requires-clause-whole c =
    let found = c.in-Some.ensures.lookup.3 in
    (c.requires.whole.0, subst (IsReadWhole c.requires.whole.0) (sym (found.1 c.in-Some.header.now)) (c.requires.whole.1 c.args.place c.in-Some.header.now found.0))

pub first_told-requires-clause-picked : goal.first_told-requires-clause-picked
first_told-requires-clause-picked c =
    let found = c.in-Some.ensures.lookup.3 in
    subst (IsPickedIn c.args.asked.now) (sym (found.1 c.in-Some.header.now)) (c.requires.picked c.args.place c.in-Some.header.now found.0)
