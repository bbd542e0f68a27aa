use Rattle.std.proofs.Common.{ℕ, List, [], ◌∷◌, refl, sym, ap, subst, ◌∙◌, arith}
use Rattle.std.specs.Prelude.{IfSome, Option}
use Rattle.pk_base.specs.declared.span.Span.{Span}
use Rattle.pk_base.specs.declared.heads.Next.{Next}
use Rattle.pk_tree.specs.Buffers.{IsInside}
use Rattle.dissect.proofs.OnWay.{all_tabled, ethernet_pushed, take_first, take_one, untagged}
use Rattle.std.proofs.Common.{take}
use Rattle.pk_source.specs.declared.header.Header.{Header}
use Rattle.dissect.proofs.ways.push_ethernet.Goals as goal

pub returns-in_ok-push_all-in-Some-clause-at : goal.returns-in_ok-push_all-in-Some-clause-at
returns-in_ok-push_all-in-Some-clause-at c =
    let frame = c.args.frame.now in
    let whole = c.frame_span-span.result in
    let bs : List (List ℕ) = frame.bytes ∷ [] in
    let all : IsInside bs whole = subst (IsInside bs) (sym c.frame_span-span.ensures) (omega arith, omega arith) in
    let inner : IsInside bs c.in-Some.inner = subst (λ (r : Option (Next × Span)). IfSome r (λ way. IsInside bs way.1)) c.in-Some.is (c.behind_ethernet.ensures.inside bs all) in
    record {
      at = λ notes told.
          ethernet_pushed frame (record { headers = c.args.headers.now.items; notes = notes }) (record { headers = c.push_all.new.headers.items; notes = notes }) c.own.result.now whole c.ethernet_header.result c.in-Some.which c.in-Some.inner c.requires.begun told c.if-frame-ne-ETHERNET.false c.frame_span-span.ensures
          c.own.ensures.bytes c.in-Some.ensures.whole c.ethernet_header.ensures.nth c.ethernet_header.ensures.whole c.ethernet_header.ensures.stands c.in-Some.ensures.typed c.in-Some.ensures.after inner c.in_ok-push_all-in-Some.ensures refl;
      packet = tt;
    }

pub returns-in_ok-push_all-in-Some-clause-tags : goal.returns-in_ok-push_all-in-Some-clause-tags
returns-in_ok-push_all-in-Some-clause-tags c =
    untagged c.args.headers.now.items c.push_all.new.headers.items c.ethernet_header.result c.requires.begun.read.lower (c.ethernet_header.ensures.stands c.own.result.now c.in-Some.ensures.typed).own c.in_ok-push_all-in-Some.ensures

pub returns-in_ok-push_all-in-Some-clause-start : goal.returns-in_ok-push_all-in-Some-clause-start
returns-in_ok-push_all-in-Some-clause-start c =
    ap (λ (hs : List Header). take 1 hs) c.in_ok-push_all-in-Some.ensures ∙ take_first c.args.headers.now.items c.ethernet_header.result (omega (arith, c.requires.begun.one))
    ∙ take_one c.args.headers.now.items c.requires.begun.one

pub returns-in_ok-push_all-in-Some-clause-tabled : goal.returns-in_ok-push_all-in-Some-clause-tabled
returns-in_ok-push_all-in-Some-clause-tabled c =
    all_tabled c.args.tables.now c.args.headers.now.items c.push_all.new.headers.items c.ethernet_header.result c.requires.tabled c.ethernet_header.ensures.tabled c.in_ok-push_all-in-Some.ensures
