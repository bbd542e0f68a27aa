use Rattle.std.proofs.Common.{ℕ, ◌+◌, List, [], ◌∷◌, refl, sym, subst, ◌∙◌, arith}
use Rattle.std.specs.Prelude.{IfSome, Option}
use Rattle.pk_base.specs.declared.span.Span.{Span}
use Rattle.pk_base.specs.declared.heads.Next.{Next}
use Rattle.pk_tree.specs.Buffers.{IsInside}
use Rattle.pk_fields.specs.Ids.{VLAN}
use Rattle.dissect.specs.Ways.{head_of}
use Rattle.dissect.proofs.OnWay.{all_tabled, at_more, ends_inside, first_kept, head_at, reached_inside, vlan_pushed}
use Rattle.dissect.proofs.ways.push_vlan.Goals as goal

pub own-requires : goal.own-requires
own-requires c = record { inside = reached_inside c.args.frame.now VLAN (c.args.nth + 1) c.args.headers.now.items c.args.spot c.requires.at }

pub behind_vlan-requires : goal.behind_vlan-requires
behind_vlan-requires c =
    record { end = ends_inside c.args.frame.now c.args.spot.span (reached_inside c.args.frame.now VLAN (c.args.nth + 1) c.args.headers.now.items c.args.spot c.requires.at) c.requires.bytes }

pub returns-in_ok-push_all-in-Some-clause-at : goal.returns-in_ok-push_all-in-Some-clause-at
returns-in_ok-push_all-in-Some-clause-at c =
    let frame = c.args.frame.now in
    let head = head_of frame c.args.spot in
    let bs : List (List ℕ) = frame.bytes ∷ [] in
    let outer : IsInside bs c.args.spot.span = reached_inside frame VLAN (c.args.nth + 1) c.args.headers.now.items c.args.spot c.requires.at in
    let inner : IsInside bs c.in-Some.inner = subst (λ (r : Option (Next × Span)). IfSome r (λ way. IsInside bs way.1)) c.in-Some.is (c.behind_vlan.ensures.inside bs outer) in
    record {
      at = λ notes told.
          at_more frame VLAN VLAN (c.args.nth + 1 + 1) (c.args.nth + 2) (record { headers = c.push_all.new.headers.items; notes = notes }) (head_at c.in-Some.which head.packet c.in-Some.inner) (omega arith) (omega arith)
          (vlan_pushed frame (c.args.nth + 1) (record { headers = c.args.headers.now.items; notes = notes }) (record { headers = c.push_all.new.headers.items; notes = notes }) head c.own.result.now c.vlan_header.result c.in-Some.which c.in-Some.inner (c.requires.at.at notes told) (omega (arith, c.requires.few)) c.requires.which
          c.own.ensures.bytes (c.vlan_header.ensures.nth ∙ sym c.requires.nth) c.vlan_header.ensures.whole c.vlan_header.ensures.stands c.in-Some.ensures.typed c.in-Some.ensures.after inner c.in_ok-push_all-in-Some.ensures refl);
      packet = c.requires.at.packet;
    }

pub returns-in_ok-push_all-in-Some-clause-start : goal.returns-in_ok-push_all-in-Some-clause-start
returns-in_ok-push_all-in-Some-clause-start c =
    first_kept c.args.frame.now VLAN (c.args.nth + 1) c.args.headers.now.items c.push_all.new.headers.items c.args.spot c.vlan_header.result c.requires.at c.in_ok-push_all-in-Some.ensures

pub returns-in_ok-push_all-in-Some-clause-tabled : goal.returns-in_ok-push_all-in-Some-clause-tabled
returns-in_ok-push_all-in-Some-clause-tabled c =
    all_tabled c.args.tables.now c.args.headers.now.items c.push_all.new.headers.items c.vlan_header.result c.requires.tabled c.vlan_header.ensures.tabled c.in_ok-push_all-in-Some.ensures
