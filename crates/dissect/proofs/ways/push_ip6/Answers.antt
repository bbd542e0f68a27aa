use Rattle.std.proofs.Common.{◌≡◌, ℕ, ◌≤◌, List, [], ◌∷◌, length, refl, ap, subst, sym}
use Rattle.std.specs.Prelude.{IfSome, Option}
use Rattle.pk_tree.specs.Buffers.{IsInside}
use Rattle.pk_fields.specs.Ids.{VLAN}
use Rattle.app_layers.specs.FrameLayer.{is_cut}
use Rattle.dis_ip.specs.Ip6.{ip6_packet}
use Rattle.dis_ip.specs.declared.ip6.WholeIp6.{WholeIp6}
use Rattle.dissect.specs.Plain.{own}
use Rattle.dissect.specs.Ways.{head_of}
use Rattle.dissect.proofs.OnWay.{all_tabled, ends_inside, first_kept, ip6_pushed, reached_inside}
use Rattle.dissect.proofs.ways.push_ip6.Goals as goal

pub own-requires : goal.own-requires
own-requires c = record { inside = reached_inside c.args.frame.now VLAN 4 c.args.headers.now.items c.args.spot c.requires.at }

pub behind_ip6-requires-clause-end : goal.behind_ip6-requires-clause-end
behind_ip6-requires-clause-end c =
    ends_inside c.args.frame.now c.args.spot.span (reached_inside c.args.frame.now VLAN 4 c.args.headers.now.items c.args.spot c.requires.at) c.requires.bytes

pub returns-in_ok-push_all-in-Some-clause-at : goal.returns-in_ok-push_all-in-Some-clause-at
returns-in_ok-push_all-in-Some-clause-at c =
    let frame = c.args.frame.now in
    let bs : List (List ℕ) = frame.bytes ∷ [] in
    let bytes = c.own.result.now in
    let outer : IsInside bs c.args.spot.span = reached_inside frame VLAN 4 c.args.headers.now.items c.args.spot c.requires.at in
    let inside = subst (λ (r : Option WholeIp6). IfSome r (λ w. IsInside bs w.layer × IsInside bs w.inner)) c.in-Some.is (c.behind_ip6.ensures.inside bs outer) in
    let there : 40 ≤ length (own frame c.args.spot.span) = subst (λ (b : List ℕ). 40 ≤ length b) c.own.ensures.bytes c.in-Some.ensures.there in
    let packet : ip6_packet (is_cut frame) c.args.spot.span (own frame c.args.spot.span) ≡ ip6_packet (is_cut frame) c.args.spot.span bytes = ap (λ (b : List ℕ). ip6_packet (is_cut frame) c.args.spot.span b) (sym c.own.ensures.bytes) in
    record {
      at = λ notes told.
          ip6_pushed frame (record { headers = c.args.headers.now.items; notes = notes }) (record { headers = c.push_all.new.headers.items; notes = notes }) (head_of frame c.args.spot) bytes c.ip6_header.result c.in-Some.ip.next c.in-Some.ip.layer c.in-Some.ip.inner (ip6_packet (is_cut frame) c.args.spot.span (own frame c.args.spot.span)) (c.requires.at.at notes told) c.requires.which
          c.own.ensures.bytes c.ip6_header.ensures.nth (c.ip6_header.ensures.whole bs inside.0) (c.ip6_header.ensures.stands bytes c.in-Some.ensures.version) c.in-Some.ensures.layer (c.in-Some.ensures.after (is_cut frame)) packet inside.1 c.in_ok-push_all-in-Some.ensures refl;
      packet = (outer, there);
    }

pub returns-in_ok-push_all-in-Some-clause-start : goal.returns-in_ok-push_all-in-Some-clause-start
returns-in_ok-push_all-in-Some-clause-start c = first_kept c.args.frame.now VLAN 4 c.args.headers.now.items c.push_all.new.headers.items c.args.spot c.ip6_header.result c.requires.at c.in_ok-push_all-in-Some.ensures

pub returns-in_ok-push_all-in-Some-clause-tabled : goal.returns-in_ok-push_all-in-Some-clause-tabled
returns-in_ok-push_all-in-Some-clause-tabled c =
    all_tabled c.args.tables.now c.args.headers.now.items c.push_all.new.headers.items c.ip6_header.result c.requires.tabled c.ip6_header.ensures.tabled c.in_ok-push_all-in-Some.ensures
