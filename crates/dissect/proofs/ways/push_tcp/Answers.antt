use Rattle.std.proofs.Common.{ℕ, List, [], ◌∷◌, refl, subst}
use Rattle.std.specs.Prelude.{IfSome, Option}
use Rattle.pk_tree.specs.Buffers.{IsInside}
use Rattle.pk_fields.specs.Ids.{IPV6}
use Rattle.dis_ports.specs.declared.tcp.WholeTcp.{WholeTcp}
use Rattle.dissect.proofs.OnWay.{all_tabled, ends_inside, first_kept, reached_inside, tcp_pushed}
use Rattle.dissect.proofs.ways.push_tcp.Goals as goal

pub own-requires : goal.own-requires
own-requires c = record { inside = reached_inside c.args.frame.now IPV6 5 c.args.headers.now.items c.args.spot c.requires.at }

pub behind_tcp-requires-clause-end : goal.behind_tcp-requires-clause-end
behind_tcp-requires-clause-end c =
    ends_inside c.args.frame.now c.args.spot.span (reached_inside c.args.frame.now IPV6 5 c.args.headers.now.items c.args.spot c.requires.at) c.requires.bytes

pub returns-in_ok-push_all-in-Some-clause-carried : goal.returns-in_ok-push_all-in-Some-clause-carried
returns-in_ok-push_all-in-Some-clause-carried c =
    let frame = c.args.frame.now in
    let bs : List (List ℕ) = frame.bytes ∷ [] in
    let bytes = c.own.result.now in
    let outer : IsInside bs c.args.spot.span = reached_inside frame IPV6 5 c.args.headers.now.items c.args.spot c.requires.at in
    let inside = subst (λ (r : Option WholeTcp). IfSome r (λ w. IsInside bs w.payload)) c.in-Some.is (c.behind_tcp.ensures.inside bs outer) in
    record {
      is = λ notes told.
          tcp_pushed frame (record { headers = c.args.headers.now.items; notes = notes }) (record { headers = c.push_all.new.headers.items; notes = notes }) c.args.spot bytes c.tcp_header.result c.in-Some.tcp.payload (c.requires.at.at notes told) c.requires.which
          c.own.ensures.bytes c.tcp_header.ensures.nth (c.tcp_header.ensures.whole bs outer) (c.tcp_header.ensures.stands bytes c.in-Some.ensures.header) c.in-Some.ensures.after inside c.in_ok-push_all-in-Some.ensures refl;
      last = record { packet = c.requires.at.packet; header = outer };
    }

pub returns-in_ok-push_all-in-Some-clause-start : goal.returns-in_ok-push_all-in-Some-clause-start
returns-in_ok-push_all-in-Some-clause-start c = first_kept c.args.frame.now IPV6 5 c.args.headers.now.items c.push_all.new.headers.items c.args.spot c.tcp_header.result c.requires.at c.in_ok-push_all-in-Some.ensures

pub returns-in_ok-push_all-in-Some-clause-tabled : goal.returns-in_ok-push_all-in-Some-clause-tabled
returns-in_ok-push_all-in-Some-clause-tabled c =
    all_tabled c.args.tables.now c.args.headers.now.items c.push_all.new.headers.items c.tcp_header.result c.requires.tabled c.tcp_header.ensures.tabled c.in_ok-push_all-in-Some.ensures
