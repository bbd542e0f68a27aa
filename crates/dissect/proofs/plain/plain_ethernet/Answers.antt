use Rattle.std.proofs.Common.{◌≡◌, ℕ, ◌≤◌, List, [], ◌∷◌, ap, subst, ◌∙◌, sym, arith}
use Rattle.std.specs.Prelude.{IfSome, Option}
use Rattle.pk_base.specs.declared.span.Span.{Span}
use Rattle.pk_base.specs.declared.heads.After.TheVariants as afters
use Rattle.pk_base.specs.declared.heads.Next.{Next}
use Rattle.pk_tree.specs.Buffers.{IsInside}
use Rattle.dis_link.specs.EtherTypes.{is_length}
use Rattle.dis_link.specs.Ethernet.{eth_after, eth_type}
use Rattle.app_layers.specs.FrameLayer.{frame_span}
use Rattle.dissect.specs.Plain.{own}
use Rattle.dissect.proofs.plain.plain_ethernet.Goals as goal

pub returns-in-Ip4-default : goal.returns-in-Ip4-default
returns-in-Ip4-default c =
    let frame = c.args.frame.now in
    let whole = c.frame_span-whole.result in
    let way = c.in_ok-packet.field-0 in
    let bs : List (List ℕ) = frame.bytes ∷ [] in
    let bytes_is : c.own.result.now ≡ own frame (frame_span frame) =
    c.own.ensures.bytes ∙ ap (own frame) c.frame_span-whole.ensures in
    record {
      ethernet = record {
        link = c.if-frame-ne-ETHERNET.false;
        long = subst (λ (s : Span). 14 ≤ s.len) c.frame_span-whole.ensures c.in_ok-packet.ensures.whole;
        typed = sym (ap (λ (b : List ℕ). is_length (eth_type b)) bytes_is) ∙ c.in_ok-packet.ensures.typed;
        after = sym (ap (λ (s : Span). eth_after s c.own.result.now) c.frame_span-whole.ensures ∙ ap (eth_after (frame_span frame)) bytes_is) ∙ c.in_ok-packet.ensures.after
            ∙ ap (λ (which : Next). afters.Next which way.1) c.in-Ip4-default.is-0;
        inside = subst (λ (r : Option (Next × Span)). IfSome r (λ w. IsInside bs w.1)) c.in_ok-packet.was
            (c.behind_ethernet.ensures.inside bs (subst (IsInside bs) (sym c.frame_span-whole.ensures) (omega arith, omega arith)));
      };
    }
