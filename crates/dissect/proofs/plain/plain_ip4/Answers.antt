use Rattle.std.proofs.Common.{◌≡◌, ℕ, List, [], ◌∷◌, ap, subst, ◌∙◌, sym}
use Rattle.std.specs.Prelude.{IfSome, Option}
use Rattle.pk_base.specs.declared.heads.After.TheVariants as afters
use Rattle.pk_base.specs.declared.heads.Mode.TheVariants.{Plain}
use Rattle.pk_base.specs.declared.heads.Next.{Next}
use Rattle.pk_base.specs.declared.heads.Next.TheVariants as nexts
use Rattle.pk_tree.specs.Buffers.{IsInside}
use Rattle.pk_tree.specs.Layouts.{reach}
use Rattle.dis_ip.specs.declared.ip4.WholeIp4.{WholeIp4}
use Rattle.dis_ip.specs.Ip4.{ip4_after, ip4_conditions, ip4_header, ip4_layout, ip4_packet, ip4_span}
use Rattle.dissect.specs.Plain.{own}
use Rattle.dissect.proofs.plain.plain_ip4.Goals as goal

pub returns-in-Tcp : goal.returns-in-Tcp
returns-in-Tcp c =
    let frame = c.args.frame.now in
    let packet = c.args.packet in
    let ip = c.in_ok-ip.ip in
    let bs : List (List ℕ) = frame.bytes ∷ [] in
    let is : c.own.result.now ≡ own frame packet = c.own.ensures.bytes in
    record {
      ip = record {
        layer = c.in_ok-ip.ensures.layer ∙ ap (ip4_span packet) is;
        header = c.in_ok-ip.ensures.header ∙ ap (λ (b : List ℕ). ip4_header b) is;
        least = c.in_ok-ip.ensures.least;
        most = c.in_ok-ip.ensures.most;
        holds = sym (ap (λ (b : List ℕ). ip4_conditions b) is) ∙ c.in_ok-ip.ensures.holds;
        whole = sym (ap (λ (b : List ℕ). reach ip.layer.len (ip4_layout b)) is) ∙ c.in_ok-ip.ensures.whole;
        after = λ cut. sym (ap (ip4_after Plain cut packet) is) ∙ c.in_ok-ip.ensures.after cut
            ∙ ap (λ (which : Next). afters.Packet which ip.inner (ip4_packet cut packet c.own.result.now)) c.in-Tcp.is
            ∙ ap (λ (b : List ℕ). afters.Packet nexts.Tcp ip.inner (ip4_packet cut packet b)) is;
        inside = subst (λ (r : Option WholeIp4). IfSome r (λ w. IsInside bs w.layer × IsInside bs w.inner)) c.in_ok-ip.was
            (c.behind_ip4.ensures.inside bs c.requires.inside);
      };
    }
