use Rattle.std.proofs.Common.{◌≡◌, ℕ, List, [], ◌∷◌, ap, subst, ◌∙◌, sym}
use Rattle.std.specs.Prelude.{IfSome, Option}
use Rattle.pk_base.specs.declared.heads.After.TheVariants as afters
use Rattle.pk_base.specs.declared.heads.Mode.TheVariants.{Plain}
use Rattle.pk_tree.specs.Buffers.{IsInside}
use Rattle.dis_ports.specs.declared.tcp.WholeTcp.{WholeTcp}
use Rattle.dis_ports.specs.Tcp.{header_len, tcp_after, tcp_head}
use Rattle.dissect.specs.Plain.{own}
use Rattle.dissect.proofs.plain.plain_tcp.Goals as goal

pub returns : goal.returns
returns c =
    let frame = c.args.frame.now in
    let inner = c.args.inner in
    let tcp = c.in_ok-tcp.tcp in
    let bs : List (List ℕ) = frame.bytes ∷ [] in
    let is : c.own.result.now ≡ own frame inner = c.own.ensures.bytes in
    record {
      tcp = record {
        header = c.in_ok-tcp.ensures.header ∙ ap (λ (b : List ℕ). header_len b) is;
        least = c.in_ok-tcp.ensures.least;
        most = c.in_ok-tcp.ensures.most;
        whole = c.in_ok-tcp.ensures.whole;
        after = sym (ap (tcp_after Plain inner) is) ∙ c.in_ok-tcp.ensures.after ∙ ap (λ (b : List ℕ). afters.Segment (tcp_head b) tcp.payload) is;
        inside = subst (λ (r : Option WholeTcp). IfSome r (λ w. IsInside bs w.payload)) c.in_ok-tcp.was (c.behind_tcp.ensures.inside bs c.requires.inside);
      };
    }
