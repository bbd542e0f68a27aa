use Rattle.std.proofs.Common.{List, ℕ}
use Rattle.std.proofs.lemmas.Result.{IfOk-weaker}
use Rattle.pk_tree.specs.Buffers.{bytes_of}
use Rattle.dis_dns.specs.Collected.{HoldsSteps}
use Rattle.dis_dns.specs.Dns.{dns_layout}
use Rattle.dis_dns.proofs.DnsFits.{layout_fits}
use Rattle.dis_dns.proofs.LeavingLaw.{tells_leaving}
use Rattle.dis_dns.proofs.NameLaw.{reads_names}
use Rattle.dis_dns.proofs.TextLemmas.{all_strings}
use Rattle.dis_dns.proofs.dns.read_dns.Goals as goal

pub returns-clause-layer : goal.returns-clause-layer
returns-clause-layer c =
    let bytes : List ℕ = bytes_of c.args.b.now.buffers c.args.span in
    let holds : HoldsSteps c.args.b.now.wanted c.args.span.len (dns_layout c.args.prefixed bytes) c.in_ok-taken.taken = rw (c.bytes.ensures.len, c.bytes.ensures.bytes) at c.in_ok-taken.ensures.holds in
    IfOk-weaker c.add_layer.result _ _ (λ _ layer. layer (dns_layout c.args.prefixed bytes) (layout_fits c.args.prefixed bytes) holds) c.add_layer.ensures.layer

pub returns-in_err-taken-clause-names : goal.returns-in_err-taken-clause-names
returns-in_err-taken-clause-names c = reads_names

pub returns-in_err-taken-clause-leaving : goal.returns-in_err-taken-clause-leaving
returns-in_err-taken-clause-leaving c = tells_leaving

pub returns-in_err-taken-clause-texts : goal.returns-in_err-taken-clause-texts
returns-in_err-taken-clause-texts c = all_strings

pub returns-clause-names : goal.returns-clause-names
returns-clause-names c = reads_names

pub returns-clause-leaving : goal.returns-clause-leaving
returns-clause-leaving c = tells_leaving

pub returns-clause-texts : goal.returns-clause-texts
returns-clause-texts c = all_strings
