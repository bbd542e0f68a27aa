use Rattle.std.proofs.Common.{length, ap, ◌∙◌}
use Rattle.std.proofs.lemmas.Result.{IfOk-weaker}
use Rattle.pk_fields.specs.Ids.{DNS}
use Rattle.dis_dns.specs.Collected.{StepsShown, with_steps}
use Rattle.dis_dns.specs.Dns.{dns_layout}
use Rattle.dis_dns.proofs.CollectedLemmas.{holds_taken, fits_taken}
use Rattle.dis_dns.proofs.DnsFits.{layout_fits}
use Rattle.dis_dns.proofs.dns.dns_steps.Goals as goal

pub returns-clause-holds : goal.returns-clause-holds
returns-clause-holds c =
    IfOk-weaker c.finish.result _ _
    (λ taken is.
    holds_taken c.args.tree.now.wanted c.in_ok-steps.steps.keeps (length c.args.bytes.now) (dns_layout c.args.prefixed c.args.bytes.now) c.push_dns.new.steps taken
    (c.push_dns.ensures.all is.0 ∙ ap (λ (s : StepsShown). with_steps s (dns_layout c.args.prefixed c.args.bytes.now)) c.in_ok-steps.ensures.steps) is.1)
    c.finish.ensures

pub returns-clause-fits : goal.returns-clause-fits
returns-clause-fits c =
    IfOk-weaker c.finish.result _ _
    (λ taken is.
    fits_taken c.args.tree.now.wanted DNS c.in_ok-steps.steps.keeps (length c.args.bytes.now) (dns_layout c.args.prefixed c.args.bytes.now) c.push_dns.new.steps taken
    (c.push_dns.ensures.all is.0 ∙ ap (λ (s : StepsShown). with_steps s (dns_layout c.args.prefixed c.args.bytes.now)) c.in_ok-steps.ensures.steps) is.1
    c.in_ok-steps.ensures.none (layout_fits c.args.prefixed c.args.bytes.now))
    c.finish.ensures
