use Rattle.dis_http.proofs.HttpLemmas.{layout_fits}
use Rattle.dis_http.proofs.http.http_steps.Goals as goal

pub returns-clause-fits : goal.returns-clause-fits
returns-clause-fits c =
    rw (c.in_ok-push_layout.ensures, c.in_ok-steps.ensures.items) (layout_fits c.args.shape.now c.args.bytes.now)
