use Rattle.std.proofs.Common.{List, ℕ, ◌++◌, ap, ◌∙◌}
use Rattle.std.proofs.lemmas.Result.{on_ok_weaker}
use Rattle.pk_text.proofs.Ip6ShownLemmas.{run_shown}
use Rattle.pk_text.proofs.ip6.put_ip6.Goals as goal

pub put_address-requires : goal.put_address-requires
put_address-requires g c = c.best_run.ensures.run.inside

pub returns : goal.returns
returns g c =
    on_ok_weaker c.put_address.result (λ put. put ∙ ap (λ (text : List ℕ). g.S.TextSink.taken c.args.sink.now ++ text)
    (run_shown c.args.address _ c.best_run.result.start c.best_run.result.count c.groups_of-groups.ensures c.best_run.ensures)) c.put_address.ensures
