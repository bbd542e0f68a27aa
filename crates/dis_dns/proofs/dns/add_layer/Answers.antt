use Rattle.std.proofs.Common.{◌≡◌, map, ◌∙◌}
use Rattle.std.proofs.lemmas.Result.{IfOk-weaker}
use Rattle.dis_dns.specs.Collected.{shown_step}
use Rattle.dis_dns.proofs.CollectedLemmas.{same_layer}
use Rattle.dis_dns.proofs.dns.add_layer.Goals as goal

pub read_layer-requires-clause-fits : goal.read_layer-requires-clause-fits
read_layer-requires-clause-fits c = rw c.deref.ensures.value (rw c.in-List.is at c.requires.fits)

pub pass_layer-requires-clause-none : goal.pass_layer-requires-clause-none
pass_layer-requires-clause-none c = rw c.in-Reach.is at c.requires.fits

pub returns-in_ok-read_layer-in-List-clause-layer : goal.returns-in_ok-read_layer-in-List-clause-layer
returns-in_ok-read_layer-in-List-clause-layer c layout fit holds =
    let listed : c.in-List.steps.items ≡ map (shown_step c.args.b.now.wanted) layout = rw c.in-List.is at holds in
    let steps : c.deref.result.now ≡ map (shown_step c.args.b.now.wanted) layout = c.deref.ensures.value ∙ listed in
    (rw steps at c.in_ok-read_layer-in-List.ensures.layer) ∙ same_layer c.args.b.now c.args.protocol c.args.span layout _ c.args.cut

pub returns-in-Reach-clause-layer : goal.returns-in-Reach-clause-layer
returns-in-Reach-clause-layer c =
    IfOk-weaker c.pass_layer.result _ _ (λ _ passed layout fit holds. passed layout fit (rw c.in-Reach.is at holds)) c.pass_layer.ensures.layer
