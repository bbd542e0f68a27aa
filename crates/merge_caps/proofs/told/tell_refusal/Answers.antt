use Rattle.std.proofs.Common.{◌∙◌}
use Rattle.merge_caps.proofs.TopSteps.{refusal_starved, refusal_starved_whole, refusal_told, refusal_whole}
use Rattle.merge_caps.proofs.told.tell_refusal.Goals as goal

pub returns-in-Ok-clause-told : goal.returns-in-Ok-clause-told
returns-in-Ok-clause-told g c = refusal_told c.args.fault _ _ _ (c.as_bytes.ensures.value ∙ c.in-Ok.ensures) c.tell.ensures.part

pub returns-in-Ok-clause-told_whole : goal.returns-in-Ok-clause-told_whole
returns-in-Ok-clause-told_whole g c = λ calm fed. refusal_whole c.args.fault _ _ _ (c.as_bytes.ensures.value ∙ c.in-Ok.ensures) (c.tell.ensures.whole calm fed)

pub returns-in-Err-clause-told : goal.returns-in-Err-clause-told
returns-in-Err-clause-told g c = refusal_starved c.args.fault _

pub returns-in-Err-clause-told_whole : goal.returns-in-Err-clause-told_whole
returns-in-Err-clause-told_whole g c = λ calm fed. refusal_starved_whole c.args.fault _
