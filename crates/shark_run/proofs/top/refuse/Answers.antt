use Rattle.std.proofs.Common.{◌∙◌}
use Rattle.shark_run.proofs.ToldLemmas.{told, told_whole, told_nothing, whole_nothing, refusal_told}
use Rattle.shark_run.proofs.top.refuse.Goals as goal

pub returns-in-Ok-clause-told : goal.returns-in-Ok-clause-told
returns-in-Ok-clause-told g c = λ files. told _ _ files _ _ _ _ (refusal_told _ files _ _ c.status_of_refusal.ensures (c.as_bytes.ensures.value ∙ c.in-Ok.ensures)) c.tell.ensures.part

pub returns-in-Ok-clause-told_whole : goal.returns-in-Ok-clause-told_whole
returns-in-Ok-clause-told_whole g c = λ files calm fed. told_whole _ _ files _ _ _ _ (refusal_told _ files _ _ c.status_of_refusal.ensures (c.as_bytes.ensures.value ∙ c.in-Ok.ensures)) (c.tell.ensures.whole calm fed)

pub returns-in-Err-clause-told : goal.returns-in-Err-clause-told
returns-in-Err-clause-told g c = λ files. told_nothing _ _ files _

pub returns-in-Err-clause-told_whole : goal.returns-in-Err-clause-told_whole
returns-in-Err-clause-told_whole g c = λ files calm fed. whole_nothing _ _ files _
