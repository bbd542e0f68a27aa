use Rattle.pk_text.proofs.Ip6Lemmas.{gap_split}
use Rattle.pk_text.proofs.ip6.gap_of.Goals as goal

pub returns : goal.returns
returns c = gap_split c.args.text.now c.split_once.result c.split_once.ensures.cases
