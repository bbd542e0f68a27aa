use Rattle.cap_stats.proofs.BareLayers.{bare_unread, table_alike}
use Rattle.cap_stats.proofs.laws.conversations_need_no_bare_layers.Goals as goal

pub returns-clause-alike : goal.returns-clause-alike
returns-clause-alike c = table_alike

pub returns-clause-unread : goal.returns-clause-unread
returns-clause-unread c = bare_unread
