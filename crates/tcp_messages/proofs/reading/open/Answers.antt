use Rattle.std.proofs.Common.{refl, sym, ◌∙◌}
use Rattle.tcp_messages.proofs.reading.open.Goals as goal

pub returns-else-number-len : goal.returns-else-number-len
returns-else-number-len c = (λ same. absurd (c.if-number-len.false (same ∙ sym (c.len.ensures ∙ c.args.readers.now.ok.0))), λ other. refl)
