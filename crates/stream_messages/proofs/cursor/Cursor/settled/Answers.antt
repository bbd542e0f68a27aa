use Rattle.std.proofs.Common.{subst, sym}
use Rattle.stream_messages.specs.declared.cursor.Next.{Next}
use Rattle.stream_messages.specs.Moved.{StandsAlike}
use Rattle.stream_messages.proofs.MovedLemmas.{settled_alike}
use Rattle.stream_messages.proofs.cursor.Cursor.settled.Goals as goal

pub returns : goal.returns
returns c =
    subst (λ (next : Next). StandsAlike c.args.self (record { mark = c.args.self.mark; next = next })) (sym c.settled.ensures) (settled_alike c.args.self)
