use Rattle.std.proofs.Common.{refl}
use Rattle.stream_messages.proofs.MovedLemmas.{moved_by}
use Rattle.stream_messages.proofs.cursor.Cursor.moved.Goals as goal

pub returns : goal.returns
returns c =
    moved_by c.args.gone c.args.self (record { mark = c.moved-mark.result; next = c.args.self.next }) c.moved-mark.ensures.answers refl (λ may. c.moved-mark.ensures.at (c.requires may))
