use Rattle.stream_messages.proofs.CursorLemmas.{laws_of_cursors}
use Rattle.stream_messages.proofs.laws.cursor_laws.Goals as goal

pub returns : goal.returns
returns c = laws_of_cursors
