use Rattle.pk_text.proofs.OctetsLemmas.{bytes_only}
use Rattle.pk_text.proofs.octets.read_bytes.Goals as goal

pub returns-clause-only : goal.returns-clause-only
returns-clause-only c = bytes_only c.args.text.now c.bytes_in.result c.bytes_in.ensures
