use Rattle.std.proofs.Common.{sym}
use Rattle.pk_tree.proofs.Readable.{whole_row}
use Rattle.pk_source.proofs.reading.read_value.Goals as goal

pub read_bytes-requires-clause-whole : goal.read_bytes-requires-clause-whole
read_bytes-requires-clause-whole c =
    rw c.kind-in-None.ensures.row (whole_row c.args.field c.requires.read (sym c.in-None.ensures.row))
