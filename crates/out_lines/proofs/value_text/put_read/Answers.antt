use Rattle.std.proofs.Common.{sym}
use Rattle.pk_tree.proofs.Readable.{whole_row}
use Rattle.out_lines.proofs.value_text.put_read.Goals as goal

pub put_whole-requires : goal.put_whole-requires
put_whole-requires c = λ own.
    let plain = rw c.kind-in-None.ensures.row at own in
    rw c.kind-in-None.ensures.row (whole_row c.args.field (c.requires plain).1 (sym c.in-None.ensures.row))
