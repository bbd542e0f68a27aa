use Rattle.std.proofs.Common.{◌++◌, refl}
use Rattle.std.specs.List.{flat_map}
use Rattle.flt_program.specs.Literals.{quoted_byte}
use Rattle.flt_program.proofs.ListingLemmas.{shown_next}
use Rattle.flt_program.proofs.literals.put_quoted.Goals as goal

pub loop-byte-preserved : goal.loop-byte-preserved
loop-byte-preserved c =
    shown_next quoted_byte c.args.bytes.now c.loop-byte.byte-index 0 _ c.loop-byte.line.items c.put_quoted_byte.new.line.items (c.args.line.now.items ++ flat_map quoted_byte c.args.bytes.now) c.loop-byte-test.true refl
    c.loop-byte.invariant c.in_ok-put_quoted_byte.ensures
