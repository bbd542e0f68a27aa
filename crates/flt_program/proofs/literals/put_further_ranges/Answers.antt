use Rattle.std.proofs.Common.{◌++◌, codes, refl}
use Rattle.std.specs.List.{flat_map}
use Rattle.flt_program.specs.Literals.{range_shown}
use Rattle.flt_program.proofs.ListingLemmas.{further_next}
use Rattle.flt_program.proofs.literals.put_further_ranges.Goals as goal

pub loop-range-preserved : goal.loop-range-preserved
loop-range-preserved c =
    further_next (codes ",") range_shown c.args.ranges.now c.loop-range.range-index _ _ c.loop-range.line.items c.put_text.new.self.items c.put_range.new.line.items
    (c.args.line.now.items ++ flat_map (λ y. codes "," ++ range_shown y) c.args.ranges.now) c.loop-range-test.true refl c.loop-range.invariant c.in_ok-put_text.ensures c.in_ok-put_range.ensures
