use Rattle.std.proofs.Common.{◌∙◌}
use Rattle.range_bytes.proofs.Ascending.{sorted_is}
use Rattle.range_bytes.proofs.joined_ranges.JoinedRanges.origins.Goals as goal

pub returns : goal.returns
returns c =
    c.from_vec.ensures
    ∙ sorted_is c.in_ok-frames.frames.items c.sort_unstable.new.self.items c.dedup.new.self.items c.sort_unstable.ensures.permutation c.sort_unstable.ensures.sorted c.dedup.ensures.filtered
    ∙ c.in_ok-frames.ensures
