use Rattle.std.proofs.lemmas.Result.{on_ok_weaker}
use Rattle.run_frames.specs.Taken.{heads_tree}
use Rattle.run_passes.proofs.TwiceLemmas.{noted_by_heads, noted_by_tree}
use Rattle.run_passes.proofs.twice.note_frame.Goals as goal

-- by its headers
pub returns-in-Ok-Some-Headers : goal.returns-in-Ok-Some-Headers
returns-in-Ok-Some-Headers c =
    let kept = rw c.in-Ok-Some-Headers.field-0-0-is at (rw c.in-Ok-Some-Headers.field-0-is at c.in-Ok-Some-Headers.ensures.tree) in
    let alone = rw c.in-Ok-Some-Headers.field-0-0-is at (rw c.in-Ok-Some-Headers.field-0-is at c.in-Ok-Some-Headers.ensures.alone) in
    let stands = rw c.in-Ok-Some-Headers.field-0-is at c.in-Ok-Some-Headers.ensures.stands in
    let counted = rw c.in-Ok-Some-Headers.field-0-is at c.in-Ok-Some-Headers.ensures.counted in
    noted_by_heads c.args.frame.now c.args.dissector.now c.take_fed.new.self (heads_tree c.args.frame.now.bytes c.args.dissector.now.wanted c.take_fed.new.heads) c.args.links.now
    (kept c.requires.streams c.requires.whole) stands alone counted.0 counted.1 c.take_fed.ensures.rules c.take_fed.ensures.wanted c.take_fed.ensures.sparing

pub returns-in-Ok-Some-Tree : goal.returns-in-Ok-Some-Tree
returns-in-Ok-Some-Tree c =
    let kept = rw c.in-Ok-Some-Tree.field-0-0-is at (rw c.in-Ok-Some-Tree.field-0-is at c.in-Ok-Some-Tree.ensures.tree) in
    let stands = rw c.in-Ok-Some-Tree.field-0-is at c.in-Ok-Some-Tree.ensures.stands in
    let counted = rw c.in-Ok-Some-Tree.field-0-is at c.in-Ok-Some-Tree.ensures.counted in
    on_ok_weaker c.note_tree.result
    (λ noted. noted_by_tree c.args.frame.now c.args.dissector.now c.take_fed.new.self c.note_tree.new.dissector c.in-Ok-Some-Tree.tree c.args.links.now c.note_tree.new.links
    c.note_tree.ensures.dissector (kept c.requires.streams c.requires.whole) stands noted
    counted.0 counted.1 c.take_fed.ensures.rules c.take_fed.ensures.wanted c.take_fed.ensures.sparing)
    c.note_tree.ensures.noted
