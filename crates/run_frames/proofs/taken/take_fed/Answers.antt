use Rattle.run_frames.specs.Taken.{heads_tree}
use Rattle.run_frames.proofs.WantedLemmas.{headers_stay}
use Rattle.run_frames.proofs.taken.take_fed.Goals as goal

-- by its headers
pub returns-in-Ok-Some-Headers-clause-taken : goal.returns-in-Ok-Some-Headers-clause-taken
returns-in-Ok-Some-Headers-clause-taken c =
    let outline = rw c.in-Ok-Some-Headers.field-0-0-is at (rw c.in-Ok-Some-Headers.field-0-is at c.in-Ok-Some-Headers.ensures.outline) in
    let values = rw c.in-Ok-Some-Headers.field-0-0-is at (rw c.in-Ok-Some-Headers.field-0-is at c.in-Ok-Some-Headers.ensures.values) in
    let lacks = rw c.in-Ok-Some-Headers.field-0-0-is at (rw c.in-Ok-Some-Headers.field-0-is at c.in-Ok-Some-Headers.ensures.lacks) in
    let kept = rw c.in-Ok-Some-Headers.field-0-0-is at (rw c.in-Ok-Some-Headers.field-0-is at c.in-Ok-Some-Headers.ensures.tree) in
    let alone = rw c.in-Ok-Some-Headers.field-0-0-is at (rw c.in-Ok-Some-Headers.field-0-is at c.in-Ok-Some-Headers.ensures.alone) in
    let stands = rw c.in-Ok-Some-Headers.field-0-is at c.in-Ok-Some-Headers.ensures.stands in
    let counted = rw c.in-Ok-Some-Headers.field-0-is at c.in-Ok-Some-Headers.ensures.counted in
    record {
      outline = outline;
      bare = heads_tree c.args.frame.now.bytes c.args.dissector.now.wanted c.take_fed.new.heads;
      spared = λ past stood. record { values = values past stood; lacks = lacks past stood };
      kept = kept;
      linked = headers_stay c.args.later.now c.args.frame.now.number (heads_tree c.args.frame.now.bytes c.args.dissector.now.wanted c.take_fed.new.heads) c.requires.unnamed alone;
      stands = stands;
      counted = counted.0;
      captured = counted.1;
    }

-- by a tree, which gets its links
pub returns-in_ok-tree-in-Ok-Some-Tree-clause-taken : goal.returns-in_ok-tree-in-Ok-Some-Tree-clause-taken
returns-in_ok-tree-in-Ok-Some-Tree-clause-taken c =
    let values = rw c.in-Ok-Some-Tree.field-0-0-is at (rw c.in-Ok-Some-Tree.field-0-is at c.in-Ok-Some-Tree.ensures.values) in
    let lacks = rw c.in-Ok-Some-Tree.field-0-0-is at (rw c.in-Ok-Some-Tree.field-0-is at c.in-Ok-Some-Tree.ensures.lacks) in
    let kept = rw c.in-Ok-Some-Tree.field-0-0-is at (rw c.in-Ok-Some-Tree.field-0-is at c.in-Ok-Some-Tree.ensures.tree) in
    let stands = rw c.in-Ok-Some-Tree.field-0-is at c.in-Ok-Some-Tree.ensures.stands in
    let counted = rw c.in-Ok-Some-Tree.field-0-is at c.in-Ok-Some-Tree.ensures.counted in
    record {
      outline = tt;
      bare = c.in-Ok-Some-Tree.bare;
      spared = λ past stood. record { values = values past stood; lacks = lacks past stood };
      kept = kept;
      linked = c.in_ok-tree-in-Ok-Some-Tree.ensures;
      stands = stands;
      counted = counted.0;
      captured = counted.1;
    }
