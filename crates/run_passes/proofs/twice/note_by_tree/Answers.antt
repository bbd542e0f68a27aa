use Rattle.std.proofs.lemmas.Result.{on_ok_weaker}
use Rattle.run_passes.proofs.TwiceLemmas.{noted_by_tree}
use Rattle.run_passes.proofs.twice.note_by_tree.Goals as goal

pub returns-in-Ok : goal.returns-in-Ok
returns-in-Ok c =
    let old = c.args.dissector.now in
    let took = c.take.new.self in
    on_ok_weaker c.note_tree.result
    (λ noted. noted_by_tree c.args.frame.now old took c.note_tree.new.dissector c.in-Ok.tree c.args.links.now c.note_tree.new.links
    c.note_tree.ensures.dissector (c.in-Ok.ensures.tree c.requires.streams c.requires.whole) c.in-Ok.ensures.stands noted
    c.in-Ok.ensures.counted.0 c.in-Ok.ensures.counted.1 c.take.ensures.rules c.take.ensures.wanted c.take.ensures.sparing)
    c.note_tree.ensures.noted
