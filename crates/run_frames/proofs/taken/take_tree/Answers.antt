use Rattle.std.proofs.lemmas.Result.{IfOk-weaker}
use Rattle.run_frames.proofs.WantedLemmas.{frame_told}
use Rattle.run_frames.proofs.taken.take_tree.Goals as goal

pub returns-in-Ok-clause-told : goal.returns-in-Ok-clause-told
returns-in-Ok-clause-told c =
    IfOk-weaker c.with_later.result _ _
    (λ tree linked passes past serves stands.
    frame_told passes c.args.later.now c.args.dissector.now c.args.plan.now c.args.dissector.now.decode.rules past c.args.frame.now c.in-Ok.bare tree
    serves c.requires.serves c.requires.rules (record { values = c.in-Ok.ensures.values past stands; lacks = c.in-Ok.ensures.lacks past stands }) (λ asks whole. c.in-Ok.ensures.tree asks whole past stands) linked)
    c.with_later.ensures
