use Rattle.std.proofs.Common.{length, ◌∷◌}
use Rattle.std.proofs.lemmas.Result.{on_ok_weaker}
use Rattle.dissect.specs.Events.{NewFrame}
use Rattle.dissect.proofs.Opens.{adds-both, room-before}
use Rattle.dissect.proofs.state.State.read_frame.Goals as goal

pub returns-in-Some-clause-walked : goal.returns-in-Some-clause-walked
returns-in-Some-clause-walked c =
    on_ok_weaker c.read_plain.result (λ walked es stands. walked (NewFrame ∷ es) (c.begin_frame.ensures.stands c.args.rules.now es stands)) c.read_plain.ensures.walked

pub returns-in-None-clause-walked : goal.returns-in-None-clause-walked
returns-in-None-clause-walked c =
    on_ok_weaker c.read_heads.result (λ walked es stands. walked (NewFrame ∷ es) (c.begin_frame.ensures.stands c.args.rules.now es stands)) c.read_heads.ensures.walked

pub returns-in-Some-clause-added : goal.returns-in-Some-clause-added
returns-in-Some-clause-added c = adds-both c.args.self.now c.begin_frame.new.self c.read_plain.new.self c.begin_frame.ensures.adds c.read_plain.ensures.added

pub returns-in-None-clause-added : goal.returns-in-None-clause-added
returns-in-None-clause-added c = adds-both c.args.self.now c.begin_frame.new.self c.read_heads.new.self c.begin_frame.ensures.adds c.read_heads.ensures.added

pub read_plain-requires-clause-few : goal.read_plain-requires-clause-few
read_plain-requires-clause-few c = room-before (length c.args.frame.now.bytes) c.args.self.now c.begin_frame.new.self c.requires.few c.begin_frame.ensures.adds c.begin_frame.ensures.kept

pub read_heads-requires-clause-few : goal.read_heads-requires-clause-few
read_heads-requires-clause-few c = room-before (length c.args.frame.now.bytes) c.args.self.now c.begin_frame.new.self c.requires.few c.begin_frame.ensures.adds c.begin_frame.ensures.kept
