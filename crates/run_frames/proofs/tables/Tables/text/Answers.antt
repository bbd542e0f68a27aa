use Rattle.run_frames.proofs.tables.Tables.text.Goals as goal

pub returns-in-Ok : goal.returns-in-Ok
returns-in-Ok c = λ plan trees are asked. c.in-Ok.ensures plan c.args.kind trees (c.of_kind.ensures plan trees are) asked
