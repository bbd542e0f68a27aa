use Rattle.cap_stats.proofs.streams.Streams.add.Goals as goal

pub returns : goal.returns
returns c = λ notes has. c.in_ok-put.ensures notes (c.raise.ensures.kept c.if-raise.false notes has)
