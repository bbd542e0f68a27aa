use Rattle.std.proofs.lemmas.Result.{IfOk-weaker}
use Rattle.dissect.proofs.StreamsKept.{stands_in}
use Rattle.dissect.proofs.segments.take_into.Goals as goal

pub returns-then-lets_go-clause-taken : goal.returns-then-lets_go-clause-taken
returns-then-lets_go-clause-taken c =
    IfOk-weaker c.take_and_let_go.result _ _ (λ met is framer_of past stands. is past (stands_in framer_of past c.args.streams.now stands.from)) c.take_and_let_go.ensures.taken

pub returns-else-lets_go-clause-taken : goal.returns-else-lets_go-clause-taken
returns-else-lets_go-clause-taken c =
    IfOk-weaker c.take.result _ _ (λ met is framer_of past stands. is past (stands_in framer_of past c.args.streams.now stands.from)) c.take.ensures.taken_from
