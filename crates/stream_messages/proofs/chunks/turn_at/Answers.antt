use Rattle.std.proofs.Common.{length, subst, sym, ◌∙◌}
use Rattle.std.proofs.lemmas.Bool.{cond-true, cond-false}
use Rattle.stream_messages.specs.declared.chunks.Turn.{Turn}
use Rattle.stream_messages.specs.Chunks.{turn_at}
use Rattle.stream_messages.specs.ChunkFacts.{TurnFits}
use Rattle.stream_messages.proofs.TurnLemmas.{turn_fits}
use Rattle.stream_messages.proofs.chunks.turn_at.Goals as goal

pub returns-then-place-clause-fits : goal.returns-then-place-clause-fits
unfolding turn_at
returns-then-place-clause-fits c =
    subst (λ (t : Turn). TurnFits c.args.place (length c.args.bytes.now) t) (cond-true _ _ _ c.if-place.true ∙ sym c.trailing_turn.ensures) (turn_fits c.args.place c.args.bytes.now)

pub returns-else-place-clause-fits : goal.returns-else-place-clause-fits
unfolding turn_at
returns-else-place-clause-fits c =
    subst (λ (t : Turn). TurnFits c.args.place (length c.args.bytes.now) t) (cond-false _ _ _ c.if-place.false ∙ sym c.size_turn.ensures) (turn_fits c.args.place c.args.bytes.now)
