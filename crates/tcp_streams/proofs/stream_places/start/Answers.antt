use Rattle.std.proofs.Common.{◌∙◌, ℕ, subst}
use Rattle.tcp_streams.specs.PlacesKept.{IsFollowedFrom, ways_kept}
use Rattle.tcp_streams.specs.Reaches.{numbers_of}
use Rattle.tcp_streams.proofs.PlacesLemmas.{opened_from}
use Rattle.tcp_streams.proofs.stream_places.start.Goals as goal

pub returns-clause-opened : goal.returns-clause-opened
returns-clause-opened c =
    let stream = c.in_ok-with.field-0 in (
      stream,
      c.in_ok-push.ensures.items,
      subst (λ (n : ℕ). IsFollowedFrom n c.args.s.now stream c.in_ok-taken.taken) (c.len-number.ensures ∙ c.args.streams.now.ok.0)
          (opened_from c.len-number.result c.args.s.now (record { zero = numbers_of c.begun.result; one = numbers_of c.begun-2.result }) (ways_kept c.take.new.self) stream c.in_ok-taken.taken
          c.begun.ensures c.begun-2.ensures c.in_ok-taken.ensures.stepped (c.in_ok-with.ensures.turned ∙ c.is_turned.ensures) c.in_ok-with.ensures.ways),
    )
