use Rattle.std.proofs.Common.{ℕ, sym, ap, ◌∙◌, subst, false}
use Rattle.tcp_streams.specs.Ways.{WayState, nothing, IsWay, own_step, other_step}
use Rattle.tcp_streams.specs.States.{state_of}
use Rattle.tcp_streams.specs.Labels.{told}
use Rattle.tcp_streams.proofs.WayLemmas.{nothing_is}
use Rattle.tcp_streams.proofs.streams.start.Goals as goal

-- src/streams.rt:130:17
pub take-requires-clause-zero : goal.take-requires-clause-zero
take-requires-clause-zero c = subst IsWay (sym c.new-stream.ensures.zero) nothing_is

-- src/streams.rt:130:17
pub take-requires-clause-one : goal.take-requires-clause-one
take-requires-clause-one c = subst IsWay (sym c.new-stream.ensures.one) nothing_is

-- src/streams.rt:118:1
pub returns-clause-opened : goal.returns-clause-opened
returns-clause-opened c = (
  c.take.new.self,
  c.in_ok-push.ensures.items,
  record {
    first = c.in_ok-taken.ensures.first ∙ c.new-stream.ensures.first;
    zero = c.in_ok-taken.ensures.zero ∙ ap (λ (w : WayState). own_step w c.args.s.now) c.new-stream.ensures.zero;
    one = c.in_ok-taken.ensures.one ∙ ap (λ (w : WayState). other_step w c.args.s.now) c.new-stream.ensures.one;
    told_is = c.in_ok-taken.ensures.told
        ∙ ap (λ (w : WayState). told c.len-number.result false w (state_of c.new-stream.result.one) c.args.s.now) c.new-stream.ensures.zero
        ∙ ap (λ (w : WayState). told c.len-number.result false nothing w c.args.s.now) c.new-stream.ensures.one
        ∙ ap (λ (n : ℕ). told n false nothing nothing c.args.s.now) (c.len-number.ensures ∙ c.args.streams.now.ok.0);
  },
)
