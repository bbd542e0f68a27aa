use Rattle.std.proofs.Common.{◌≡◌, ◌+◌, ◌≤◌, ℕ, length, ◌∙◌, ap, subst, arith}
use Rattle.tcp_streams.specs.Numbers.{ahead, window}
use Rattle.tcp_streams.specs.Reaches.{IsPutIn, numbers_of, run_low, run_high}
use Rattle.tcp_streams.specs.Runs.{AreAhead}
use Rattle.tcp_streams.proofs.RunLemmas.{ahead_higher}
use Rattle.tcp_streams.proofs.ReachLemmas.{own_taken, mid_small, put_kept, two_windows, nearer}
use Rattle.tcp_streams.proofs.reach.Reach.take.Goals as goal

pub put-requires-clause-room : goal.put-requires-clause-room
put-requires-clause-room c = mid_small c.args.self.now.end c.pass.new.self.end c.requires.room c.in_ok-lost.ensures.far

pub position_ahead-requires : goal.position_ahead-requires
position_ahead-requires c = mid_small c.args.self.now.end c.pass.new.self.end c.requires.room c.in_ok-lost.ensures.far

mid_near : (c : goal.After-position_ahead) → AreAhead c.pass.new.self.end c.pass.new.self.ahead.entries (c.pass.new.self.end + window)
mid_near c = nearer (numbers_of c.pass.new.self) c.args.self.now.end c.in_ok-lost.ensures.near c.in_ok-lost.ensures.grown

put_in : (c : goal.After-position_ahead) → IsPutIn (numbers_of c.pass.new.self) (c.pass.new.self.end + run_low c.ahead-ahead.result) (c.pass.new.self.end + run_high c.ahead-ahead.result (length c.args.s.now.payload)) (numbers_of c.put.new.self)
put_in c =
    let size : length c.bytes.result.now ≡ length c.args.s.now.payload = ap length c.bytes.ensures in
    subst (λ (n : ℕ). IsPutIn (numbers_of c.pass.new.self) (c.pass.new.self.end + run_low c.ahead-ahead.result) (c.pass.new.self.end + run_high c.ahead-ahead.result n) (numbers_of c.put.new.self)) size c.in_ok-put.ensures

pub returns-clause-step : goal.returns-clause-step
returns-clause-step c = λ w way is.
    own_taken w c.args.s.now (numbers_of c.args.self.now) (numbers_of c.pass.new.self) (numbers_of c.put.new.self) c.in_ok-lost.lost.items c.origin_for-origin.result c.ahead-ahead.result way is
    (c.in_ok-lost.ensures.passed w way is) c.pass.ensures.acked c.origin_for-origin.ensures
    (c.ahead-ahead.ensures ∙ ap (ahead c.origin_for-origin.result c.pass.new.self.end) c.first_number-number.ensures) (mid_near c) (put_in c)

kept : (c : goal.After-position_ahead) → AreAhead c.put.new.self.end c.put.new.self.ahead.entries (c.pass.new.self.end + window) × (c.put.new.self.end ≤ c.pass.new.self.end + window)
kept c = put_kept (numbers_of c.pass.new.self) (numbers_of c.put.new.self) c.ahead-ahead.result (length c.args.s.now.payload) (mid_near c) (put_in c)

pub returns-clause-near : goal.returns-clause-near
returns-clause-near c = ahead_higher c.put.new.self.end c.put.new.self.ahead.entries (c.pass.new.self.end + window) (c.put.new.self.end + window) (kept c).0 (omega (arith, (put_in c).order))

pub returns-clause-far : goal.returns-clause-far
returns-clause-far c = two_windows c.args.self.now.end c.pass.new.self.end c.put.new.self.end c.in_ok-lost.ensures.far (kept c).1
