use Rattle.std.proofs.Common.{◌≡◌, ◌-◌, length, arith}
use Rattle.capture_read.proofs.HeldParts.{range_length, range_passed}
use Rattle.capture_read.proofs.held.Held.pass.Goals as goal

pub returns : goal.returns
returns c =
    let size : length c.args.self.now ≡ c.self.inside.to - c.self.inside.from =
    rw (← c.self.view_is) (range_length c.self.inside.block c.self.inside.from c.self.inside.to c.self.invariant.0 c.self.invariant.1) in
    rw (← c.self.view_is) (range_passed c.self.inside.block c.self.inside.from c.self.inside.to c.args.count (omega (arith, size, c.requires, c.self.invariant.0)))
