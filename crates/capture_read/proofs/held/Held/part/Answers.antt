use Rattle.std.proofs.Common.{◌≡◌, ◌+◌, ◌-◌, ◌≤◌, length, ◌∙◌, arith}
use Rattle.std.proofs.lemmas.Result.{IfOk-weaker}
use Rattle.capture_read.proofs.HeldParts.{range_length, range_part}
use Rattle.capture_read.proofs.held.Held.part.Goals as goal

-- the part lies within the places
within : (c : goal.After-self) → c.self.inside.from + (c.args.start + c.args.len) ≤ c.self.inside.to
within c =
    let size : length c.args.self.now ≡ c.self.inside.to - c.self.inside.from =
    rw (← c.self.view_is) (range_length c.self.inside.block c.self.inside.from c.self.inside.to c.self.invariant.0 c.self.invariant.1) in
    omega (arith, size, c.requires, c.self.invariant.0)

pub overflow_add-from : goal.overflow_add-from
overflow_add-from c = omega (arith, within c, c.self.invariant.2)

pub overflow_add-from-2 : goal.overflow_add-from-2
overflow_add-from-2 c = omega (arith, within c, c.self.invariant.2)

pub returns : goal.returns
returns c =
    let size : length c.args.self.now ≡ c.self.inside.to - c.self.inside.from =
    rw (← c.self.view_is) (range_length c.self.inside.block c.self.inside.from c.self.inside.to c.self.invariant.0 c.self.invariant.1) in
    let same = range_part c.self.inside.block c.self.inside.from c.self.inside.to c.args.start c.args.len (omega (arith, size, c.requires, c.self.invariant.0)) in
    rw (← c.self.view_is) (IfOk-weaker c.part.result _ _ (λ octets is. is ∙ same) c.part.ensures)
