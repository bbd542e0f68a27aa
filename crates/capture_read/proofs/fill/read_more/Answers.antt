use Rattle.std.proofs.Common.{◌≡◌, ◌≢◌, ◌≤◌, ◌+◌, ◌-◌, ◌++◌, ℕ, List, Option, Some, None, length, take, drop, refl, subst, sym, ap, ◌∙◌, arith, rules}
use Rattle.std.specs.Io.KnownBytes.{Consumes}
use Rattle.std.proofs.lemmas.List.{length-append, length-take, length-take-le, take-append-drop, take_at}
use Rattle.std.proofs.lemmas.Slice.{take-put_mid_below}
use borrow.Rule.Slice.PartMut.{mid_of}
use Rattle.pk_outside.specs.Outside.{Moves}
use Rattle.capture_read.proofs.FillSteps.{front_written, moves_consume, moves_ended, next_more, next_none}
use Rattle.capture_read.proofs.fill.read_more.Goals as goal

-- what a read moved stands at the front of its room
moves_got : (old new : Option (List ℕ)) (to_old to_new : List ℕ) (n : ℕ) → Moves old new to_old to_new n → Consumes old new (take n to_new)
moves_got None new to_old to_new n moved = tt
moves_got (Some bytes) new to_old to_new n moved =
    let size : length (take n bytes) ≡ n = omega (arith, moved.0, length-take n bytes) in
    let front : take n to_new ≡ take n bytes = ap (take n) moved.2 ∙ take_at (take n bytes) (drop n to_old) n size in
    rw (moved.1, front) (sym (take-append-drop n bytes))

pub returns-in-Ok-eq0-clause-read : goal.returns-in-Ok-eq0-clause-read
returns-in-Ok-eq0-clause-read g c = λ most few.
    let inside : c.args.at ≤ length c.args.room.now = omega (arith, c.requires.some, c.requires.inside) in
    let size : length (take c.args.at c.args.room.now) ≡ c.args.at = length-take-le c.args.at c.args.room.now inside in
    next_none (take c.args.at c.args.room.now) _ _ (c.args.at + 1) most (g.C.Capture.left c.args.capture.now) (g.C.Capture.left c.read.new.self)
    (omega (arith, size)) (take-put_mid_below c.args.at (c.args.end - c.args.at) c.args.room.now c.read.new.to c.args.at (omega arith) inside)
    (moves_ended (g.C.Capture.left c.args.capture.now) (g.C.Capture.left c.read.new.self) (mid_of c.args.at (c.args.end - c.args.at) c.args.room.now) c.read.new.to
    (subst (λ (n : ℕ). Moves (g.C.Capture.left c.args.capture.now) (g.C.Capture.left c.read.new.self) (mid_of c.args.at (c.args.end - c.args.at) c.args.room.now) c.read.new.to n) c.in-Ok-eq0.field-0-test c.in-Ok-eq0.ensures.moved))
    refl (omega (arith, size, c.requires.some, few))

pub returns-in-Ok-clause-read : goal.returns-in-Ok-clause-read
returns-in-Ok-clause-read g c = λ most few.
    let inside : c.args.at ≤ length c.args.room.now = omega (arith, c.requires.some, c.requires.inside) in
    let size : length (take c.args.at c.args.room.now) ≡ c.args.at = length-take-le c.args.at c.args.room.now inside in
    let some : c.in-Ok.count ≢ 0 = c.in-Ok.count-test.1 in
    let fits : c.in-Ok.count ≤ c.args.end - c.args.at = search rules in
    let room : c.in-Ok.count ≤ length c.read.new.to = search rules in
    let written = front_written c.args.at (c.args.end - c.args.at) c.in-Ok.count c.args.room.now c.read.new.to inside room in
    let sizes : length (take c.args.at c.args.room.now ++ take c.in-Ok.count c.read.new.to) ≡ c.args.at + c.in-Ok.count =
    omega (arith, size, length-append (take c.args.at c.args.room.now) (take c.in-Ok.count c.read.new.to), length-take-le c.in-Ok.count c.read.new.to room) in
    rw written (next_more (take c.args.at c.args.room.now) _ _ (c.args.at + 1) most (g.C.Capture.left c.args.capture.now) (g.C.Capture.left c.read.new.self) (omega (arith, size))
    (take c.in-Ok.count c.read.new.to, refl, moves_got (g.C.Capture.left c.args.capture.now) (g.C.Capture.left c.read.new.self) (mid_of c.args.at (c.args.end - c.args.at) c.args.room.now) c.read.new.to c.in-Ok.count c.in-Ok.ensures.moved)
    refl (omega (arith, sizes, size, some)) (omega (arith, sizes, size, fits, c.requires.size)) (omega (arith, sizes, few, fits, c.requires.some)))

pub returns-in-Ok-clause-took : goal.returns-in-Ok-clause-took
returns-in-Ok-clause-took g c =
    let fits : c.in-Ok.count ≤ c.args.end - c.args.at = search rules in
    let took = moves_consume (g.C.Capture.left c.args.capture.now) (g.C.Capture.left c.read.new.self) (mid_of c.args.at (c.args.end - c.args.at) c.args.room.now) c.read.new.to c.in-Ok.count c.in-Ok.ensures.moved in
    (took.0, took.1, omega (arith, took.2, fits))
