use Rattle.std.proofs.Common.{◌≡◌, ℕ, take, ap, ◌∙◌}
use Rattle.capture_read.specs.Reader.{Reader}
use Rattle.capture_read.proofs.ReaderBounds.{error_moves, filled_lessens}
use Rattle.capture_read.proofs.ReaderTurns.{filled_by, filled_few, stands_few, unfilled_by}
use Rattle.capture_read.proofs.position.Position.need_more.Goals as goal

pub returns-in-Err-clause-fails : goal.returns-in-Err-clause-fails
returns-in-Err-clause-fails g c = λ is.
    let bytes = take c.len-len.result c.move_to_room.new.room.items in
    let held : bytes ≡ c.self.inside.held = ap (λ (n : ℕ). take n c.move_to_room.new.room.items) c.len-len.ensures ∙ c.in_ok-alone.ensures.front in
    unfilled_by c.args.self.now _ bytes c.file_limit.result c.args.need (g.C.Capture.left c.args.capture.now) (g.C.Capture.left c.fill.new.capture)
    c.self.view_is c.self.invariant (ap (λ (r : Reader). r.seen) c.self.view_is ∙ c.requires.open) c.requires.needs held c.file_limit.ensures.value (c.in-Err.ensures.unfilled (error_moves c.in-Err.error _ is))

pub returns-clause-turns : goal.returns-clause-turns
returns-clause-turns g c = λ found.
    let bytes = take c.len-len.result c.move_to_room.new.room.items in
    let held : bytes ≡ c.self.inside.held = ap (λ (n : ℕ). take n c.move_to_room.new.room.items) c.len-len.ensures ∙ c.in_ok-alone.ensures.front in
    filled_by c.args.self.now _ bytes c.hold.new.self c.file_limit.result _ c.in-Ok.filled.seen c.args.need (g.C.Capture.left c.args.capture.now) (g.C.Capture.left c.fill.new.capture)
    c.self.view_is c.self.invariant (ap (λ (r : Reader). r.seen) c.self.view_is ∙ c.requires.open) c.requires.needs held c.file_limit.ensures.value (c.hold.ensures ∙ c.in_ok-block.ensures.1) c.in-Ok.ensures.filled

pub returns-in_err-alone-clause-took : goal.returns-in_err-alone-clause-took
returns-in_err-alone-clause-took g c = λ file past so. stands_few c.args.self.now (g.C.Capture.left c.args.capture.now) file past so

pub returns-in-Err-clause-took : goal.returns-in-Err-clause-took
returns-in-Err-clause-took g c =
    filled_few c.args.self.now _ c.len-len.result c.file_limit.result (g.C.Capture.left c.args.capture.now) (g.C.Capture.left c.fill.new.capture)
    c.self.view_is (ap (λ (r : Reader). r.seen) c.self.view_is ∙ c.requires.open) c.len-len.ensures c.file_limit.ensures.value c.fill.ensures.took

pub returns-in_err-block-clause-took : goal.returns-in_err-block-clause-took
returns-in_err-block-clause-took g c =
    filled_few c.args.self.now _ c.len-len.result c.file_limit.result (g.C.Capture.left c.args.capture.now) (g.C.Capture.left c.fill.new.capture)
    c.self.view_is (ap (λ (r : Reader). r.seen) c.self.view_is ∙ c.requires.open) c.len-len.ensures c.file_limit.ensures.value c.fill.ensures.took

pub returns-clause-took : goal.returns-clause-took
returns-clause-took g c =
    filled_few c.args.self.now _ c.len-len.result c.file_limit.result (g.C.Capture.left c.args.capture.now) (g.C.Capture.left c.fill.new.capture)
    c.self.view_is (ap (λ (r : Reader). r.seen) c.self.view_is ∙ c.requires.open) c.len-len.ensures c.file_limit.ensures.value c.fill.ensures.took

pub returns-clause-counts : goal.returns-clause-counts
returns-clause-counts g c =
    let bytes = take c.len-len.result c.move_to_room.new.room.items in
    let held : bytes ≡ c.self.inside.held = ap (λ (n : ℕ). take n c.move_to_room.new.room.items) c.len-len.ensures ∙ c.in_ok-alone.ensures.front in
    filled_lessens c.args.self.now _ bytes c.hold.new.self c.file_limit.result _ c.in-Ok.filled.seen c.args.need (g.C.Capture.left c.args.capture.now) (g.C.Capture.left c.fill.new.capture)
    c.self.view_is c.self.invariant (ap (λ (r : Reader). r.seen) c.self.view_is ∙ c.requires.open) held c.file_limit.ensures.value (c.hold.ensures ∙ c.in_ok-block.ensures.1) c.in-Ok.ensures.filled
