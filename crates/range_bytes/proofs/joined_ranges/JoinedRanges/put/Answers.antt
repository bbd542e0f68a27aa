use Rattle.std.proofs.Common.{◌≡◌, ◌≤◌, ◌+◌, ℕ, List, length, sym, ap, ◌∙◌, subst, arith}
use Rattle.std.proofs.lemmas.Result.{IfOk-weaker}
use Rattle.range_bytes.specs.Held.{Held, put_run}
use Rattle.range_bytes.specs.Pieces.{put_pieces}
use Rattle.range_bytes.specs.Joined.{Joined, IsJoining, front_end, cut}
use Rattle.range_bytes.proofs.Joining.{joining_push, held_push, joining_put, swapped, either_way}
use Rattle.range_bytes.proofs.joined_ranges.JoinedRanges.put.Goals as goal

pub invariant_of-self-then-is_free : goal.invariant_of-self-then-is_free
invariant_of-self-then-is_free c =
    let row = c.self.inside.row in
    let at : c.args.from ≡ row.end = c.if-from-self.true in
    rw (c.in_ok-push.ensures.start, c.in_ok-push.ensures.end, c.in_ok-push.ensures.bytes, c.in_ok-push.ensures.marks, c.bytes.ensures)
    (joining_push c.self.inside.rest row.start row.end row.bytes.items row.marks.items c.args.bytes.now c.args.end c.args.frame c.self.invariant
    (omega (arith, at, c.requires.some)) (omega (arith, at, c.requires.sized)) (λ q low high. c.is_free.ensures c.if-is_free.true q (omega arith) high))

pub returns-then-is_free-clause-held : goal.returns-then-is_free-clause-held
returns-then-is_free-clause-held c =
    let row = c.self.inside.row in
    let at : c.args.from ≡ row.end = c.if-from-self.true in
    let held = put_pieces c.self.inside.rest (cut row.start row.bytes.items row.marks.items) in
    rw (c.in_ok-push.ensures.start, c.in_ok-push.ensures.bytes, c.in_ok-push.ensures.marks, c.bytes.ensures)
    (held_push c.self.inside.rest row.start row.end row.bytes.items row.marks.items c.args.bytes.now c.args.end c.args.frame c.self.invariant (omega (arith, at, c.requires.sized))
    ∙ ap (λ (p : ℕ). put_run held p c.args.bytes.now c.args.frame) (sym at)
    ∙ ap (λ (j : Joined). put_run j.held c.args.from c.args.bytes.now c.args.frame) c.self.view_is)

pub invariant_of-self-2 : goal.invariant_of-self-2
invariant_of-self-2 c =
    let row = c.self.inside.row in
    let low : row.start + length row.bytes.items ≤ c.args.from = subst (λ (j : Joined). front_end j ≤ c.args.from) (sym c.self.view_is) c.requires.behind in
    let at : row.start + length row.bytes.items ≡ row.end = c.self.invariant.end_is in
    either_way c.put.result (λ (h : Held). IsJoining h row.start row.end row.bytes.items row.marks.items) c.put.new.self (put_run c.self.inside.rest c.args.from c.in_ok-kept.field-0 c.args.frame) c.self.inside.rest
    c.put.ensures.ok c.put.ensures.err
    (joining_put c.self.inside.rest row.start row.end row.bytes.items row.marks.items c.args.from c.in_ok-kept.field-0 c.args.frame c.self.invariant (omega arith))
    c.self.invariant

pub returns-clause-held : goal.returns-clause-held
returns-clause-held c =
    let row = c.self.inside.row in
    let pieces = cut row.start row.bytes.items row.marks.items in
    let low : row.start + length row.bytes.items ≤ c.args.from = subst (λ (j : Joined). front_end j ≤ c.args.from) (sym c.self.view_is) c.requires.behind in
    IfOk-weaker c.put.result _ _ (λ _ is.
    ap (λ (h : Held). put_pieces h pieces) (is ∙ ap (λ (bs : List ℕ). put_run c.self.inside.rest c.args.from bs c.args.frame) c.in_ok-kept.ensures)
    ∙ swapped c.self.inside.rest row.start row.end row.bytes.items row.marks.items c.args.from c.args.bytes.now c.args.frame c.self.invariant.marked low
    ∙ ap (λ (j : Joined). put_run j.held c.args.from c.args.bytes.now c.args.frame) c.self.view_is) c.put.ensures.ok
