use Rattle.std.proofs.Common.{◌≡◌, ◌≤◌, ◌<◌, ◌+◌, ◌-◌, ℕ, List, length, drop, take, sym, ap, ◌∙◌, subst, arith}
use Rattle.std.proofs.lemmas.Result.{IfOk-weaker}
use Rattle.std.proofs.lemmas.List.{take_all, length-drop}
use Rattle.range_bytes.specs.Held.{HoldsAll, put_run}
use Rattle.range_bytes.specs.Joined.{Joined}
use Rattle.range_bytes.proofs.Fronts.{put_held}
use Rattle.range_bytes.proofs.Joining.{held_up_to, put_tail}
use Rattle.range_bytes.proofs.joined_ranges.JoinedRanges.insert.Goals.{then-from-end+in_ok-part+in_ok-put+in-Some-1, then-from-end+in_ok-part+in_ok-put+in-None-1, else-from-end}
use Rattle.range_bytes.proofs.joined_ranges.JoinedRanges.insert.Goals as goal

tail_is : (bytes : List ℕ) (k n : ℕ) → n ≡ length bytes → take (n - k) (drop k bytes) ≡ drop k bytes
tail_is bytes k n is = take_all (n - k) (drop k bytes) (omega (arith, is, length-drop k bytes))

held_before : (c : goal.After-join) → HoldsAll c.args.self.now.held c.args.pos c.max-from.result
held_before c =
    let row = c.self.inside.row in
    subst (λ (j : Joined). HoldsAll j.held c.args.pos c.max-from.result) c.self.view_is
    (held_up_to c.self.inside.rest row.start row.end row.bytes.items row.marks.items c.args.pos c.max-from.result c.self.invariant
    (subst (λ (j : Joined). j.start ≤ c.args.pos) (sym c.self.view_is) c.requires.start) c.max-from.ensures)

put_from : (c : goal.After-join) (part : List ℕ) → c.max-from.result < c.args.pos + length c.bytes.result.now
    → part ≡ take (c.args.pos + length c.bytes.result.now - c.args.pos - (c.max-from.result - c.args.pos)) (drop (c.max-from.result - c.args.pos) c.args.bytes.now)
    → put_run c.args.self.now.held c.max-from.result part c.args.frame ≡ put_run c.args.self.now.held c.args.pos c.args.bytes.now c.args.frame
put_from c part less is =
    let held = c.args.self.now.held in
    let from = c.max-from.result in
    let size : length c.bytes.result.now ≡ length c.args.bytes.now = ap length c.bytes.ensures in
    let low : c.args.pos ≤ from = omega (arith, c.max-from.ensures) in
    ap (λ (bs : List ℕ). put_run held from bs c.args.frame) (is ∙ tail_is c.args.bytes.now (from - c.args.pos) (c.args.pos + length c.bytes.result.now - c.args.pos) (omega (arith, size)))
    ∙ put_tail held c.args.pos from c.args.bytes.now c.args.frame low (omega (arith, size, less)) (held_before c)

pub returns-clause-held : goal.returns-clause-held
returns-clause-held c =
    let held = c.args.self.now.held in
    let put : c.if-from-end.self.held ≡ put_run held c.args.pos c.args.bytes.now c.args.frame = elim c.if-from-end.branch [
      | then-from-end+in_ok-part+in_ok-put+in-Some-1 w ↦ ap (λ (j : Joined). j.held) w.self-is ∙ w.in_ok-put.ensures.held ∙ put_from c w.in_ok-part.part w.if-from-end.true w.in_ok-part.ensures
      | then-from-end+in_ok-part+in_ok-put+in-None-1 w ↦ ap (λ (j : Joined). j.held) w.self-is ∙ w.in_ok-put.ensures.held ∙ put_from c w.in_ok-part.part w.if-from-end.true w.in_ok-part.ensures
      | else-from-end w ↦
          let size : length c.bytes.result.now ≡ length c.args.bytes.now = ap length c.bytes.ensures in
          ap (λ (j : Joined). j.held) w.self-is ∙ sym (put_held held c.args.pos c.args.bytes.now c.args.frame (λ q low high. held_before c q low (omega (arith, size, w.if-from-end.false))))
    ] in
    IfOk-weaker c.join.result _ _ (λ _ is. is ∙ put) c.join.ensures.held
