use Rattle.std.proofs.Common.{◌≡◌, ◌+◌, ℕ, List, length, cond, leb, sym, ap, ◌∙◌, subst, arith}
use Rattle.std.specs.FinMap.{get}
use Rattle.range_bytes.specs.Held.{Held, put_run, IsFront, IsFreeFrom}
use Rattle.range_bytes.proofs.Runs.{get-put_run}
use Rattle.range_bytes.proofs.Fronts.{put_held, front_put}
use Rattle.range_bytes.proofs.ranges.Ranges.insert.Goals as goal

pub returns-then-end-max-clause-ok : goal.returns-then-end-max-clause-ok
returns-then-end-max-clause-ok c =
    let size : length c.bytes.result.now ≡ length c.args.bytes.now = ap length c.bytes.ensures in
    let front : IsFront c.args.self.now c.self.inside.front = subst (λ (held : Held). IsFront held c.self.inside.front) c.self.view_is c.self.invariant in
    sym (put_held c.args.self.now c.args.pos c.args.bytes.now c.args.frame (λ q low high.
    front.below q (omega (arith, c.max.ensures, c.if-end-max.true, size))))

pub invariant_of-self-2 : goal.invariant_of-self-2
invariant_of-self-2 c =
    let same : c.in_ok-clone.field-0 ≡ c.args.bytes.now = c.in_ok-clone.ensures.cases in
    let size : length c.bytes.result.now ≡ length c.args.bytes.now = ap length c.bytes.ensures in
    let put : c.put.new.self ≡ put_run c.self.inside.pieces c.args.pos c.args.bytes.now c.args.frame =
    c.in_ok-put.ensures.ok ∙ ap (λ (bytes : List ℕ). put_run c.self.inside.pieces c.args.pos bytes c.args.frame) same in
    let known = c.held_below-known.ensures ∙ ap (λ (n : ℕ). cond (leb c.args.pos c.self.inside.front) (c.args.pos + n) c.self.inside.front) size in
    let to = c.first_free-self-inside.result in
    subst (λ (held : Held). IsFront held to) (sym put)
    (front_put c.self.inside.pieces c.args.pos c.args.bytes.now c.args.frame c.self.inside.front c.held_below-known.result to c.self.invariant known
    (subst (λ (held : Held). IsFreeFrom held c.held_below-known.result to) put c.first_free-self-inside.ensures))

pub returns-clause-cells : goal.returns-clause-cells
returns-clause-cells c = λ position.
    let same : c.in_ok-clone.field-0 ≡ c.args.bytes.now = c.in_ok-clone.ensures.cases in
    let put : c.put.new.self ≡ put_run c.args.self.now c.args.pos c.args.bytes.now c.args.frame =
    c.in_ok-put.ensures.ok ∙ ap (λ (bytes : List ℕ). put_run c.self.inside.pieces c.args.pos bytes c.args.frame) same
    ∙ ap (λ (held : Held). put_run held c.args.pos c.args.bytes.now c.args.frame) c.self.view_is in
    ap (λ (held : Held). get held position) put ∙ get-put_run c.args.self.now c.args.pos c.args.bytes.now c.args.frame position
