use Rattle.std.proofs.Common.{◌≡◌, ◌↔◌, ◌≤◌, ◌+◌, ◌-◌, ℕ, IfSome, IsSome, slice_range, List, length, slice_get, Some, is_some, arith, sym, ap, ◌∙◌, subst}
use Rattle.std.proofs.lemmas.Bool.{false≢true}
use Rattle.pk_base.specs.declared.stretch.Stretch.{Stretch}
use Rattle.tcp_streams.specs.Ways.{stretches}
use Rattle.tcp_streams.specs.States.{state_of}
use Rattle.tcp_streams.proofs.PartLemmas.{in_last, in_earlier, last_there, still_there, Finds, finds}
use Rattle.tcp_streams.proofs.way.Way.find.Goals as goal

in_front : (c : goal.After-range_of) → Finds (λ b. b.now) (stretches (state_of c.args.self.now)) c.args.from c.args.to c.range_of.result
in_front c =
    let w = state_of c.args.self.now in
    let last : Stretch = record { start = w.start; bytes = w.front } in
    let at : w.start ≤ c.args.from = omega (arith, c.start-start.ensures, c.if-start-from.true) in
    finds (λ b. b.now) (stretches w) c.args.from c.args.to (length w.earlier) last c.front.result.now c.range_of.result (last_there w.earlier last) at c.front.ensures
    (λ j y there lies. in_last 0 w.earlier last y j c.args.from c.args.to c.args.self.now.apart at there lies)
    (subst (λ (p : ℕ). IfSome c.range_of.result (λ b. b.now ≡ slice_range c.front.result.now (c.args.from - p) (c.args.to - p))) c.start-start.ensures c.range_of.ensures.some)
    (subst (λ (p : ℕ). IsSome c.range_of.result ↔ ((c.args.from ≤ c.args.to) × (c.args.to ≤ p + length c.front.result.now))) c.start-start.ensures c.range_of.ensures.lies)

pub returns-then-start-from-clause-some : goal.returns-then-start-from-clause-some
returns-then-start-from-clause-some c = (in_front c).some

pub returns-then-start-from-clause-lies : goal.returns-then-start-from-clause-lies
returns-then-start-from-clause-lies c = (in_front c).lies

pub returns-in_err-stretch-clause-lies : goal.returns-in_err-stretch-clause-lies
returns-in_err-stretch-clause-lies c =
    let w = state_of c.args.self.now in
    let last : Stretch = record { start = w.start; bytes = w.front } in (
      λ is. absurd (false≢true (sym (ap is_some c.from_residual.ensures) ∙ is)),
      λ one.
          let there = in_earlier w.earlier last one.1 one.0 c.args.from c.args.to (omega (arith, c.start-start.ensures, c.if-start-from.false)) one.2 one.3 in
          absurd (c.in_err-stretch.ensures.lies one.0 one.1 c.args.to (subst (λ (xs : List Stretch). slice_get xs one.0 ≡ Some one.1) (sym c.deref.ensures.value) there) one.3),
    )

in_earlier_one : (c : goal.After-range_of-2) → Finds (λ b. b.now) (stretches (state_of c.args.self.now)) c.args.from c.args.to c.range_of-2.result
in_earlier_one c =
    let w = state_of c.args.self.now in
    let last : Stretch = record { start = w.start; bytes = w.front } in
    let found = c.in_ok-stretch.ensures.some in
    let x = c.in_ok-stretch.stretch.now in
    let there = subst (λ (xs : List Stretch). slice_get xs found.0 ≡ Some x) c.deref.ensures.value found.1 in
    finds (λ b. b.now) (stretches w) c.args.from c.args.to found.0 x c.bytes.result.now c.range_of-2.result (still_there w.earlier last x found.0 there) found.2 c.bytes.ensures
    (λ j y at lies. c.in_ok-stretch.ensures.lies j y c.args.to
    (subst (λ (xs : List Stretch). slice_get xs j ≡ Some y) (sym c.deref.ensures.value) (in_earlier w.earlier last y j c.args.from c.args.to (omega (arith, c.start-start.ensures, c.if-start-from.false)) at lies)) lies)
    c.range_of-2.ensures.some c.range_of-2.ensures.lies

pub returns-clause-some : goal.returns-clause-some
returns-clause-some c = (in_earlier_one c).some

pub returns-clause-lies : goal.returns-clause-lies
returns-clause-lies c = (in_earlier_one c).lies
