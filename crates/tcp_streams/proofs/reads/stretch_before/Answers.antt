use Rattle.std.proofs.Common.{rules, of_calls, ◌≡◌, ◌-◌, ◌≤◌, length, Some, nat_le, slice_get, true, arith, refl, sym, subst, ◌∙◌, ℕ}
use Rattle.std.proofs.lemmas.Bool.{leb-true}
use Rattle.std.proofs.lemmas.Fn.{always_returns_same}
use Rattle.std.proofs.lemmas.Option.{get_or_from_slice_get, slice_get_read}
use Rattle.pk_base.specs.declared.stretch.Stretch.{Stretch}
use Rattle.tcp_streams.proofs.PartLemmas.{IsPoint, parted, point_past, point_next}
use Rattle.tcp_streams.proofs.reads.stretch_before.Goals as goal

pub returns-then-place-eq0-clause-lies : goal.returns-then-place-eq0-clause-lies
returns-then-place-eq0-clause-lies c = λ number stretch to there lies.
    let xs = c.args.stretches.now in
    let point : IsPoint xs c.args.at c.partition_point-place.result = c.partition_point-place.ensures.partitioned (λ s. nat_le s.start c.args.at) (always_returns_same _ _ _ (λ a r f k. search (rules, of_calls)))
    (parted 0 xs c.requires.0 c.args.at c.requires.1) in
    absurd (omega (arith, point_past xs c.args.at c.partition_point-place.result number stretch point there lies.low, c.if-place-eq0.true))

pub returns-clause-some : goal.returns-clause-some
returns-clause-some c =
    let xs = c.args.stretches.now in
    let place = c.partition_point-place.result in
    let here = c.index-stretches-place.result in
    let point : IsPoint xs c.args.at place = c.partition_point-place.ensures.partitioned (λ s. nat_le s.start c.args.at) (always_returns_same _ _ _ (λ a r f k. search (rules, of_calls)))
    (parted 0 xs c.requires.0 c.args.at c.requires.1) in
    let passes : nat_le here.start c.args.at ≡ true =
    subst (λ (s : Stretch). nat_le s.start c.args.at ≡ true) (sym c.index-stretches-place.is) (point.0 (place - 1) here (omega arith) (omega (arith, c.if-place-eq0.false))) in
    let low : here.start ≤ c.args.at = leb-true here.start c.args.at passes in (
      place - 1,
      slice_get_read xs (length xs) (place - 1) here refl (omega (arith, c.if-place-eq0.false, c.partition_point-place.ensures.bound)) c.index-stretches-place.is,
      low,
    )

pub returns-clause-lies : goal.returns-clause-lies
returns-clause-lies c = λ number stretch to there lies.
    let xs = c.args.stretches.now in
    let place = c.partition_point-place.result in
    let point : IsPoint xs c.args.at place = c.partition_point-place.ensures.partitioned (λ s. nat_le s.start c.args.at) (always_returns_same _ _ _ (λ a r f k. search (rules, of_calls)))
    (parted 0 xs c.requires.0 c.args.at c.requires.1) in
    let next = point_next 0 xs c.requires.0 c.args.at to place number stretch c.requires.1 point c.partition_point-place.ensures.bound there lies in
    let before : number ≡ place - 1 = omega (arith, next) in
    c.index-stretches-place.is ∙ get_or_from_slice_get xs (place - 1) stretch _ (subst (λ (i : ℕ). slice_get xs i ≡ Some stretch) before there)
