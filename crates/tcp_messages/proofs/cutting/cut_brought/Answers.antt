use Rattle.std.proofs.Common.{◌≡◌, ◌+◌, ◌-◌, ◌^◌, ◌<◌, eqb, ℕ, List, length, drop, sym, ap, subst, ◌∙◌}
use Rattle.std.specs.Prelude.{All}
use Rattle.std.proofs.lemmas.Result.{IfOk-weaker}
use Rattle.pk_base.specs.declared.lost.Lost.{Lost}
use Rattle.pk_base.specs.declared.stretch.Stretch.{Stretch}
use Rattle.tcp_streams.specs.Ways.{WayState}
use Rattle.tcp_streams.specs.Standing.{way_in}
use Rattle.tcp_messages.proofs.Passing.{ok_both, last_short, right_by, whole_last, whole_behind, grown_case, grown_few, newest_case, newest_few}
use Rattle.tcp_messages.proofs.cutting.cut_brought.Goals as goal

pub returns-then-gaps-eq0-clause-whole : goal.returns-then-gaps-eq0-clause-whole
returns-then-gaps-eq0-clause-whole c =
    IfOk-weaker c.cut_messages.result _ _
    (λ shown whole. whole_last c.args.framer (way_in c.args.streams.now c.args.taken.now.stream c.args.taken.now.side) c.front_start-start.result c.front-front.result.now shown.messages
    c.front_start-start.ensures.kept c.front-front.ensures.kept whole) c.cut_messages.ensures.whole

pub returns-then-gaps-eq0-clause-cut : goal.returns-then-gaps-eq0-clause-cut
returns-then-gaps-eq0-clause-cut c =
    IfOk-weaker c.cut_messages.result _ _
    (λ shown cuts.
    grown_case c.args.framer c.args.heads.now (way_in c.args.streams.now c.args.taken.now.stream c.args.taken.now.side) c.front_start-start.result c.front-front.result.now c.args.taken.now.lost c.args.cursor shown
    c.front_start-start.ensures.kept c.front-front.ensures.kept (ap length (sym c.slice-gaps.ensures) ∙ c.if-gaps-eq0.true) cuts) c.cut_messages.ensures.from

pub cut_newest-requires-clause-passed : goal.cut_newest-requires-clause-passed
cut_newest-requires-clause-passed c =
    let v : WayState = way_in c.args.streams.now c.args.taken.now.stream c.args.taken.now.side in
    let n : ℕ = length c.slice-gaps.result.now - 1 in
    let is : c.last_of-passed.result.now ≡ drop (length v.earlier - n) v.earlier = c.last_of-passed.ensures ∙ ap (λ (xs : List Stretch). drop (length xs - n) xs) c.earlier.ensures.kept in
    subst (All (λ (s : Stretch). s.start + length s.bytes < 2 ^ 64)) (sym is)
    (last_short v (length v.earlier - n) (c.requires.ready.ways c.args.taken.now.stream (eqb c.args.taken.now.side 1)) (c.requires.ready.room c.args.taken.now.stream (eqb c.args.taken.now.side 1)))

pub returns-clause-whole : goal.returns-clause-whole
returns-clause-whole c =
    let v : WayState = way_in c.args.streams.now c.args.taken.now.stream c.args.taken.now.side in
    let n : ℕ = length c.slice-gaps.result.now - 1 in
    let passed : c.last_of-passed.result.now ≡ drop (length v.earlier - n) v.earlier = c.last_of-passed.ensures ∙ ap (λ (xs : List Stretch). drop (length xs - n) xs) c.earlier.ensures.kept in
    IfOk-weaker c.cut_newest.result _ _
    (λ shown whole. whole_behind c.args.framer v c.last_of-passed.result.now n c.front_start-start.result c.front-front.result.now shown.messages passed c.front_start-start.ensures.kept c.front-front.ensures.kept whole)
    c.cut_newest.ensures.whole

pub returns-clause-cut : goal.returns-clause-cut
returns-clause-cut c =
    let v : WayState = way_in c.args.streams.now c.args.taken.now.stream c.args.taken.now.side in
    let passed : c.last_of-passed.result.now ≡ drop (length v.earlier - (length c.args.taken.now.lost - 1)) v.earlier =
    c.last_of-passed.ensures ∙ ap (λ (xs : List Stretch). drop (length xs - (length c.slice-gaps.result.now - 1)) xs) c.earlier.ensures.kept
    ∙ ap (λ (xs : List Lost). drop (length v.earlier - (length xs - 1)) v.earlier) c.slice-gaps.ensures in
    IfOk-weaker c.cut_newest.result _ _
    (λ shown both.
    newest_case c.args.framer c.args.heads.now v c.last_of-passed.result.now c.front_start-start.result c.front-front.result.now c.args.taken.now.lost c.args.cursor shown passed
    c.front_start-start.ensures.kept c.front-front.ensures.kept (λ none. c.if-gaps-eq0.false (ap length c.slice-gaps.ensures ∙ none)) both.0 both.1)
    (ok_both c.cut_newest.result _ _ c.cut_newest.ensures.messages c.cut_newest.ensures.cursor)

pub returns-then-gaps-eq0-clause-right : goal.returns-then-gaps-eq0-clause-right
returns-then-gaps-eq0-clause-right c =
    IfOk-weaker c.cut_messages.result _ _
    (λ shown both. right_by c.args.framer (way_in c.args.streams.now c.args.taken.now.stream c.args.taken.now.side) c.front-front.result.now shown.cursor c.front-front.ensures.kept both.0 both.1)
    (ok_both c.cut_messages.result _ _ c.cut_messages.ensures.sound c.cut_messages.ensures.quiet)

pub returns-clause-right : goal.returns-clause-right
returns-clause-right c =
    IfOk-weaker c.cut_newest.result _ _
    (λ shown both. right_by c.args.framer (way_in c.args.streams.now c.args.taken.now.stream c.args.taken.now.side) c.front-front.result.now shown.cursor c.front-front.ensures.kept both.0 both.1)
    (ok_both c.cut_newest.result _ _ c.cut_newest.ensures.sound c.cut_newest.ensures.quiet)

pub returns-then-gaps-eq0-clause-few : goal.returns-then-gaps-eq0-clause-few
returns-then-gaps-eq0-clause-few c =
    IfOk-weaker c.cut_messages.result _ _
    (λ shown adds w s way is lost quiet.
    grown_few c.args.framer w (way_in c.args.streams.now c.args.taken.now.stream c.args.taken.now.side) s c.front-front.result.now c.args.taken.now.lost c.args.cursor shown.messages
    c.front-front.ensures.kept (ap length (sym c.slice-gaps.ensures) ∙ c.if-gaps-eq0.true) adds way is lost quiet) c.cut_messages.ensures.few

pub returns-clause-few : goal.returns-clause-few
returns-clause-few c =
    let v : WayState = way_in c.args.streams.now c.args.taken.now.stream c.args.taken.now.side in
    let passed : c.last_of-passed.result.now ≡ drop (length v.earlier - (length c.args.taken.now.lost - 1)) v.earlier =
    c.last_of-passed.ensures ∙ ap (λ (xs : List Stretch). drop (length xs - (length c.slice-gaps.result.now - 1)) xs) c.earlier.ensures.kept
    ∙ ap (λ (xs : List Lost). drop (length v.earlier - (length xs - 1)) v.earlier) c.slice-gaps.ensures in
    IfOk-weaker c.cut_newest.result _ _
    (λ shown few w s way is lost quiet.
    newest_few c.args.framer w v s c.last_of-passed.result.now c.front-front.result.now c.args.taken.now.lost shown.messages passed c.front-front.ensures.kept
    (λ none. c.if-gaps-eq0.false (ap length c.slice-gaps.ensures ∙ none)) few way is lost) c.cut_newest.ensures.few
