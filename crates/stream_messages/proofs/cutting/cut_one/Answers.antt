use Rattle.std.proofs.Common.{sym, subst, ◌∙◌, ℕ, Bool, length, length-drop, drop, arith}
use Rattle.std.proofs.lemmas.Result.{IfOk-weaker}
use Rattle.stream_messages.specs.Cursors.{next_at, IsPartCut, IsSoundNext}
use Rattle.stream_messages.proofs.CursorLemmas.{rest_none, part_cut}
use Rattle.stream_messages.proofs.CuttingLemmas.{place_is, place_none}
use Rattle.stream_messages.proofs.cutting.cut_one.Goals as goal

pub returns-in_default : goal.returns-in_default
returns-in_default c asked number counts is =
    rest_none c.args.framer asked c.args.front.now c.args.cursor (place_none (next_at c.args.cursor.mark) (length c.args.front.now) (sym c.place_within.ensures ∙ c.in_default.is)) c.requires.sound

pub cut_part-requires-clause-known : goal.cut_part-requires-clause-known
cut_part-requires-clause-known c =
    let place = place_is (next_at c.args.cursor.mark) (length c.args.front.now) c.in-Some.place (sym c.place_within.ensures ∙ c.in-Some.is) in
    (c.args.framer, c.in-Some-started.ensures.known c.in-Some.place c.args.front.now (subst (λ (k : ℕ). IsSoundNext c.args.framer k c.args.front.now c.args.cursor.next) place.0 c.requires.sound))

pub returns-in-Some-started : goal.returns-in-Some-started
returns-in-Some-started c =
    let place = place_is (next_at c.args.cursor.mark) (length c.args.front.now) c.in-Some.place (sym c.place_within.ensures ∙ c.in-Some.is) in
    IfOk-weaker c.cut_part.result _ _
    (λ cut is asked number counts asks.
    let same = c.in-Some-started.ensures.asked asked number (drop (next_at c.args.cursor.mark) c.args.front.now) (omega (arith, place.1, length-drop (next_at c.args.cursor.mark) c.args.front.now)) counts asks in
    part_cut c.args.framer asked c.args.start c.args.front.now c.args.cursor cut c.in-Some-started.ensures.some
    (subst (λ (a : Bool). IsPartCut c.args.framer a c.args.start c.args.front.now c.args.cursor.mark cut) same
    (is c.args.framer (c.in-Some-started.ensures.known c.in-Some.place c.args.front.now (subst (λ (k : ℕ). IsSoundNext c.args.framer k c.args.front.now c.args.cursor.next) place.0 c.requires.sound)))))
    c.cut_part.ensures
