use Rattle.std.proofs.Common.{◌≡◌, ◌+◌, ◌≤◌, List, ℕ, [], ◌∷◌, ◌++◌, length, slice_get, Some, take, refl, sym, ap, subst, ◌∙◌, arith}
use Rattle.std.specs.Prelude.{All}
use Rattle.std.proofs.lemmas.List.{take_all, take_more}
use Rattle.std.proofs.lemmas.List.Elements.{All-append, All-nil}
use Rattle.std.proofs.lemmas.Option.{slice_get_read}
use Rattle.pk_base.specs.declared.stretch.Stretch.{Stretch}
use Rattle.stream_messages.specs.declared.cursor.Cursor.{Cursor}
use Rattle.stream_messages.specs.declared.placed.Placed.{Placed}
use Rattle.stream_messages.specs.Cursors.{AddsFew, answers_before, begun, bytes_in, IsWhole, IsWholeInOne}
use Rattle.stream_messages.proofs.PassingLemmas.{CutsAll, IsPassed, few_begun, few_push, passed_first, passed_more, whole_in}
use Rattle.stream_messages.proofs.stretches.cut_stretches.Goals as goal

pub loop-stretch-init : goal.loop-stretch-init
loop-stretch-init c = record {
  passed = subst (IsPassed c.args.framer c.args.heads.now c.args.cursor c.args.cursor []) (sym c.new-messages.ensures) (passed_first c.args.framer c.args.heads.now c.args.cursor);
  whole = subst (All (IsWholeInOne c.args.framer c.args.stretches.now)) (sym c.new-messages.ensures) (All-nil (IsWholeInOne c.args.framer c.args.stretches.now));
  few = let none : length c.new-messages.result ≡ 0 = ap length c.new-messages.ensures in omega (arith, none);
}

pub loop-stretch-preserved : goal.loop-stretch-preserved
loop-stretch-preserved c =
    let before : List Stretch = take c.loop-stretch.stretch-index c.args.stretches.now in
    let more : take (c.loop-stretch.stretch-index + 1) c.args.stretches.now ≡ before ++ c.stretch-item.result ∷ [] =
    take_more c.args.stretches.now c.loop-stretch.stretch-index c.stretch-item.result c.loop-stretch-test.true
    ∙ ap (λ (s : Stretch). before ++ s ∷ []) (sym c.stretch-item.is) in
    let cuts : CutsAll c.args.framer c.args.heads.now c.stretch-item.result.start (begun (answers_before c.loop-stretch.cursor)) c.stretch-item.result.bytes c.in_ok-shown.shown =
    subst (λ (d : Cursor). CutsAll c.args.framer c.args.heads.now c.stretch-item.result.start d c.stretch-item.result.bytes c.in_ok-shown.shown) c.anew.ensures
    (subst (λ (b : List ℕ). CutsAll c.args.framer c.args.heads.now c.stretch-item.result.start c.anew.result b c.in_ok-shown.shown) c.bytes.ensures c.in_ok-shown.ensures.cut) in
    let there : slice_get c.args.stretches.now c.loop-stretch.stretch-index ≡ Some c.stretch-item.result =
    slice_get_read c.args.stretches.now (length c.args.stretches.now) c.loop-stretch.stretch-index c.stretch-item.result refl c.loop-stretch-test.true c.stretch-item.is in
    let here : All (IsWhole c.args.framer c.stretch-item.result.start c.stretch-item.result.bytes) c.in_ok-shown.shown.messages =
    subst (λ (b : List ℕ). All (IsWhole c.args.framer c.stretch-item.result.start b) c.in_ok-shown.shown.messages) c.bytes.ensures c.in_ok-shown.ensures.whole in
    let few : length c.in_ok-shown.shown.messages ≤ length c.stretch-item.result.bytes =
    few_begun c.args.framer (answers_before c.loop-stretch.cursor) c.anew.result c.stretch-item.result.bytes c.in_ok-shown.shown.messages c.anew.ensures
    (subst (λ (b : List ℕ). AddsFew c.args.framer c.anew.result b c.in_ok-shown.shown.messages) c.bytes.ensures c.in_ok-shown.ensures.few) in
    record {
      passed = subst (λ (ss : List Stretch). IsPassed c.args.framer c.args.heads.now c.args.cursor c.in_ok-shown.shown.cursor ss c.append.new.self) (sym more)
          (subst (λ (ms : List Placed). IsPassed c.args.framer c.args.heads.now c.args.cursor c.in_ok-shown.shown.cursor (before ++ c.stretch-item.result ∷ []) ms) (sym c.in_ok-append.ensures)
          (passed_more c.args.framer c.args.heads.now c.args.cursor c.loop-stretch.cursor before c.loop-stretch.messages c.stretch-item.result c.in_ok-shown.shown c.loop-stretch.invariant.passed cuts));
      whole = subst (All (IsWholeInOne c.args.framer c.args.stretches.now)) (sym c.in_ok-append.ensures)
          (All-append (IsWholeInOne c.args.framer c.args.stretches.now) c.loop-stretch.messages c.in_ok-shown.shown.messages c.loop-stretch.invariant.whole
          (whole_in c.args.framer c.args.stretches.now c.loop-stretch.stretch-index c.stretch-item.result c.in_ok-shown.shown.messages there here));
      few = subst (λ (ms : List Placed). length ms ≤ bytes_in (take (c.loop-stretch.stretch-index + 1) c.args.stretches.now)) (sym c.in_ok-append.ensures)
          (subst (λ (ss : List Stretch). length (c.loop-stretch.messages ++ c.in_ok-shown.shown.messages) ≤ bytes_in ss) (sym more)
          (few_push before c.stretch-item.result c.loop-stretch.messages c.in_ok-shown.shown.messages c.loop-stretch.invariant.few few));
    }

pub returns-clause-messages : goal.returns-clause-messages
returns-clause-messages c =
    (subst (λ (ss : List Stretch). IsPassed c.args.framer c.args.heads.now c.args.cursor c.loop-stretch.cursor ss c.loop-stretch.messages)
    (take_all c.loop-stretch.stretch-index c.args.stretches.now c.loop-stretch-test.false) c.loop-stretch.invariant.passed).messages

pub returns-clause-cursor : goal.returns-clause-cursor
returns-clause-cursor c =
    (subst (λ (ss : List Stretch). IsPassed c.args.framer c.args.heads.now c.args.cursor c.loop-stretch.cursor ss c.loop-stretch.messages)
    (take_all c.loop-stretch.stretch-index c.args.stretches.now c.loop-stretch-test.false) c.loop-stretch.invariant.passed).cursor

pub returns-clause-few : goal.returns-clause-few
returns-clause-few c =
    subst (λ (ss : List Stretch). length c.loop-stretch.messages ≤ bytes_in ss) (take_all c.loop-stretch.stretch-index c.args.stretches.now c.loop-stretch-test.false) c.loop-stretch.invariant.few
