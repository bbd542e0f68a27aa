use Rattle.std.proofs.Common.{◌≡◌, ◌+◌, ◌≤◌, length, length-append, sym, ap, subst, ◌∙◌, arith}
use Rattle.std.specs.Prelude.{All}
use Rattle.pk_base.specs.declared.stretch.Stretch.{Stretch}
use Rattle.stream_messages.specs.declared.cursor.Cursor.{Cursor}
use Rattle.stream_messages.specs.Cursors.{IsWholeInOne, answers_before, with_last}
use Rattle.stream_messages.proofs.PassingLemmas.{CutsAll, few_begun, passed_by, passed_more, newest_behind, whole_with}
use Rattle.stream_messages.proofs.stretches.cut_newest.Goals as goal

pub returns-clause-messages : goal.returns-clause-messages
returns-clause-messages c asked number from counts asks all =
    let last : Stretch = record { start = c.args.start; bytes = c.args.front.now } in
    c.in_ok-append.ensures
    ∙ (passed_more c.args.framer c.args.heads.now c.args.cursor c.in_ok-before.before.cursor c.args.passed.now c.in_ok-before.before.messages last c.in_ok-last.last
    (passed_by c.args.framer c.args.heads.now c.args.cursor c.args.passed.now c.in_ok-before.before c.in_ok-before.ensures.messages c.in_ok-before.ensures.cursor) (subst (λ (d : Cursor). CutsAll c.args.framer c.args.heads.now c.args.start d c.args.front.now c.in_ok-last.last) c.anew.ensures c.in_ok-last.ensures.cut)).messages asked number from counts asks all

pub returns-clause-cursor : goal.returns-clause-cursor
returns-clause-cursor c =
    newest_behind c.args.framer c.args.heads.now c.args.cursor c.args.passed.now c.in_ok-before.before (record { start = c.args.start; bytes = c.args.front.now }) c.in_ok-last.last
    c.in_ok-before.ensures.messages c.in_ok-before.ensures.cursor (subst (λ (d : Cursor). CutsAll c.args.framer c.args.heads.now c.args.start d c.args.front.now c.in_ok-last.last) c.anew.ensures c.in_ok-last.ensures.cut)

pub returns-clause-whole : goal.returns-clause-whole
returns-clause-whole c =
    subst (All (IsWholeInOne c.args.framer (with_last c.args.passed.now c.args.start c.args.front.now))) (sym c.in_ok-append.ensures)
    (whole_with c.args.framer c.args.passed.now (record { start = c.args.start; bytes = c.args.front.now }) c.in_ok-before.before.messages c.in_ok-last.last.messages c.in_ok-before.ensures.whole c.in_ok-last.ensures.whole)

pub returns-clause-few : goal.returns-clause-few
returns-clause-few c =
    let last : length c.in_ok-last.last.messages ≤ length c.args.front.now =
    few_begun c.args.framer (answers_before c.in_ok-before.before.cursor) c.anew.result c.args.front.now c.in_ok-last.last.messages c.anew.ensures c.in_ok-last.ensures.few in
    let size : length c.append.new.self ≡ length c.in_ok-before.before.messages + length c.in_ok-last.last.messages =
    ap length c.in_ok-append.ensures ∙ length-append c.in_ok-before.before.messages c.in_ok-last.last.messages in
    omega (arith, c.in_ok-before.ensures.few, last, size)
