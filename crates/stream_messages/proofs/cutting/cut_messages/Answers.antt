use Rattle.std.proofs.Common.{subst, sym, List}
use Rattle.std.specs.Prelude.{All}
use Rattle.stream_messages.specs.declared.placed.Placed.{Placed}
use Rattle.stream_messages.specs.Cursors.{IsLook, IsWhole}
use Rattle.stream_messages.proofs.CuttingLemmas.{IsLoop, loop_first, loop_more, loop_nearer, loop_sound, loop_quiet, loop_few, loop_cut, loop_from}
use Rattle.stream_messages.proofs.cutting.cut_messages.Goals as goal

pub loop-messages-init : goal.loop-messages-init
loop-messages-init c =
    subst (IsLoop c.args.framer c.args.start c.args.front.now c.args.heads.now c.args.cursor c.args.cursor) (sym c.new-messages.ensures.items)
    (loop_first c.args.framer c.args.start c.args.front.now c.args.heads.now c.args.cursor c.requires.sound)

pub loop-messages-smaller : goal.loop-messages-smaller
loop-messages-smaller c =
    loop_nearer c.args.framer c.args.start c.args.front.now c.args.heads.now c.loop-messages.cursor c.in-Whole.message c.in-Whole.behind c.loop-messages.invariant.sound
    (subst (IsLook c.args.framer c.args.start c.args.front.now c.args.heads.now c.loop-messages.cursor) c.in-Whole.is c.in_ok-message.ensures)

pub loop-messages-preserved : goal.loop-messages-preserved
loop-messages-preserved c =
    subst (IsLoop c.args.framer c.args.start c.args.front.now c.args.heads.now c.args.cursor c.in-Whole.behind) (sym c.in_ok-push-in-Whole.ensures.items)
    (loop_more c.args.framer c.args.start c.args.front.now c.args.heads.now c.args.cursor c.loop-messages.cursor c.loop-messages.messages.items c.in-Whole.message c.in-Whole.behind
    c.loop-messages.invariant (subst (IsLook c.args.framer c.args.start c.args.front.now c.args.heads.now c.loop-messages.cursor) c.in-Whole.is c.in_ok-message.ensures))

pub returns-in-Rest-clause-cut : goal.returns-in-Rest-clause-cut
returns-in-Rest-clause-cut c =
    loop_cut c.args.framer c.args.start c.args.front.now c.args.heads.now c.args.cursor c.loop-messages.cursor c.loop-messages.messages.items
    (record { messages = c.from_vec-messages.result; cursor = c.in-Rest.cursor }) c.loop-messages.invariant
    (subst (IsLook c.args.framer c.args.start c.args.front.now c.args.heads.now c.loop-messages.cursor) c.in-Rest.is c.in_ok-message.ensures) c.from_vec-messages.ensures

pub returns-in-Rest-clause-from : goal.returns-in-Rest-clause-from
returns-in-Rest-clause-from c =
    loop_from c.args.framer c.args.start c.args.front.now c.args.heads.now c.args.cursor c.loop-messages.cursor c.loop-messages.messages.items
    (record { messages = c.from_vec-messages.result; cursor = c.in-Rest.cursor }) c.loop-messages.invariant
    (subst (IsLook c.args.framer c.args.start c.args.front.now c.args.heads.now c.loop-messages.cursor) c.in-Rest.is c.in_ok-message.ensures) c.from_vec-messages.ensures

pub returns-in-Rest-clause-whole : goal.returns-in-Rest-clause-whole
returns-in-Rest-clause-whole c =
    subst (λ (ms : List Placed). All (IsWhole c.args.framer c.args.start c.args.front.now) ms) (sym c.from_vec-messages.ensures) c.loop-messages.invariant.whole

pub returns-in-Rest-clause-sound : goal.returns-in-Rest-clause-sound
returns-in-Rest-clause-sound c =
    loop_sound c.args.framer c.args.start c.args.front.now c.args.heads.now c.loop-messages.cursor c.in-Rest.cursor c.loop-messages.invariant.sound
    (subst (IsLook c.args.framer c.args.start c.args.front.now c.args.heads.now c.loop-messages.cursor) c.in-Rest.is c.in_ok-message.ensures)

pub returns-in-Rest-clause-few : goal.returns-in-Rest-clause-few
returns-in-Rest-clause-few c =
    loop_few c.args.framer c.args.start c.args.front.now c.args.heads.now c.args.cursor c.loop-messages.cursor c.loop-messages.messages.items c.from_vec-messages.result c.loop-messages.invariant
    c.from_vec-messages.ensures

pub returns-in-Rest-clause-quiet : goal.returns-in-Rest-clause-quiet
returns-in-Rest-clause-quiet c =
    loop_quiet c.args.framer c.args.start c.args.front.now c.args.heads.now c.loop-messages.cursor c.in-Rest.cursor c.loop-messages.invariant.sound
    (subst (IsLook c.args.framer c.args.start c.args.front.now c.args.heads.now c.loop-messages.cursor) c.in-Rest.is c.in_ok-message.ensures)
