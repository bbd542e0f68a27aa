use Rattle.std.proofs.Common.{sym, ap, subst, ◌∙◌, ◌+◌, ◌≤◌, ℕ, List, length, drop, refl, arith}
use Rattle.stream_messages.specs.declared.part.Going.TheVariants.{Unfinished, Message}
use Rattle.stream_messages.specs.Tellings.{end_of}
use Rattle.stream_messages.specs.Cursors.{GoesOn, next_behind}
use Rattle.stream_messages.proofs.CursorLemmas.{part_told, part_rest, part_next}
use Rattle.stream_messages.proofs.CuttingLemmas.{there_are}
use Rattle.stream_messages.proofs.cutting.cut_part.Goals as goal

pub mark_behind-requires : goal.mark_behind-requires
mark_behind-requires c =
    let goes_on : GoesOn c.args.started.part (drop c.args.place c.args.front.now) (Message c.in-Message.told) =
    subst (λ (bytes : List ℕ). GoesOn c.args.started.part bytes (Message c.in-Message.told)) c.tail.ensures (subst (GoesOn c.args.started.part c.tail.result.now) c.in-Message.is c.in_ok-part.ensures) in
    let there : c.args.place + end_of c.in-Message.told ≤ length c.args.front.now =
    there_are c.requires.known.0 c.args.started.asked c.args.place c.args.front.now c.in-Message.told
    (part_told c.requires.known.0 c.args.started.asked c.args.started.part (drop c.args.place c.args.front.now) c.in-Message.told c.requires.known.1 goes_on) in
    omega (arith, there, c.requires.room)

pub returns-in-Unfinished : goal.returns-in-Unfinished
returns-in-Unfinished c framer known =
    let goes_on : GoesOn c.args.started.part (drop c.args.place c.args.front.now) (Unfinished c.in-Unfinished.part) =
    subst (λ (bytes : List ℕ). GoesOn c.args.started.part bytes (Unfinished c.in-Unfinished.part)) c.tail.ensures (subst (GoesOn c.args.started.part c.tail.result.now) c.in-Unfinished.is c.in_ok-part.ensures) in
    part_rest framer c.args.started.asked c.args.front.now c.args.mark c.args.place c.args.started.part c.in-Unfinished.part c.requires.place.0 c.requires.place.1 known goes_on

pub returns-in-Message : goal.returns-in-Message
returns-in-Message c framer known =
    let goes_on : GoesOn c.args.started.part (drop c.args.place c.args.front.now) (Message c.in-Message.told) =
    subst (λ (bytes : List ℕ). GoesOn c.args.started.part bytes (Message c.in-Message.told)) c.tail.ensures (subst (GoesOn c.args.started.part c.tail.result.now) c.in-Message.is c.in_ok-part.ensures) in
    part_next framer c.args.started.asked c.args.start c.args.front.now c.args.mark c.mark_behind.result c.args.place c.args.started.part c.in-Message.told c.next_behind.result
    c.requires.place.0 known goes_on (c.mark_behind.ensures c.args.mark (sym c.requires.place.0) refl) (c.next_behind.ensures ∙ ap next_behind c.then.ensures)
