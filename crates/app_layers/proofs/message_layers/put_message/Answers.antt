use Rattle.std.proofs.Common.{subst, sym}
use Rattle.app_layers.proofs.MessageLemmas.{within_span, part_inside, part_message, gathered_message}
use Rattle.tcp_messages.specs.Shown.{IsMessage}
use Rattle.std.proofs.Common.{List, ℕ}
use Rattle.app_layers.proofs.message_layers.put_message.Goals as goal

pub part_of-requires-clause-within : goal.part_of-requires-clause-within
part_of-requires-clause-within c =
    within_span c.args.tree.now.buffers c.args.span c.args.message.now c.in-Segment.place c.end.result c.requires.inside c.in-Segment.is c.requires.whole c.end.ensures

pub put_told-requires-clause-inside : goal.put_told-requires-clause-inside
put_told-requires-clause-inside c =
    part_inside c.args.tree.now.buffers c.args.span c.args.message.now c.in-Segment.place c.end.result c.requires.inside c.in-Segment.is c.requires.whole c.end.ensures c.part_of.result c.part_of.ensures

pub put_told-requires-clause-whole : goal.put_told-requires-clause-whole
put_told-requires-clause-whole c =
    part_message c.args.tree.now.buffers c.args.span c.args.message.now c.in-Segment.place c.end.result c.requires.inside c.in-Segment.is c.requires.whole c.end.ensures c.part_of.result c.part_of.ensures

pub put_told-requires-in-Gathered-clause-whole : goal.put_told-requires-in-Gathered-clause-whole
put_told-requires-in-Gathered-clause-whole c =
    subst (λ (bytes : List ℕ). IsMessage c.args.message.now.message.told bytes) (sym c.in_ok-whole-in-Gathered.ensures.whole)
    (gathered_message _ c.args.message.now c.in-Gathered.gathered c.in-Gathered.is c.requires.whole)
