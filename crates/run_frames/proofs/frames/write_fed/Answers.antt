use Rattle.run_frames.specs.Taken.{heads_tree}
use Rattle.run_frames.proofs.ToldLemmas.{after_told}
use Rattle.run_frames.proofs.WantedLemmas.{fed_told}
use Rattle.run_frames.specs.declared.taken.Taken.TheVariants as takens
use Rattle.run_frames.proofs.frames.write_fed.Goals as goal

pub returns-in-Ok-Some-Heads-clause-after : goal.returns-in-Ok-Some-Heads-clause-after
returns-in-Ok-Some-Heads-clause-after g c =
    let some = rw c.in-Ok-Some-Heads.field-0-is at c.in-Ok-Some-Heads.ensures.taken in
    let taken = rw c.in-Ok-Some-Heads.field-0-0-is at some in
    after_told c.write_plain.result c.args.later.now c.args.dissector.now c.args.plan.now c.args.frame.now
    (heads_tree c.args.frame.now.bytes c.take_fed.new.dissector.wanted c.in-Ok-Some-Heads.heads.value)
    c.args.lines.now.notes c.write_plain.new.lines.notes c.args.lines.now.capture c.write_plain.new.lines.capture
    (g.O.Sink.written c.args.out.now) (g.O.Sink.written c.write_plain.new.out)
    (λ passes past serves stands. fed_told passes c.args.later.now c.args.dissector.now c.take_fed.new.dissector c.args.plan.now past c.args.frame.now (takens.Heads c.in-Ok-Some-Heads.heads)
    serves c.requires.serves c.requires.rules c.take_fed.ensures.kept taken stands)
    c.write_plain.ensures.after

pub returns-in-Ok-Some-Heads-clause-part : goal.returns-in-Ok-Some-Heads-clause-part
returns-in-Ok-Some-Heads-clause-part g c =
    let some = rw c.in-Ok-Some-Heads.field-0-is at c.in-Ok-Some-Heads.ensures.taken in
    let taken = rw c.in-Ok-Some-Heads.field-0-0-is at some in λ passes past serves stands keeps.
    c.write_plain.ensures.part passes past
    (fed_told passes c.args.later.now c.args.dissector.now c.take_fed.new.dissector c.args.plan.now past c.args.frame.now (takens.Heads c.in-Ok-Some-Heads.heads)
    serves c.requires.serves c.requires.rules c.take_fed.ensures.kept taken stands) keeps

pub returns-in-Ok-Some-Tree-clause-after : goal.returns-in-Ok-Some-Tree-clause-after
returns-in-Ok-Some-Tree-clause-after g c =
    let some = rw c.in-Ok-Some-Tree.field-0-is at c.in-Ok-Some-Tree.ensures.taken in
    let taken = rw c.in-Ok-Some-Tree.field-0-0-is at some in
    after_told c.write_taken.result c.args.later.now c.args.dissector.now c.args.plan.now c.args.frame.now c.in-Ok-Some-Tree.tree
    c.args.lines.now.notes c.write_taken.new.lines.notes c.args.lines.now.capture c.write_taken.new.lines.capture
    (g.O.Sink.written c.args.out.now) (g.O.Sink.written c.write_taken.new.out)
    (λ passes past serves stands. fed_told passes c.args.later.now c.args.dissector.now c.take_fed.new.dissector c.args.plan.now past c.args.frame.now (takens.Tree c.in-Ok-Some-Tree.tree)
    serves c.requires.serves c.requires.rules c.take_fed.ensures.kept taken stands)
    c.write_taken.ensures.after

pub returns-in-Ok-Some-Tree-clause-part : goal.returns-in-Ok-Some-Tree-clause-part
returns-in-Ok-Some-Tree-clause-part g c =
    let some = rw c.in-Ok-Some-Tree.field-0-is at c.in-Ok-Some-Tree.ensures.taken in
    let taken = rw c.in-Ok-Some-Tree.field-0-0-is at some in λ passes past serves stands keeps.
    c.write_taken.ensures.part passes past
    (fed_told passes c.args.later.now c.args.dissector.now c.take_fed.new.dissector c.args.plan.now past c.args.frame.now (takens.Tree c.in-Ok-Some-Tree.tree)
    serves c.requires.serves c.requires.rules c.take_fed.ensures.kept taken stands) keeps
