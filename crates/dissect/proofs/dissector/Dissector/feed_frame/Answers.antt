use Rattle.std.proofs.Common.{◌+◌, List, length, subst, ap, ◌∙◌}
use Rattle.pk_fields.specs.declared.rules.PortRule.{PortRule}
use Rattle.dissect.specs.Feeding.{taken_tree}
use Rattle.dissect.specs.Stands.{DissectorShown}
use Rattle.dissect.specs.Keeping.{KeepsFor, keeps_all}
use Rattle.app_layers.specs.Times.{with_time}
use Rattle.dissect.specs.Trees.{tree_at}
use Rattle.dissect.proofs.Taken.{ReadsBy, after-taken, lacks-read, lacks-taken, tree-taken, values-read, values-taken}
use Rattle.dissect.proofs.dissector.Dissector.feed_frame.Goals as goal

pub returns-in-Ok-Some-clause-tree : goal.returns-in-Ok-Some-clause-tree
returns-in-Ok-Some-clause-tree c = λ past after all.
    let d = c.args.self.now in
    let frame = c.args.frame.now in
    let heads = c.take_fed.new.self in
    let by = c.in-Ok-Some.by in
    let read = rw c.in-Ok-Some.field-0-is at c.in-Ok-Some.ensures.read in
    let reads = subst (λ (x : DissectorShown). ReadsBy x.decode.rules x.wanted frame x.times x.state c.take_fed.new.state (taken_tree frame.bytes x.wanted heads by)) c.self.view_is
    (subst (λ (rules : List PortRule). ReadsBy rules c.self.inside.wanted frame c.self.inside.times c.self.inside.state c.take_fed.new.state (taken_tree frame.bytes c.self.inside.wanted heads by)) c.slice.ensures read) in
    let tree = taken_tree frame.bytes d.wanted heads by in
    let same = c.take_fed.ensures.added.keeps ∙ ap (λ (x : DissectorShown). x.state.keeps) c.self.view_is in
    tree-taken d.wanted past frame d c.take_fed.new.state tree same after reads all

pub returns-in-Ok-Some-clause-values : goal.returns-in-Ok-Some-clause-values
returns-in-Ok-Some-clause-values c = λ past after.
    let d = c.args.self.now in
    let frame = c.args.frame.now in
    let heads = c.take_fed.new.self in
    let by = c.in-Ok-Some.by in
    let read = rw c.in-Ok-Some.field-0-is at c.in-Ok-Some.ensures.read in
    let reads = subst (λ (x : DissectorShown). ReadsBy x.decode.rules x.wanted frame x.times x.state c.take_fed.new.state (taken_tree frame.bytes x.wanted heads by)) c.self.view_is
    (subst (λ (rules : List PortRule). ReadsBy rules c.self.inside.wanted frame c.self.inside.times c.self.inside.state c.take_fed.new.state (taken_tree frame.bytes c.self.inside.wanted heads by)) c.slice.ensures read) in
    let enough = subst (λ (x : DissectorShown). KeepsFor x.state.keeps x.wanted) c.self.view_is c.self.invariant.0.asked in
    let tree = taken_tree frame.bytes d.wanted heads by in
    let same = c.take_fed.ensures.added.keeps ∙ ap (λ (x : DissectorShown). x.state.keeps) c.self.view_is in
    values-read (keeps_all d.state.keeps) d.wanted (tree_at d.decode.rules past frame) tree
    (tree-taken d.wanted past frame d c.take_fed.new.state tree same after reads)
    (λ some. values-taken d.wanted past frame d c.take_fed.new.state tree same after reads enough (enough.links some))

pub returns-in-Ok-Some-clause-lacks : goal.returns-in-Ok-Some-clause-lacks
returns-in-Ok-Some-clause-lacks c = λ past after.
    let d = c.args.self.now in
    let frame = c.args.frame.now in
    let heads = c.take_fed.new.self in
    let by = c.in-Ok-Some.by in
    let read = rw c.in-Ok-Some.field-0-is at c.in-Ok-Some.ensures.read in
    let reads = subst (λ (x : DissectorShown). ReadsBy x.decode.rules x.wanted frame x.times x.state c.take_fed.new.state (taken_tree frame.bytes x.wanted heads by)) c.self.view_is
    (subst (λ (rules : List PortRule). ReadsBy rules c.self.inside.wanted frame c.self.inside.times c.self.inside.state c.take_fed.new.state (taken_tree frame.bytes c.self.inside.wanted heads by)) c.slice.ensures read) in
    let enough = subst (λ (x : DissectorShown). KeepsFor x.state.keeps x.wanted) c.self.view_is c.self.invariant.0.asked in
    let tree = taken_tree frame.bytes d.wanted heads by in
    let same = c.take_fed.ensures.added.keeps ∙ ap (λ (x : DissectorShown). x.state.keeps) c.self.view_is in
    lacks-read (keeps_all d.state.keeps) d.wanted (tree_at d.decode.rules past frame) tree
    (tree-taken d.wanted past frame d c.take_fed.new.state tree same after reads)
    (λ some. lacks-taken d.wanted past frame d c.take_fed.new.state tree same after reads enough (enough.links some))

pub returns-in-Ok-Some-clause-after : goal.returns-in-Ok-Some-clause-after
returns-in-Ok-Some-clause-after c = λ past after.
    let d = c.args.self.now in
    let frame = c.args.frame.now in
    let heads = c.take_fed.new.self in
    let by = c.in-Ok-Some.by in
    let read = rw c.in-Ok-Some.field-0-is at c.in-Ok-Some.ensures.read in
    let reads = subst (λ (x : DissectorShown). ReadsBy x.decode.rules x.wanted frame x.times x.state c.take_fed.new.state (taken_tree frame.bytes x.wanted heads by)) c.self.view_is
    (subst (λ (rules : List PortRule). ReadsBy rules c.self.inside.wanted frame c.self.inside.times c.self.inside.state c.take_fed.new.state (taken_tree frame.bytes c.self.inside.wanted heads by)) c.slice.ensures read) in
    after-taken d.wanted past frame d _ (taken_tree frame.bytes d.wanted heads by)
    (ap (λ (x : DissectorShown). x.spent) c.self.view_is ∙ c.requires.not_spent)
    (c.number_of-number.ensures.number ∙ c.requires.number)
    (ap (λ n. c.self.inside.captured + n) c.captured.ensures ∙ ap (λ (x : DissectorShown). x.captured + length frame.bytes) c.self.view_is)
    (c.with-self-inside.ensures.with ∙ ap (λ (x : DissectorShown). with_time frame.time x.times) c.self.view_is)
    (ap (λ (x : DissectorShown). x.decode) c.self.view_is)
    after reads
