use Rattle.std.proofs.Common.{◌+◌, List, length, subst, ap, ◌∙◌}
use Rattle.pk_fields.specs.declared.rules.PortRule.{PortRule}
use Rattle.pk_source.specs.Outlines.{outlined}
use Rattle.dissect.specs.Stands.{DissectorShown}
use Rattle.dissect.specs.Keeping.{KeepsFor, keeps_all}
use Rattle.app_layers.specs.Times.{with_time}
use Rattle.dissect.specs.Trees.{tree_at}
use Rattle.dissect.proofs.Taken.{ReadsBy, after-taken, lacks-read, lacks-taken, tree-taken, values-read, values-taken}
use Rattle.dissect.proofs.dissector.Dissector.take_headers.Goals as goal

pub returns-in-Ok-true-clause-tree : goal.returns-in-Ok-true-clause-tree
returns-in-Ok-true-clause-tree c = λ taken past after all.
    let d = c.args.self.now in
    let frame = c.args.frame.now in
    let heads = c.take.new.self in
    let reads = subst (λ (x : DissectorShown). ReadsBy x.decode.rules x.wanted frame x.times x.state c.take.new.state (outlined frame.bytes x.wanted heads.headers heads.notes)) c.self.view_is
    (subst (λ (rules : List PortRule). ReadsBy rules c.self.inside.wanted frame c.self.inside.times c.self.inside.state c.take.new.state (outlined frame.bytes c.self.inside.wanted heads.headers heads.notes)) c.slice.ensures (c.in-Ok-true.ensures.read c.in-Ok-true.field-0-test)) in
    let tree = outlined frame.bytes d.wanted heads.headers heads.notes in
    let same = c.take.ensures.added.keeps ∙ ap (λ (x : DissectorShown). x.state.keeps) c.self.view_is in
    tree-taken d.wanted past frame d c.take.new.state tree same after reads all

pub returns-in-Ok-true-clause-values : goal.returns-in-Ok-true-clause-values
returns-in-Ok-true-clause-values c = λ taken past after.
    let d = c.args.self.now in
    let frame = c.args.frame.now in
    let heads = c.take.new.self in
    let reads = subst (λ (x : DissectorShown). ReadsBy x.decode.rules x.wanted frame x.times x.state c.take.new.state (outlined frame.bytes x.wanted heads.headers heads.notes)) c.self.view_is
    (subst (λ (rules : List PortRule). ReadsBy rules c.self.inside.wanted frame c.self.inside.times c.self.inside.state c.take.new.state (outlined frame.bytes c.self.inside.wanted heads.headers heads.notes)) c.slice.ensures (c.in-Ok-true.ensures.read c.in-Ok-true.field-0-test)) in
    let enough = subst (λ (x : DissectorShown). KeepsFor x.state.keeps x.wanted) c.self.view_is c.self.invariant.0.asked in
    let tree = outlined frame.bytes d.wanted heads.headers heads.notes in
    let same = c.take.ensures.added.keeps ∙ ap (λ (x : DissectorShown). x.state.keeps) c.self.view_is in
    values-read (keeps_all d.state.keeps) d.wanted (tree_at d.decode.rules past frame) tree
    (tree-taken d.wanted past frame d c.take.new.state tree same after reads)
    (λ some. values-taken d.wanted past frame d c.take.new.state tree same after reads enough (enough.links some))

pub returns-in-Ok-true-clause-lacks : goal.returns-in-Ok-true-clause-lacks
returns-in-Ok-true-clause-lacks c = λ taken past after.
    let d = c.args.self.now in
    let frame = c.args.frame.now in
    let heads = c.take.new.self in
    let reads = subst (λ (x : DissectorShown). ReadsBy x.decode.rules x.wanted frame x.times x.state c.take.new.state (outlined frame.bytes x.wanted heads.headers heads.notes)) c.self.view_is
    (subst (λ (rules : List PortRule). ReadsBy rules c.self.inside.wanted frame c.self.inside.times c.self.inside.state c.take.new.state (outlined frame.bytes c.self.inside.wanted heads.headers heads.notes)) c.slice.ensures (c.in-Ok-true.ensures.read c.in-Ok-true.field-0-test)) in
    let enough = subst (λ (x : DissectorShown). KeepsFor x.state.keeps x.wanted) c.self.view_is c.self.invariant.0.asked in
    let tree = outlined frame.bytes d.wanted heads.headers heads.notes in
    let same = c.take.ensures.added.keeps ∙ ap (λ (x : DissectorShown). x.state.keeps) c.self.view_is in
    lacks-read (keeps_all d.state.keeps) d.wanted (tree_at d.decode.rules past frame) tree
    (tree-taken d.wanted past frame d c.take.new.state tree same after reads)
    (λ some. lacks-taken d.wanted past frame d c.take.new.state tree same after reads enough (enough.links some))

pub returns-in-Ok-true-clause-after : goal.returns-in-Ok-true-clause-after
returns-in-Ok-true-clause-after c = λ taken past after.
    let d = c.args.self.now in
    let frame = c.args.frame.now in
    let heads = c.take.new.self in
    let reads = subst (λ (x : DissectorShown). ReadsBy x.decode.rules x.wanted frame x.times x.state c.take.new.state (outlined frame.bytes x.wanted heads.headers heads.notes)) c.self.view_is
    (subst (λ (rules : List PortRule). ReadsBy rules c.self.inside.wanted frame c.self.inside.times c.self.inside.state c.take.new.state (outlined frame.bytes c.self.inside.wanted heads.headers heads.notes)) c.slice.ensures (c.in-Ok-true.ensures.read c.in-Ok-true.field-0-test)) in
    after-taken d.wanted past frame d _ (outlined frame.bytes d.wanted heads.headers heads.notes)
    (ap (λ (x : DissectorShown). x.spent) c.self.view_is ∙ c.requires.not_spent)
    (c.number_of-number.ensures.number ∙ c.requires.number)
    (ap (λ n. c.self.inside.captured + n) c.captured.ensures ∙ ap (λ (x : DissectorShown). x.captured + length frame.bytes) c.self.view_is)
    (c.with-self-inside.ensures.with ∙ ap (λ (x : DissectorShown). with_time frame.time x.times) c.self.view_is)
    (ap (λ (x : DissectorShown). x.decode) c.self.view_is)
    after reads
