use Rattle.std.proofs.Common.{ℕ, ◌+◌, List, length, subst, sym, ap, ◌∙◌, true≢false, arith}
use Rattle.pk_fields.specs.declared.rules.PortRule.{PortRule}
use Rattle.pk_tree.specs.Trees.{IsKept as IsKeptTree}
use Rattle.dissect.specs.Stands.{DissectorShown, IsKept, Stands, StandsWithin}
use Rattle.dissect.specs.declared.keeping.Keeping.{Keeping}
use Rattle.dissect.specs.Keeping.{KeepsFor, KeepsWhole, keeps_all}
use Rattle.app_layers.specs.Times.{with_time}
use Rattle.dissect.specs.Trees.{tree_at}
use Rattle.dissect.proofs.KeepingLemmas.{all_asked}
use Rattle.dissect.proofs.Taken.{ReadsBy, tree-taken, lacks-read, lacks-taken, values-taken, values-read, after-taken, whole-taken}
use Rattle.dissect.proofs.dissector.Dissector.take.Goals as goal

pub returns-in-Ok-clause-kept : goal.returns-in-Ok-clause-kept
unfolding Stands
returns-in-Ok-clause-kept c = λ past stands.
    let d = c.args.self.now in
    let frame = c.args.frame.now in
    let state = c.make_tree.new.state in
    let reads = subst (λ (x : DissectorShown). ReadsBy x.decode.rules x.wanted frame x.times x.state state c.in-Ok.tree) c.self.view_is
    (subst (λ (rules : List PortRule). ReadsBy rules c.self.inside.wanted frame c.self.inside.times c.self.inside.state state c.in-Ok.tree) c.slice-rules.ensures c.in-Ok.ensures.walked) in
    tree-taken d.wanted past frame d state c.in-Ok.tree (c.make_tree.ensures.added.keeps ∙ ap (λ (x : DissectorShown). x.state.keeps) c.self.view_is) stands.0 reads stands.1

pub returns-in-Ok-clause-whole : goal.returns-in-Ok-clause-whole
unfolding Stands
returns-in-Ok-clause-whole c = λ all past stands.
    let d = c.args.self.now in
    let frame = c.args.frame.now in
    let state = c.make_tree.new.state in
    let reads = subst (λ (x : DissectorShown). ReadsBy x.decode.rules x.wanted frame x.times x.state state c.in-Ok.tree) c.self.view_is
    (subst (λ (rules : List PortRule). ReadsBy rules c.self.inside.wanted frame c.self.inside.times c.self.inside.state state c.in-Ok.tree) c.slice-rules.ensures c.in-Ok.ensures.walked) in
    whole-taken d.decode.rules past frame c.in-Ok.tree
    (subst (λ (fields : List ℕ). IsKeptTree fields (tree_at d.decode.rules past frame) c.in-Ok.tree) all
    (tree-taken d.wanted past frame d state c.in-Ok.tree (c.make_tree.ensures.added.keeps ∙ ap (λ (x : DissectorShown). x.state.keeps) c.self.view_is) stands.0 reads stands.1))

pub returns-in-Ok-clause-tree : goal.returns-in-Ok-clause-tree
unfolding StandsWithin
returns-in-Ok-clause-tree c = λ asks unsparing past after.
    let d = c.args.self.now in
    let frame = c.args.frame.now in
    let state = c.make_tree.new.state in
    let reads = subst (λ (x : DissectorShown). ReadsBy x.decode.rules x.wanted frame x.times x.state state c.in-Ok.tree) c.self.view_is
    (subst (λ (rules : List PortRule). ReadsBy rules c.self.inside.wanted frame c.self.inside.times c.self.inside.state state c.in-Ok.tree) c.slice-rules.ensures c.in-Ok.ensures.walked) in
    tree-taken d.wanted past frame d state c.in-Ok.tree (c.make_tree.ensures.added.keeps ∙ ap (λ (x : DissectorShown). x.state.keeps) c.self.view_is) after reads
    (all_asked d (subst IsKept c.self.view_is c.self.invariant.0) asks unsparing)

pub returns-in-Ok-clause-values : goal.returns-in-Ok-clause-values
unfolding StandsWithin
returns-in-Ok-clause-values c = λ past after.
    let d = c.args.self.now in
    let frame = c.args.frame.now in
    let state = c.make_tree.new.state in
    let tree = c.in-Ok.tree in
    let reads = subst (λ (x : DissectorShown). ReadsBy x.decode.rules x.wanted frame x.times x.state state tree) c.self.view_is
    (subst (λ (rules : List PortRule). ReadsBy rules c.self.inside.wanted frame c.self.inside.times c.self.inside.state state tree) c.slice-rules.ensures c.in-Ok.ensures.walked) in
    let enough = subst (λ (x : DissectorShown). KeepsFor x.state.keeps x.wanted) c.self.view_is c.self.invariant.0.asked in
    let same = c.make_tree.ensures.added.keeps ∙ ap (λ (x : DissectorShown). x.state.keeps) c.self.view_is in
    values-read (keeps_all d.state.keeps) d.wanted (tree_at d.decode.rules past frame) tree
    (tree-taken d.wanted past frame d state tree same after reads)
    (λ some. values-taken d.wanted past frame d state tree same after reads enough (enough.links some))

pub returns-in-Ok-clause-lacks : goal.returns-in-Ok-clause-lacks
unfolding StandsWithin
returns-in-Ok-clause-lacks c = λ past after.
    let d = c.args.self.now in
    let frame = c.args.frame.now in
    let state = c.make_tree.new.state in
    let tree = c.in-Ok.tree in
    let reads = subst (λ (x : DissectorShown). ReadsBy x.decode.rules x.wanted frame x.times x.state state tree) c.self.view_is
    (subst (λ (rules : List PortRule). ReadsBy rules c.self.inside.wanted frame c.self.inside.times c.self.inside.state state tree) c.slice-rules.ensures c.in-Ok.ensures.walked) in
    let enough = subst (λ (x : DissectorShown). KeepsFor x.state.keeps x.wanted) c.self.view_is c.self.invariant.0.asked in
    let same = c.make_tree.ensures.added.keeps ∙ ap (λ (x : DissectorShown). x.state.keeps) c.self.view_is in
    lacks-read (keeps_all d.state.keeps) d.wanted (tree_at d.decode.rules past frame) tree
    (tree-taken d.wanted past frame d state tree same after reads)
    (λ some. lacks-taken d.wanted past frame d state tree same after reads enough (enough.links some))

pub returns-in-Ok-clause-stands : goal.returns-in-Ok-clause-stands
unfolding StandsWithin
returns-in-Ok-clause-stands c = λ past after.
    let frame = c.args.frame.now in
    let state = c.make_tree.new.state in
    let reads = subst (λ (x : DissectorShown). ReadsBy x.decode.rules x.wanted frame x.times x.state state c.in-Ok.tree) c.self.view_is
    (subst (λ (rules : List PortRule). ReadsBy rules c.self.inside.wanted frame c.self.inside.times c.self.inside.state state c.in-Ok.tree) c.slice-rules.ensures c.in-Ok.ensures.walked) in
    after-taken c.args.self.now.wanted past frame c.args.self.now _ c.in-Ok.tree
    c.if-self.false
    (c.number_of-number.ensures.number ∙ c.requires.number)
    (ap (λ n. c.self.inside.captured + n) c.captured.ensures ∙ ap (λ (d : DissectorShown). d.captured + length frame.bytes) c.self.view_is)
    (c.with-self-inside.ensures.with ∙ ap (λ (d : DissectorShown). with_time frame.time d.times) c.self.view_is)
    (ap (λ (d : DissectorShown). d.decode) c.self.view_is)
    after reads

pub returns-in-Ok-clause-stands_whole : goal.returns-in-Ok-clause-stands_whole
unfolding Stands
returns-in-Ok-clause-stands_whole c = λ past stands.
    let frame = c.args.frame.now in
    let state = c.make_tree.new.state in
    let reads = subst (λ (x : DissectorShown). ReadsBy x.decode.rules x.wanted frame x.times x.state state c.in-Ok.tree) c.self.view_is
    (subst (λ (rules : List PortRule). ReadsBy rules c.self.inside.wanted frame c.self.inside.times c.self.inside.state state c.in-Ok.tree) c.slice-rules.ensures c.in-Ok.ensures.walked) in
    let after = after-taken c.args.self.now.wanted past frame c.args.self.now _ c.in-Ok.tree
    c.if-self.false
    (c.number_of-number.ensures.number ∙ c.requires.number)
    (ap (λ n. c.self.inside.captured + n) c.captured.ensures ∙ ap (λ (d : DissectorShown). d.captured + length frame.bytes) c.self.view_is)
    (c.with-self-inside.ensures.with ∙ ap (λ (d : DissectorShown). with_time frame.time d.times) c.self.view_is)
    (ap (λ (d : DissectorShown). d.decode) c.self.view_is)
    stands.0 reads in
    let same = c.make_tree.ensures.added.keeps ∙ ap (λ (x : DissectorShown). x.state.keeps) c.self.view_is in
    (after, ap keeps_all same ∙ stands.1, ap (λ (k : Keeping). k.lets_go) same ∙ stands.2)

pub make_tree-requires-clause-few : goal.make_tree-requires-clause-few
make_tree-requires-clause-few c =
    let udp = c.self.invariant.0.udp_few c.if-self.false in
    let tcp = c.self.invariant.0.tcp_few c.if-self.false in
    let taken = ap (λ (d : DissectorShown). d.taken) c.self.view_is in
    record {
      udp = omega (arith, udp, taken, c.requires.number, c.number_of-number.ensures.number, c.number_of-number.ensures.fits);
      tcp = omega (arith, tcp, taken, c.requires.number, c.number_of-number.ensures.number, c.number_of-number.ensures.fits);
      bytes = omega (arith, c.self.invariant.0.bytes_few c.if-self.false, ap (λ (d : DissectorShown). d.captured) c.self.view_is, c.requires.captured);
    }

pub invariant_of-self-in-Err : goal.invariant_of-self-in-Err
invariant_of-self-in-Err c =
    let few = c.self.invariant.0.udp_few c.if-self.false in
    let taken = ap (λ (d : DissectorShown). d.taken) c.self.view_is in (
      record {
        times = c.self.invariant.0.times;
        udp = omega (arith, few, taken, c.requires.number, c.number_of-number.ensures.number, c.number_of-number.ensures.fits, c.make_tree.ensures.added.udp);
        udp_few = λ not_spent. absurd (true≢false not_spent);
        tcp_few = λ not_spent. absurd (true≢false not_spent);
        bytes_few = λ not_spent. absurd (true≢false not_spent);
        asked = subst (λ (keeps : Keeping). KeepsFor keeps c.self.inside.wanted) (sym c.make_tree.ensures.added.keeps) c.self.invariant.0.asked;
        whole = λ unsparing. subst (λ (keeps : Keeping). KeepsWhole keeps c.self.inside.wanted) (sym c.make_tree.ensures.added.keeps) (c.self.invariant.0.whole unsparing);
      },
      c.self.invariant.1,
      c.self.invariant.2,
    )
