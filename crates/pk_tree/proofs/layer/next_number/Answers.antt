use Rattle.std.proofs.Common.{◌≡◌, ◌+◌, ◌≤◌, length, ap, sym, ◌∙◌, arith, ◌==◌}
use Rattle.std.proofs.lemmas.Bool.{eqb-true}
use Rattle.std.proofs.lemmas.List.Sums.{count_by-le-length}
use Rattle.pk_tree.specs.declared.layer.Layer.{Layer}
use Rattle.pk_tree.specs.Trees.{layers_of}
use Rattle.pk_tree.proofs.LayersFit.{last_number}
use Rattle.pk_tree.proofs.layer.next_number.Goals as goal
use Rattle.pk_tree.proofs.layer.next_number.Goals.{Then-eq}

found : (c : Then-eq) → c.index-layers-at.result.nth ≡ layers_of c.args.proto c.args.layers.now
found c =
    last_number c.requires.numbered.0 c.args.layers.now c.args.proto c.loop-at.at c.index-layers-at.result c.requires.numbered.1 c.loop-at-test.true c.loop-at.invariant.inside c.index-layers-at.is (eqb-true c.index-layers-at.result.proto c.args.proto (sym c.eq.ensures ∙ c.if-eq.true)) c.loop-at.invariant.none_behind

pub overflow_add-result : goal.overflow_add-result
overflow_add-result c =
    let most : layers_of c.args.proto c.args.layers.now ≤ length c.args.layers.now = count_by-le-length (λ (l : Layer). l.proto == c.args.proto) c.args.layers.now in
    omega (arith, found c)

pub returns-then-eq : goal.returns-then-eq
returns-then-eq c = ap (λ n. n + 1) (found c)
