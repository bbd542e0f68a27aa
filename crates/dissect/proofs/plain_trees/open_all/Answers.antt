use Rattle.std.proofs.Common.{◌≡◌, ℕ, ◌<◌, ◌+◌, List, ◌∷◌, length, drop, get_or, sym, ap, subst, ◌∙◌, arith}
use Rattle.std.specs.List.{AllByRecursion as Each}
use Rattle.std.proofs.lemmas.List.{drop_all, drop_more}
use Rattle.pk_source.specs.declared.header.Header.{Header}
use Rattle.pk_tree.specs.Trees.{TreeShown}
use Rattle.dissect.specs.Feeding.{grown_by}
use Rattle.dissect.specs.Ways.{IsReadBy}
use Rattle.dissect.proofs.plain_trees.open_all.Goals as goal

header_left : (headers : List Header) (at : ℕ) (h : Header) → at < length headers → h ≡ get_or headers at h → drop at headers ≡ h ∷ drop (at + 1) headers
header_left headers at h inside is = drop_more headers at h inside ∙ ap (λ (x : Header). x ∷ drop (at + 1) headers) (sym is)

pub open_header-requires-clause-read : goal.open_header-requires-clause-read
open_header-requires-clause-read c =
    let h = c.header-item.result in
    let left = header_left c.args.headers.now c.loop-header.header-index h c.loop-header-test.true c.header-item.is in
    let both : Each (IsReadBy c.args.tree.now.buffers) (h ∷ drop (c.loop-header.header-index + 1) c.args.headers.now) = subst (Each (IsReadBy c.args.tree.now.buffers)) left c.loop-header.invariant.rest in
    subst (λ (buffers : List (List ℕ)). IsReadBy buffers h) (sym c.loop-header.invariant.same_buffers) both.0

pub loop-header-preserved : goal.loop-header-preserved
loop-header-preserved c =
    let h = c.header-item.result in
    let more = drop (c.loop-header.header-index + 1) c.args.headers.now in
    let left = header_left c.args.headers.now c.loop-header.header-index h c.loop-header-test.true c.header-item.is in
    let both : Each (IsReadBy c.args.tree.now.buffers) (h ∷ more) = subst (Each (IsReadBy c.args.tree.now.buffers)) left c.loop-header.invariant.rest in
    record {
      grows = ap (λ (t : TreeShown). grown_by t more) c.in_ok-open_header.ensures.tree ∙ ap (grown_by c.loop-header.tree) (sym left) ∙ c.loop-header.invariant.grows;
      rest = both.1;
      same_buffers = c.open_header.ensures.buffers ∙ c.loop-header.invariant.same_buffers;
      count = omega (arith, c.in_ok-open_header.ensures.count, c.loop-header.invariant.count);
      within = omega (arith, c.loop-header-test.true);
    }

pub returns-clause-tree : goal.returns-clause-tree
returns-clause-tree c =
    let none = drop_all c.loop-header.header-index c.args.headers.now c.loop-header-test.false in
    ap (grown_by c.loop-header.tree) (sym none) ∙ c.loop-header.invariant.grows
