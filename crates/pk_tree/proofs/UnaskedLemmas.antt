-- A layer whose last steps are left out, since they are read whole and none of their fields is wanted.
use Rattle.std.proofs.Common.{◌≡◌, ℕ, Bool, List, [], ◌++◌, refl, append-nil}
use Rattle.pk_base.specs.declared.span.Span.{Span}
use Rattle.pk_base.specs.declared.heads.Mode.{Mode}
use Rattle.pk_tree.specs.declared.layout.Reach.{Reach}
use Rattle.pk_tree.specs.declared.layout.Reach.TheVariants.{All, Short, Failed}
use Rattle.pk_tree.specs.declared.layout.Step.{Step}
use Rattle.pk_tree.specs.Layouts.{items_after, items_read, reach, reach_after, layer_read}
use Rattle.pk_tree.specs.Trees.{TreeShown, kept, with_layer}
use Rattle.pk_tree.proofs.KeptLemmas.{after, kept-append}
use Rattle.pk_tree.proofs.TableLemmas.{items_read-append, reach-append}

then_all : (r : Reach) → reach_after r All ≡ r
then_all All = refl
then_all Short = refl
then_all Failed = refl

-- how far steps are read, before others that all are
pub front_reaches : (end : ℕ) (xs ys : List Step) → reach end ys ≡ All → reach end (xs ++ ys) ≡ reach end xs
front_reaches end xs ys all = rw (reach-append end xs ys, all) (then_all (reach end xs))

front_kept : (wanted : List ℕ) (buffers : List (List ℕ)) (span : Span) (xs ys : List Step) → kept wanted (items_read buffers span ys) ≡ [] → kept wanted (items_read buffers span (xs ++ ys)) ≡ kept wanted (items_read buffers span xs)
front_kept wanted buffers span xs ys none =
    let back : kept wanted (items_after (reach span.len xs) (items_read buffers span ys)) ≡ [] = after wanted buffers span (reach span.len xs) (items_read buffers span ys) none in
    rw (items_read-append buffers span xs ys, kept-append wanted (items_read buffers span xs) (items_after (reach span.len xs) (items_read buffers span ys)), back)
    (append-nil (kept wanted (items_read buffers span xs)))

pub front_alone : (t : TreeShown) (proto : ℕ) (span : Span) (xs ys : List Step) (mode : Mode) (cut : Bool) → reach span.len ys ≡ All → kept t.wanted (items_read t.buffers span ys) ≡ [] →
    layer_read t proto span (xs ++ ys) mode cut ≡ layer_read t proto span xs mode cut
unfolding layer_read with_layer
front_alone t proto span xs ys mode cut all none =
    rw (front_reaches span.len xs ys all, front_kept t.wanted t.buffers span xs ys none) refl
