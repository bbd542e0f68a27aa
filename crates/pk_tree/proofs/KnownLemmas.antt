-- Layers all of whose steps are read.
use Rattle.std.proofs.Common.{◌≡◌, ℕ, Bool, false, List, [], ◌∷◌, refl, sym}
use Rattle.pk_base.specs.declared.span.Span.{Span}
use Rattle.pk_base.specs.declared.heads.Mode.{Mode}
use Rattle.pk_fields.specs.Fields.{row_of}
use Rattle.pk_fields.specs.FieldSets.{is_in}
use Rattle.pk_tree.specs.declared.layout.Reach.{Reach}
use Rattle.pk_tree.specs.declared.layout.Reach.TheVariants.{All, Short, Failed}
use Rattle.pk_tree.specs.declared.layout.Step.{Step}
use Rattle.pk_tree.specs.declared.layout.Step.TheVariants as steps
use Rattle.pk_tree.specs.Layouts.{StepsFit, step_items, step_reach, items_read, reach, reach_after, layer_read, with_items}
use Rattle.pk_tree.specs.Trees.{TreeShown, with_layer, with_item}
use Rattle.pk_tree.proofs.KeptLemmas.{passed}
use Rattle.pk_tree.proofs.LayoutLemmas.{layer_by_parts, tree-on}

-- of steps that are all read the first is, and the others are
pub first_known : (end : ℕ) (step : Step) (rest : List Step) → reach end (step ∷ rest) ≡ All → (step_reach end step ≡ All) × (reach end rest ≡ All)
unfolding reach
first_known end step rest all = by_reach (step_reach end step) (reach end rest) all
  where
    by_reach : (r s : Reach) → reach_after r s ≡ All → (r ≡ All) × (s ≡ All)
    by_reach All s is = (refl, is)
    by_reach Short s is = absurd (cc)
    by_reach Failed s is = absurd (cc)

-- a row that isn't wanted adds nothing
pub row_unwanted : (t : TreeShown) (span : Span) (field at : ℕ) → is_in t.wanted field ≡ false → t ≡ with_items t (step_items t.buffers span (steps.Row field at))
unfolding step_items with_items with_item
row_unwanted t span field at none = rw none refl

-- the tree after a step that is read and what is left of the steps
pub known_on : (first t next : TreeShown) (span : Span) (steps rest : List Step) (step : Step) → with_items t (items_read first.buffers span (step ∷ rest)) ≡ with_items first (items_read first.buffers span steps) →
    t.buffers ≡ first.buffers → step_reach span.len step ≡ All → next ≡ with_items t (step_items t.buffers span step) →
    with_items next (items_read first.buffers span rest) ≡ with_items first (items_read first.buffers span steps)
known_on first t next span steps rest step goes same known new = tree-on first t next span steps rest step All goes same refl (sym known) new

-- a layer whose steps are all read has no fault layer behind it
pub layer_known : (t opened read : TreeShown) (proto : ℕ) (span : Span) (steps : List Step) (mode : Mode) (cut : Bool) → opened ≡ with_layer t proto span [] → opened.buffers ≡ t.buffers →
    read ≡ with_items opened (items_read opened.buffers span steps) → read.buffers ≡ opened.buffers → reach span.len steps ≡ All →
    read ≡ layer_read t proto span steps mode cut
layer_known t opened read proto span steps mode cut o ob i ib known =
    layer_by_parts t opened read read proto span steps mode cut All o ob i ib (sym known) refl

pub passed_known : (t opened : TreeShown) (proto : ℕ) (span : Span) (steps : List Step) (mode : Mode) (cut : Bool) →
    ((f : ℕ) → (row_of f).proto ≡ proto → is_in t.wanted f ≡ false) → opened ≡ with_layer t proto span [] → opened.buffers ≡ t.buffers → StepsFit proto steps → reach span.len steps ≡ All →
    opened ≡ layer_read t proto span steps mode cut
passed_known t opened proto span steps mode cut none o ob fit known =
    passed t opened opened proto span steps mode cut All none o ob refl fit (sym known)
