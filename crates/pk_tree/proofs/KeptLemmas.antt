-- The items of the wanted fields.
use Rattle.std.proofs.Common.{◌≡◌, ◌==◌, ℕ, Bool, true, false, ◌&&◌, cond, List, [], ◌∷◌, ◌++◌, refl, ◌∙◌, append-nil}
use Rattle.std.specs.List.{AllByRecursion as Each}
use Rattle.std.specs.Option.{is_none}
use Rattle.std.proofs.lemmas.Bool.{and_parts, eqb-true}
use Rattle.std.proofs.lemmas.List.Elements.{filter-append}
use Rattle.pk_base.specs.declared.span.Span.{Span}
use Rattle.pk_fields.specs.Fields.{row_of}
use Rattle.pk_fields.specs.FieldSets.{is_in}
use Rattle.pk_base.specs.declared.heads.Mode.{Mode}
use Rattle.pk_tree.specs.declared.item.Item.{Item}
use Rattle.pk_tree.specs.declared.layout.Reach.{Reach}
use Rattle.pk_tree.specs.declared.layout.Reach.TheVariants.{All, Short, Failed}
use Rattle.pk_tree.specs.declared.layout.Step.{Step}
use Rattle.pk_tree.specs.declared.layout.Step.TheVariants as steps
use Rattle.pk_tree.specs.Layouts.{belongs, within, StepFits, StepsFit, step_items, step_reach, items_after, items_read, reach, reaches_end, fault_of, with_fault, layer_read}
use Rattle.pk_tree.specs.Trees.{TreeShown, with_layer, kept, read_of, derived_of, made_of}
use Rattle.pk_tree.specs.Values.{is_read, size_of}

pub kept-append : (wanted : List ℕ) (xs ys : List Item) → kept wanted (xs ++ ys) ≡ kept wanted xs ++ kept wanted ys
unfolding kept
kept-append wanted xs ys = filter-append (λ (item : Item). is_in wanted item.field) xs ys

pub kept-push : (wanted : List ℕ) (items : List Item) (item : Item) → kept wanted (items ++ item ∷ []) ≡ cond (is_in wanted item.field) (kept wanted items ++ item ∷ []) (kept wanted items)
unfolding kept
kept-push wanted items item = kept-append wanted items (item ∷ []) ∙ by_test (is_in wanted item.field) refl
  where
    by_test : (test : Bool) → is_in wanted item.field ≡ test → kept wanted items ++ kept wanted (item ∷ []) ≡ cond (is_in wanted item.field) (kept wanted items ++ item ∷ []) (kept wanted items)
    by_test true is = rw is refl
    by_test false is = rw (is, append-nil) refl

first_of_three : (a b c : Bool) → (a && b && c) ≡ true → a ≡ true
first_of_three a b c all = (and_parts a b (and_parts (a && b) c all).0).0

-- an item of a field that isn't wanted
kept-none : (wanted : List ℕ) (item : Item) (items : List Item) → is_in wanted item.field ≡ false → kept wanted (item ∷ items) ≡ kept wanted items
unfolding kept
kept-none wanted item items none = rw none refl

-- a step of a field that isn't wanted
abbrev pub Unasked : List ℕ → Step → Type 0
Unasked wanted (steps.Row field at) = is_in wanted field ≡ false
Unasked wanted (steps.Part field at len) = is_in wanted field ≡ false
Unasked wanted (steps.Whole field at len) = is_in wanted field ≡ false
Unasked wanted (steps.Derived field value at len) = is_in wanted field ≡ false
Unasked wanted (steps.Made field value) = is_in wanted field ≡ false
Unasked wanted (steps.Check holds) = Unit {0}
Unasked wanted (steps.Room room) = Unit {0}

-- of such steps no item is kept
module _ (wanted : List ℕ) (buffers : List (List ℕ)) (span : Span) where
  some_or_none : (test : Bool) (item : Item) → is_in wanted item.field ≡ false → kept wanted (cond test [] (item ∷ [])) ≡ []
  unfolding kept
  some_or_none true item none = refl
  some_or_none false item none = kept-none wanted item [] none

  of_step : (step : Step) → Unasked wanted step → kept wanted (step_items buffers span step) ≡ []
  unfolding step_items kept
  of_step (steps.Row field at) none = kept-none wanted (read_of buffers field (within span at (size_of field))) [] none
  of_step (steps.Part field at len) none = some_or_none (len == 0) (read_of buffers field (within span at len)) none
  of_step (steps.Whole field at len) none = kept-none wanted (read_of buffers field (within span at len)) [] none
  of_step (steps.Derived field value at len) none = kept-none wanted (derived_of field value (within span at len)) [] none
  of_step (steps.Made field value) none = kept-none wanted (made_of field value) [] none
  of_step (steps.Check holds) none = refl
  of_step (steps.Room room) none = refl

  pub after : (r : Reach) (items : List Item) → kept wanted items ≡ [] → kept wanted (items_after r items) ≡ []
  unfolding kept
  after All items is = is
  after Short items is = refl
  after Failed items is = refl

  pub none_asked : (steps : List Step) → Each (Unasked wanted) steps → kept wanted (items_read buffers span steps) ≡ []
  unfolding items_read kept
  none_asked [] none = refl
  none_asked (step ∷ rest) none =
      after (step_reach span.len step) (step_items buffers span step ++ items_read buffers span rest) (kept-append wanted (step_items buffers span step) (items_read buffers span rest) ∙ rw (of_step step none.0, none_asked rest none.1) refl)

-- of a protocol none of whose fields is wanted, no step is
module _ (wanted : List ℕ) (proto : ℕ) (none : (f : ℕ) → (row_of f).proto ≡ proto → is_in wanted f ≡ false) where
  own : (field : ℕ) → belongs proto field ≡ true → is_in wanted field ≡ false
  own field is = none field (eqb-true (row_of field).proto proto is)

  unasked_step : (step : Step) → StepFits proto step → Unasked wanted step
  unasked_step (steps.Row field at) fits = own field (and_parts (belongs proto field) (is_read (row_of field)) fits).0
  unasked_step (steps.Part field at len) fits = own field (first_of_three (belongs proto field) (is_read (row_of field)) (is_none (row_of field).bits) fits)
  unasked_step (steps.Whole field at len) fits = own field (first_of_three (belongs proto field) (is_read (row_of field)) (is_none (row_of field).bits) fits)
  unasked_step (steps.Derived field value at len) fits = own field fits.0
  unasked_step (steps.Made field value) fits = own field fits.0
  unasked_step (steps.Check holds) fits = tt
  unasked_step (steps.Room room) fits = tt

  unasked_steps : (steps : List Step) → Each (StepFits proto) steps → Each (Unasked wanted) steps
  unasked_steps [] fit = tt
  unasked_steps (step ∷ rest) fit = (unasked_step step fit.0, unasked_steps rest fit.1)

-- a layer that is passed
pub passed : (t opened closed : TreeShown) (proto : ℕ) (span : Span) (steps : List Step) (mode : Mode) (cut : Bool) (r : Reach) →
    ((f : ℕ) → (row_of f).proto ≡ proto → is_in t.wanted f ≡ false) → opened ≡ with_layer t proto span [] → opened.buffers ≡ t.buffers →
    closed ≡ with_fault opened span (fault_of mode (cut && reaches_end opened.buffers span) r) → StepsFit proto steps → r ≡ reach span.len steps →
    closed ≡ layer_read t proto span steps mode cut
unfolding layer_read with_layer StepsFit kept
passed t opened closed proto span steps mode cut r none open' same close fit why =
    let items : kept t.wanted (items_read t.buffers span steps) ≡ [] = none_asked t.wanted t.buffers span steps (unasked_steps t.wanted proto none steps fit) in
    rw (close, same, open', why, items) refl
