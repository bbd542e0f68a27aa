-- What a walk over a tree adds to the columns of fields.
use Rattle.std.proofs.Common.{◌≡◌, ◌≢◌, ◌==◌, ◌<◌, ◌+◌, ℕ, suc, Bool, true, false, cond, List, [], ◌∷◌, ◌++◌, length, take, get_or, set, map, Option, Some, None, refl, sym, ap, ◌∙◌, subst, inl, inr, append-nil, append_assoc, add-one, arith}
use Rattle.std.specs.Option.{IsSome}
use Rattle.std.specs.List.{All, AllByRecursion as Each, flat_map, join_by}
use Rattle.std.proofs.Math.Seq.{take-suc}
use Rattle.std.proofs.lemmas.Bool.{false≢true, ne_eqb, eq-eqb}
use Rattle.std.proofs.lemmas.Bool.Decides.{eqb_tells}
use Rattle.std.proofs.lemmas.List.{map-append, get_or_read, get_or-set_same, get_or-set_other, length-set}
use Rattle.std.proofs.lemmas.List.Elements.{filter-append}
use Rattle.std.proofs.lemmas.List.Sums.{fold-append}
use Rattle.pk_tree.specs.Buffers.{bytes_of}
use Rattle.pk_fields.specs.Fields.{row_of}
use Rattle.pk_tree.specs.declared.item.Item.{Item}
use Rattle.pk_tree.specs.declared.layer.Layer.{Layer}
use Rattle.pk_base.specs.declared.value.Value.{Value}
use Rattle.pk_base.specs.declared.value.Value.TheVariants.{Proto}
use Rattle.pk_tree.specs.FieldValues.{item_values, layer_values, proto_values}
use Rattle.pk_tree.specs.Trees.{TreeShown}
use Rattle.pk_tree.specs.Values.{is_proto}
use Rattle.out_lines.specs.declared.style.Style.{Style}
use Rattle.out_lines.specs.Columns.{ColumnShown, no_column, column_at, with_text, with_value, with_values, written}
use Rattle.out_lines.specs.ValueText.{shown_value}
use Rattle.out_lines.specs.Lines.{column_text, field_line_of}
use Rattle.out_lines.specs.Places.{place_in, ArePlaces, ArePlanned, AreWritten, HasAdded, column_in, name_values, own_values}
use Rattle.out_lines.proofs.ColumnLemmas.{column_written}

-- no values for any column
pub added_none : (style : Style) (places : List (Option ℕ)) (columns : List ColumnShown) (values : ℕ → List Value) →
    ((f : ℕ) → IsSome (place_in places f) → values f ≡ []) → HasAdded style places columns columns values
added_none style places columns values none = record {
  count = refl;
  added = λ f there. ap (λ (vs : List Value). with_values style f (column_in columns places f) vs) (sym (none f there));
}

-- some, and then more
pub added_more : (style : Style) (places : List (Option ℕ)) (a b c : List ColumnShown) (first more both : ℕ → List Value) →
    HasAdded style places a b first → HasAdded style places b c more → ((f : ℕ) → first f ++ more f ≡ both f) → HasAdded style places a c both
added_more style places a b c first more both one other joined = record {
  count = other.count ∙ one.count;
  added = λ f there.
      other.added f there
      ∙ ap (λ column. with_values style f column (more f)) (one.added f there)
      ∙ sym (fold-append (with_value style.occurrence style.aggregator f) (column_in a places f) (first f) (more f))
      ∙ ap (with_values style f (column_in a places f)) (joined f);
}

some_place : (o : Option ℕ) → IsSome o → (P : Option ℕ → Type 0) → ((place : ℕ) → o ≡ Some place → P (Some place)) → P o
some_place None there P for_some = absurd (false≢true there)
some_place (Some place) there P for_some = for_some place refl

-- one column gets all
pub added_one : (style : Style) (places : List (Option ℕ)) (columns : List ColumnShown) (field place : ℕ) (column : ColumnShown) (values : ℕ → List Value) →
    ArePlaces (length columns) places → place_in places field ≡ Some place → column ≡ with_values style field (column_in columns places field) (values field) →
    ((f : ℕ) → f ≢ field → values f ≡ []) → length (set columns place column) ≡ length columns → HasAdded style places columns (set columns place column) values
added_one style places columns field place column values are there is none count = record {
  count = count;
  added = λ f has. elim (eqb_tells f field) [
    | inl w ↦ subst (λ (g : ℕ). column_in (set columns place column) places g ≡ with_values style g (column_in columns places g) (values g)) (sym w.1) own
    | inr w ↦ other f has w.1
  ];
}
  where
    own : column_in (set columns place column) places field ≡ with_values style field (column_in columns places field) (values field)
    own = ap (column_at (set columns place column)) there ∙ get_or-set_same columns place column no_column (are.within field place there) ∙ is

    other : (f : ℕ) → IsSome (place_in places f) → f ≢ field → column_in (set columns place column) places f ≡ with_values style f (column_in columns places f) (values f)
    other f has apart =
        some_place (place_in places f) has (λ (o : Option ℕ). column_at (set columns place column) o ≡ column_at columns o)
        (λ q at. get_or-set_other columns place q column no_column (λ same. apart (are.apart f field place (at ∙ ap Some same) there)))
        ∙ ap (with_values style f (column_in columns places f)) (sym (none f apart))

-- values of items
item_values-append : (f : ℕ) (xs ys : List Item) → item_values f (xs ++ ys) ≡ item_values f xs ++ item_values f ys
item_values-append f xs ys =
    ap (map (λ (item : Item). item.value)) (filter-append (λ (item : Item). item.field == f) xs ys)
    ∙ map-append (λ (item : Item). item.value) _ _

none_or_both : (test : Bool) (xs ys zs : List Value) → zs ≡ xs ++ ys → cond test [] xs ++ cond test [] ys ≡ cond test [] zs
none_or_both true xs ys zs is = refl
none_or_both false xs ys zs is = sym is

pub own_values-append : (f : ℕ) (xs ys : List Item) → own_values f xs ++ own_values f ys ≡ own_values f (xs ++ ys)
own_values-append f xs ys = none_or_both (is_proto (row_of f).kind) (item_values f xs) (item_values f ys) (item_values f (xs ++ ys)) (item_values-append f xs ys)

pub own_values-more : (f : ℕ) (items : List Item) (i : ℕ) (item : Item) → i < length items → item ≡ get_or items i item →
    own_values f (take i items) ++ own_values f (item ∷ []) ≡ own_values f (take (i + 1) items)
own_values-more f items i item inside at =
    own_values-append f (take i items) (item ∷ [])
    ∙ ap (λ (x : Item). own_values f (take i items ++ x ∷ [])) at
    ∙ ap (own_values f) (sym (take-suc items i item inside))
    ∙ ap (λ (n : ℕ). own_values f (take n items)) (sym (add-one i))

either : (test : Bool) (xs : List Value) → xs ≡ [] → cond test [] xs ≡ []
either true xs none = refl
either false xs none = none

pub own_values-other : (f : ℕ) (item : Item) → f ≢ item.field → own_values f (item ∷ []) ≡ []
own_values-other f item apart =
    either (is_proto (row_of f).kind) (item_values f (item ∷ [])) (rw (ne_eqb item.field f (λ same. apart (sym same))) refl)

pub own_values-one : (item : Item) → is_proto (row_of item.field).kind ≡ false → own_values item.field (item ∷ []) ≡ item.value ∷ []
own_values-one item is = rw (is, eq-eqb item.field item.field refl) refl

pub own_values-proto : (f : ℕ) (item : Item) → is_proto (row_of item.field).kind ≡ true → own_values f (item ∷ []) ≡ []
own_values-proto f item is = elim (eqb_tells f item.field) [
  | inl w ↦ rw (ap (λ (g : ℕ). is_proto (row_of g).kind) w.1 ∙ is) refl
  | inr w ↦ own_values-other f item w.1
]

-- the value of a protocol
pub name_values-other : (protocol : ℕ) (bytes : List ℕ) (f : ℕ) → f ≢ protocol → name_values protocol bytes f ≡ []
name_values-other protocol bytes f apart = by_test (is_proto (row_of f).kind)
  where
    none : cond (protocol == f) (Proto bytes ∷ []) [] ≡ []
    none = rw (ne_eqb protocol f (λ same. apart (sym same))) refl

    by_test : (test : Bool) → cond test (cond (protocol == f) (Proto bytes ∷ []) []) [] ≡ []
    by_test true = none
    by_test false = refl

pub name_values-one : (protocol : ℕ) (bytes : List ℕ) → is_proto (row_of protocol).kind ≡ true → name_values protocol bytes protocol ≡ Proto bytes ∷ []
name_values-one protocol bytes is = rw (is, eq-eqb protocol protocol refl) refl

-- the column at a place
column_there : (columns : List ColumnShown) (places : List (Option ℕ)) (field place : ℕ) (column : ColumnShown) → ArePlaces (length columns) places →
    place_in places field ≡ Some place → column ≡ get_or columns place column → get_or columns place column ≡ column_in columns places field
column_there columns places field place column are there at =
    sym at ∙ get_or_read columns place column (are.within field place there) at no_column ∙ sym (ap (column_at columns) there)

pub name_added : (style : Style) (places : List (Option ℕ)) (columns : List ColumnShown) (protocol place : ℕ) (column new : ColumnShown) (text bytes : List ℕ) →
    ArePlaces (length columns) places → place_in places protocol ≡ Some place → column ≡ get_or columns place column → is_proto (row_of protocol).kind ≡ true →
    text ≡ (row_of protocol).name → new ≡ with_text style.occurrence style.aggregator (get_or columns place column) text →
    HasAdded style places columns (set columns place new) (name_values protocol bytes)
unfolding with_value shown_value
name_added style places columns protocol place column new text bytes are there at is named wrote =
    added_one style places columns protocol place new (name_values protocol bytes) are there
    (wrote ∙ ap (with_text style.occurrence style.aggregator (get_or columns place column)) named
    ∙ ap (λ (c : ColumnShown). with_value style.occurrence style.aggregator protocol c (Proto bytes)) (column_there columns places protocol place column are there at)
    ∙ ap (with_values style protocol (column_in columns places protocol)) (sym (name_values-one protocol bytes is)))
    (name_values-other protocol bytes) (length-set columns place new)

pub item_added : (style : Style) (places : List (Option ℕ)) (columns : List ColumnShown) (item : Item) (place : ℕ) (column new : ColumnShown) →
    ArePlaces (length columns) places → place_in places item.field ≡ Some place → column ≡ get_or columns place column → is_proto (row_of item.field).kind ≡ false →
    new ≡ with_value style.occurrence style.aggregator item.field (get_or columns place column) item.value →
    HasAdded style places columns (set columns place new) (λ f. own_values f (item ∷ []))
item_added style places columns item place column new are there at is wrote =
    added_one style places columns item.field place new (λ f. own_values f (item ∷ [])) are there
    (wrote
    ∙ ap (λ (c : ColumnShown). with_value style.occurrence style.aggregator item.field c item.value) (column_there columns places item.field place column are there at)
    ∙ ap (with_values style item.field (column_in columns places item.field)) (sym (own_values-one item is)))
    (λ f apart. own_values-other f item apart) (length-set columns place new)

-- the values of a layer
pub layer_values-split : (buffers : List (List ℕ)) (f : ℕ) (layer : Layer) →
    name_values layer.proto (bytes_of buffers layer.span) f ++ own_values f layer.items ≡ layer_values buffers f layer
unfolding layer_values
layer_values-split buffers f layer = by_test (is_proto (row_of f).kind)
  where
    by_test : (test : Bool) → cond test (proto_values buffers f layer) [] ++ cond test [] (item_values f layer.items) ≡ cond test (proto_values buffers f layer) (item_values f layer.items)
    by_test true = append-nil (proto_values buffers f layer)
    by_test false = refl

module _ (values : Layer → List Value) where
  flat_map-push : (layers : List Layer) (layer : Layer) → flat_map values (layers ++ layer ∷ []) ≡ flat_map values layers ++ values layer
  flat_map-push [] layer = append-nil (values layer)
  flat_map-push (first ∷ layers) layer = ap (λ (vs : List Value). values first ++ vs) (flat_map-push layers layer) ∙ sym (append_assoc (values first) (flat_map values layers) (values layer))

  pub flat_map-more : (layers : List Layer) (i : ℕ) (layer : Layer) → i < length layers → layer ≡ get_or layers i layer →
      flat_map values (take i layers) ++ values layer ≡ flat_map values (take (i + 1) layers)
  flat_map-more layers i layer inside at =
      sym (flat_map-push (take i layers) layer)
      ∙ ap (λ (x : Layer). flat_map values (take i layers ++ x ∷ [])) at
      ∙ ap (flat_map values) (sym (take-suc layers i layer inside))
      ∙ ap (λ (n : ℕ). flat_map values (take n layers)) (sym (add-one i))

-- all values of a tree were added to empty columns
pub all_written : (style : Style) (t : TreeShown) (places : List (Option ℕ)) (old new : List ColumnShown) → ((place : Option ℕ) → column_at old place ≡ no_column) →
    HasAdded style places old new (λ f. flat_map (layer_values t.buffers f) t.layers) → AreWritten style new places t
all_written style t places old new empty added = record { each = each }
  where
    each : (f : ℕ) → IsSome (place_in places f) → written style.quote (column_in new places f) ≡ column_text t style f
    each f there =
        ap (written style.quote) (added.added f there ∙ ap (λ (c : ColumnShown). with_values style f c (flat_map (layer_values t.buffers f) t.layers)) (empty (place_in places f)))
        ∙ column_written style t f

module _ (one other : ℕ → List ℕ) (separator : ℕ) where
  further_same : (fields : List ℕ) → Each (λ f. one f ≡ other f) fields →
      flat_map (λ (f : ℕ). separator ∷ one f) fields ≡ flat_map (λ (f : ℕ). separator ∷ other f) fields
  further_same [] same = refl
  further_same (f ∷ fields) same =
      ap (λ (column : List ℕ). separator ∷ (column ++ flat_map (λ (f : ℕ). separator ∷ one f) fields)) same.0
      ∙ ap (λ (rest : List ℕ). separator ∷ (other f ++ rest)) (further_same fields same.1)

  joined_same : (fields : List ℕ) → Each (λ f. one f ≡ other f) fields → join_by one (separator ∷ []) fields ≡ join_by other (separator ∷ []) fields
  joined_same [] same = refl
  joined_same (f ∷ fields) same =
      ap (λ (column : List ℕ). column ++ flat_map (λ (f : ℕ). separator ∷ one f) fields) same.0
      ∙ ap (λ (rest : List ℕ). other f ++ rest) (further_same fields same.1)

each_of_all : (P Q : ℕ → Type 0) → ((f : ℕ) → P f → Q f) → (fields : List ℕ) → All P fields → Each Q fields
each_of_all P Q so [] all = tt
each_of_all P Q so (f ∷ fields) all = (so f (all 0 0 (omega arith)), each_of_all P Q so fields (λ k d below. all (suc k) d (omega arith)))

pub line_written : (style : Style) (t : TreeShown) (fields : List ℕ) (count : ℕ) (places : List (Option ℕ)) (columns : List ColumnShown) → ArePlanned fields count places →
    AreWritten style columns places t → join_by (λ f. written style.quote (column_in columns places f)) (style.separator ∷ []) fields ++ 10 ∷ [] ≡ field_line_of fields t style
unfolding field_line_of
line_written style t fields count places columns planned are =
    ap (λ (line : List ℕ). line ++ 10 ∷ [])
    (joined_same (λ f. written style.quote (column_in columns places f)) (column_text t style) style.separator fields
    (each_of_all (λ f. IsSome (place_in places f)) (λ f. written style.quote (column_in columns places f) ≡ column_text t style f) are.each fields planned.all))
