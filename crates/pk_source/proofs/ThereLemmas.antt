-- Whether there is a value, asked one by one.
use Rattle.std.proofs.Common.{◌≡◌, ◌==◌, ◌+◌, ◌<◌, ◌||◌, ℕ, Bool as Truth, true, false, List, [], ◌∷◌, ◌++◌, length, get_or, drop, ap, sym, refl, ◌∙◌}
use Rattle.std.proofs.lemmas.List.{drop_more}
use Rattle.std.specs.List.{flat_map}
use Rattle.pk_base.specs.declared.value.Value.{Value}
use Rattle.pk_source.specs.Found.{is_there}
use Rattle.pk_tree.specs.FieldValues.{item_values}
use Rattle.pk_tree.specs.declared.item.Item.{Item}

there-both : (xs ys : List Value) → is_there (xs ++ ys) ≡ (is_there xs || is_there ys)
there-both [] ys = refl
there-both (x ∷ xs) ys = refl

left_is : {A : Type 0} (xs : List A) (i : ℕ) (x : A) → i < length xs → x ≡ get_or xs i x → drop i xs ≡ x ∷ drop (i + 1) xs
left_is xs i x inside is = drop_more xs i x inside ∙ ap (λ y. y ∷ drop (i + 1) xs) (sym is)

next_is : {A : Type 0} (f : A → List Value) (xs : List A) (i : ℕ) (x : A) (test : Truth) → i < length xs → x ≡ get_or xs i x → is_there (f x) ≡ test →
    is_there (flat_map f (drop i xs)) ≡ (test || is_there (flat_map f (drop (i + 1) xs)))
next_is f xs i x test inside is first =
    ap (λ ys. is_there (flat_map f ys)) (left_is xs i x inside is) ∙ there-both (f x) (flat_map f (drop (i + 1) xs)) ∙ ap (λ t. t || is_there (flat_map f (drop (i + 1) xs))) first

pub more_absent : {A : Type 0} (f : A → List Value) (xs : List A) (i : ℕ) (x : A) (all : Truth) → i < length xs → x ≡ get_or xs i x → is_there (f x) ≡ false →
    is_there (flat_map f (drop i xs)) ≡ all → is_there (flat_map f (drop (i + 1) xs)) ≡ all
more_absent f xs i x all inside is none so_far = sym (next_is f xs i x false inside is none) ∙ so_far

pub more_there : {A : Type 0} (f : A → List Value) (xs : List A) (i : ℕ) (x : A) (all : Truth) → i < length xs → x ≡ get_or xs i x → is_there (f x) ≡ true →
    is_there (flat_map f (drop i xs)) ≡ all → true ≡ all
more_there f xs i x all inside is some so_far = sym (next_is f xs i x true inside is some) ∙ so_far

next_item : (field : ℕ) (items : List Item) (i : ℕ) (x : Item) (test : Truth) → i < length items → x ≡ get_or items i x → (x.field == field) ≡ test →
    is_there (item_values field (drop i items)) ≡ (test || is_there (item_values field (drop (i + 1) items)))
next_item field items i x true inside is own = rw (left_is items i x inside is, own) refl
next_item field items i x false inside is other = rw (left_is items i x inside is, other) refl

pub other_item : (field : ℕ) (items : List Item) (i : ℕ) (x : Item) (all : Truth) → i < length items → x ≡ get_or items i x → (x.field == field) ≡ false →
    is_there (item_values field (drop i items)) ≡ all → is_there (item_values field (drop (i + 1) items)) ≡ all
other_item field items i x all inside is other so_far = sym (next_item field items i x false inside is other) ∙ so_far

pub own_item : (field : ℕ) (items : List Item) (i : ℕ) (x : Item) (all : Truth) → i < length items → x ≡ get_or items i x → (x.field == field) ≡ true →
    is_there (item_values field (drop i items)) ≡ all → true ≡ all
own_item field items i x all inside is own so_far = sym (next_item field items i x true inside is own) ∙ so_far
