-- Lists that are gone through: one more value is done.
use Rattle.std.proofs.Common.{◌≡◌, ◌+◌, ◌<◌, ◌&&◌, ◌||◌, ℕ, Bool, true, false, List, [], ◌∷◌, ◌++◌, Option, Some, None, length, get_or, drop, map, append_assoc, option_to_list, ap, sym, refl, ◌∙◌}
use Rattle.std.proofs.lemmas.List.{drop_more}
use Rattle.std.specs.List.{cons_option, filter_map, list_all, list_any}
use Rattle.flt_lists.specs.Keys.{KeyShown, further, furthest, key_cmp, key_of, key_shown, keys_of}
use Rattle.flt_lists.specs.declared.keys.Key.{Key}
use Rattle.flt_typed.specs.declared.arithmetic.Extreme.{Extreme}
use Rattle.pk_base.specs.declared.value.Value.{Value}

one_more : {A : Type 0} (o : Option A) (ys : List A) → option_to_list o ++ ys ≡ cons_option o ys
one_more None ys = refl
one_more (Some y) ys = refl

pub more_filtered : {A B : Type 0} (f : A → Option B) (xs : List A) (i : ℕ) (x : A) (old new all : List B) → i < length xs → x ≡ get_or xs i x → new ≡ old ++ option_to_list (f x)
    → old ++ filter_map f (drop i xs) ≡ all → new ++ filter_map f (drop (i + 1) xs) ≡ all
more_filtered f xs i x old new all inside is more so_far =
    let rest = filter_map f (drop (i + 1) xs) in
    ap (λ ys. ys ++ rest) more ∙ append_assoc old (option_to_list (f x)) rest ∙ ap (λ ys. old ++ ys) (one_more (f x) rest)
    ∙ ap (λ y. old ++ cons_option (f y) rest) is ∙ ap (λ ys. old ++ filter_map f ys) (sym (drop_more xs i x inside)) ∙ so_far

pub more_mapped : {A B : Type 0} (f : A → B) (xs : List A) (i : ℕ) (x : A) (old new all : List B) → i < length xs → x ≡ get_or xs i x → new ≡ old ++ f x ∷ []
    → old ++ map f (drop i xs) ≡ all → new ++ map f (drop (i + 1) xs) ≡ all
more_mapped f xs i x old new all inside is more so_far =
    let rest = map f (drop (i + 1) xs) in
    ap (λ ys. ys ++ rest) more ∙ append_assoc old (f x ∷ []) rest ∙ ap (λ y. old ++ f y ∷ rest) is ∙ ap (λ ys. old ++ map f ys) (sym (drop_more xs i x inside)) ∙ so_far

left_is : {A : Type 0} (xs : List A) (i : ℕ) (x : A) → i < length xs → x ≡ get_or xs i x → drop i xs ≡ x ∷ drop (i + 1) xs
left_is xs i x inside is = drop_more xs i x inside ∙ ap (λ y. y ∷ drop (i + 1) xs) (sym is)

-- a test that one more value fails, or passes
pub more_failed : {A : Type 0} (test : A → Bool) (xs : List A) (i : ℕ) (x : A) (all : Bool) → i < length xs → x ≡ get_or xs i x → test x ≡ false
    → list_any test (drop i xs) ≡ all → list_any test (drop (i + 1) xs) ≡ all
more_failed test xs i x all inside is fails so_far =
    ap (λ t. t || list_any test (drop (i + 1) xs)) (sym fails) ∙ ap (list_any test) (sym (left_is xs i x inside is)) ∙ so_far

pub more_passed : {A : Type 0} (test : A → Bool) (xs : List A) (i : ℕ) (x : A) (all : Bool) → i < length xs → x ≡ get_or xs i x → test x ≡ true
    → list_all test (drop i xs) ≡ all → list_all test (drop (i + 1) xs) ≡ all
more_passed test xs i x all inside is passes so_far =
    ap (λ t. t && list_all test (drop (i + 1) xs)) (sym passes) ∙ ap (list_all test) (sym (left_is xs i x inside is)) ∙ so_far

-- keys: one more, and the end of one more
pushed_keys : (old : List Key) (k : Key) → map (λ x. key_shown x) (old ++ k ∷ []) ≡ map (λ x. key_shown x) old ++ key_shown k ∷ []
pushed_keys [] k = refl
pushed_keys (x ∷ old) k = ap (λ ks. key_shown x ∷ ks) (pushed_keys old k)

pub more_keys : (prefix : Option ℕ) (vs : List Value) (i : ℕ) (v : Value) (old new : List Key) (k : Key) (all : List KeyShown) → i < length vs → v ≡ get_or vs i v
    → key_shown k ≡ key_of prefix v → new ≡ old ++ k ∷ [] → map (λ x. key_shown x) old ++ keys_of prefix (drop i vs) ≡ all
    → map (λ x. key_shown x) new ++ keys_of prefix (drop (i + 1) vs) ≡ all
more_keys prefix vs i v old new k all inside is shown more so_far =
    more_mapped (λ w. key_of prefix w) vs i v (map (λ x. key_shown x) old) (map (λ x. key_shown x) new) all inside is
    (ap (map (λ x. key_shown x)) more ∙ pushed_keys old k ∙ ap (λ s. map (λ x. key_shown x) old ++ s ∷ []) shown) so_far

pub more_ended : (extreme : Extreme) (prefix : Option ℕ) (vs : List Value) (i : ℕ) (v : Value) (k l new all : KeyShown) → i < length vs → v ≡ get_or vs i v
    → l ≡ key_of prefix v → new ≡ further key_cmp extreme k l → furthest key_cmp extreme k (keys_of prefix (drop i vs)) ≡ all
    → furthest key_cmp extreme new (keys_of prefix (drop (i + 1) vs)) ≡ all
more_ended extreme prefix vs i v k l new all inside is shown next so_far =
    ap (λ x. furthest key_cmp extreme x (keys_of prefix (drop (i + 1) vs))) (next ∙ ap (further key_cmp extreme k) shown)
    ∙ ap (λ ws. furthest key_cmp extreme k (keys_of prefix ws)) (sym (left_is vs i v inside is)) ∙ so_far
