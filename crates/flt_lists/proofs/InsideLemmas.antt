-- Whether values have texts in them, by the keys of these.
use Rattle.std.proofs.Common.{◌≡◌, ℕ, ◌+◌, ◌-◌, ◌<◌, ◌≤◌, Bool as Truth, true, false, List, [], ◌∷◌, Option, Some, None, length, take, get_or, refl, sym, ap, ◌∙◌, arith}
use Rattle.std.specs.Prelude.{◌&&◌, ◌||◌, not, is_some}
use Rattle.std.specs.List.{cons_option, list_all, list_any}
use Rattle.std.specs.Option.{option_map_or}
use Rattle.std.proofs.lemmas.Bool.{and_parts, both_ways}
use Rattle.std.proofs.lemmas.List.{get_or-take, length-take, take_all, take_more}
use Rattle.std.proofs.lemmas.List.Folds.{list_all-append, list_all_at, list_any_at}
use Rattle.flt_lists.specs.Keys.{key_shown}
use Rattle.flt_lists.specs.Needles.{AreNeedles, has_text, texts_of}
use Rattle.flt_lists.specs.declared.keys.Key.{Key}
use Rattle.flt_lists.specs.Passes.{compares, is_some_value, passes}
use Rattle.flt_syntax.specs.declared.ast.Choice.TheVariants.{Any, All}
use Rattle.flt_typed.specs.Contains.{contains}
use Rattle.flt_typed.specs.Relations.{both, has_inside, octets_of, related}
use Rattle.flt_typed.specs.declared.relation.Relation.TheVariants.{Contains}
use Rattle.pk_base.specs.declared.value.Value.{Value}

any_same : {A : Type 0} (p q : A → Truth) → ((x : A) → p x ≡ q x) → (xs : List A) → list_any p xs ≡ list_any q xs
any_same p q each [] = refl
any_same p q each (x ∷ xs) = ap (λ t. t || list_any p xs) (each x) ∙ ap (λ t. q x || t) (any_same p q each xs)

all_same : {A : Type 0} (p q : A → Truth) → ((x : A) → p x ≡ q x) → (xs : List A) → list_all p xs ≡ list_all q xs
all_same p q each [] = refl
all_same p q each (x ∷ xs) = ap (λ t. t && list_all p xs) (each x) ∙ ap (λ t. q x && t) (all_same p q each xs)

no_any : {A : Type 0} (xs : List A) → list_any (λ x. false) xs ≡ false
no_any [] = refl
no_any (x ∷ xs) = no_any xs

-- any right value
one_inside : (bytes : List ℕ) (o : Option (List ℕ)) (rest : Truth) (texts : List (List ℕ)) → rest ≡ list_any (λ t. contains bytes t) texts
    → (option_map_or (λ truth. truth) (both contains (Some bytes) o) false || rest) ≡ list_any (λ t. contains bytes t) (cons_option o texts)
one_inside bytes None rest texts e = e
one_inside bytes (Some t) rest texts e = ap (λ b. contains bytes t || b) e

any_inside : (o : Option (List ℕ)) (ws : List Value)
    → list_any (λ w. option_map_or (λ truth. truth) (both contains o (octets_of w)) false) ws ≡ list_any (λ t. option_map_or (λ bytes. contains bytes t) o false) (texts_of ws)
any_inside None ws = no_any ws ∙ sym (no_any (texts_of ws))
any_inside (Some bytes) [] = refl
any_inside (Some bytes) (w ∷ ws) = one_inside bytes (octets_of w) _ (texts_of ws) (any_inside (Some bytes) ws)

pub any_are : (vs ws : List Value) (p : Option ℕ) → list_any (λ v. list_any (λ t. has_text v t) (texts_of ws)) vs ≡ compares Contains Any vs ws p
unfolding related
any_are vs ws p = any_same _ _ (λ v. sym (any_inside (octets_of v) ws)) vs

-- all right values
one_all_inside : (bytes : List ℕ) (o : Option (List ℕ)) (rest : Truth) (texts : List (List ℕ)) → is_some o ≡ true → rest ≡ list_all (λ t. contains bytes t) texts
    → (option_map_or (λ truth. truth) (both contains (Some bytes) o) false && rest) ≡ list_all (λ t. contains bytes t) (cons_option o texts)
one_all_inside bytes None rest texts some e = absurd (both_ways _ refl some)
one_all_inside bytes (Some t) rest texts some e = ap (λ b. contains bytes t && b) e

all_inside_some : (bytes : List ℕ) (ws : List Value) → list_all (λ w. is_some (octets_of w)) ws ≡ true
    → list_all (λ w. option_map_or (λ truth. truth) (both contains (Some bytes) (octets_of w)) false) ws ≡ list_all (λ t. contains bytes t) (texts_of ws)
all_inside_some bytes [] some = refl
all_inside_some bytes (w ∷ ws) some =
    let parts = and_parts _ _ some in
    one_all_inside bytes (octets_of w) _ (texts_of ws) parts.0 (all_inside_some bytes ws parts.1)

first_text : (o : Option (List ℕ)) (texts : List (List ℕ)) → is_some o ≡ true → list_all (λ t. false) (cons_option o texts) ≡ false
first_text None texts some = absurd (both_ways _ refl some)
first_text (Some t) texts some = refl

all_inside : (o : Option (List ℕ)) (ws : List Value) → 0 < length ws → list_all (λ w. is_some (octets_of w)) ws ≡ true
    → list_all (λ w. option_map_or (λ truth. truth) (both contains o (octets_of w)) false) ws ≡ list_all (λ t. option_map_or (λ bytes. contains bytes t) o false) (texts_of ws)
all_inside None [] few some = absurd (omega (arith, few))
all_inside None (w ∷ ws) few some = sym (first_text (octets_of w) (texts_of ws) (and_parts _ _ some).0)
all_inside (Some bytes) ws few some = all_inside_some bytes ws some

-- all of all, in either order
and_all : {A : Type 0} (p q : A → Truth) (xs : List A) → (list_all p xs && list_all q xs) ≡ list_all (λ x. p x && q x) xs
and_all p q [] = refl
and_all p q (x ∷ xs) = and_four (p x) (list_all p xs) (q x) (list_all q xs) ∙ ap (λ b. (p x && q x) && b) (and_all p q xs)
  where
    and_four : (a b c d : Truth) → ((a && b) && (c && d)) ≡ ((a && c) && (b && d))
    and_four true true c d = refl
    and_four true false true d = refl
    and_four true false false d = refl
    and_four false b c d = refl

every : {A : Type 0} (xs : List A) → list_all (λ x. true) xs ≡ true
every [] = refl
every (x ∷ xs) = every xs

exchanged : {A B : Type 0} (p : A → B → Truth) (xs : List A) (ys : List B) → list_all (λ x. list_all (λ y. p x y) ys) xs ≡ list_all (λ y. list_all (λ x. p x y) xs) ys
exchanged p [] ys = sym (every ys)
exchanged p (x ∷ xs) ys = ap (λ b. list_all (λ y. p x y) ys && b) (exchanged p xs ys) ∙ and_all (λ y. p x y) (λ y. list_all (λ z. p z y) xs) ys

all_filled : (vs ws : List Value) (test : Value → Value → Truth) → 0 < length ws
    → list_all (λ v. passes All (λ w. test v w) ws) vs ≡ list_all (λ v. list_all (λ w. test v w) ws) vs
all_filled vs [] test few = absurd (omega (arith, few))
all_filled vs (w ∷ ws) test few = refl

filled : (vs : List Value) (t : Truth) → 0 < length vs → (is_some_value vs && t) ≡ t
filled [] t few = absurd (omega (arith, few))
filled (v ∷ vs) t few = refl

pub all_are : (vs ws : List Value) (p : Option ℕ) → 0 < length vs → 0 < length ws → list_all (λ w. is_some (octets_of w)) ws ≡ true
    → list_all (λ t. list_all (λ v. has_text v t) vs) (texts_of ws) ≡ compares Contains All vs ws p
unfolding related
all_are vs ws p left right some =
    sym (exchanged has_text vs (texts_of ws))
    ∙ (all_same _ _ (λ v. sym (all_inside (octets_of v) ws right some)) vs
    ∙ (sym (all_filled vs ws has_inside right) ∙ sym (filled vs _ left)))

-- a right value without bytes
no_inside : (o : Option (List ℕ)) (ws : List Value) → list_all (λ w. is_some (octets_of w)) ws ≡ false
    → list_all (λ w. option_map_or (λ truth. truth) (both contains o (octets_of w)) false) ws ≡ false
no_inside o [] none = absurd (both_ways _ none refl)
no_inside o (w ∷ ws) none = first_none o (octets_of w) _ _ none (no_inside o ws)
  where
    first_none : (o q : Option (List ℕ)) (rest test : Truth) → (is_some q && rest) ≡ false → (rest ≡ false → test ≡ false)
        → (option_map_or (λ truth. truth) (both contains o q) false && test) ≡ false
    first_none None q rest test e later = refl
    first_none (Some bytes) None rest test e later = refl
    first_none (Some bytes) (Some t) rest test e later = ap (λ b. contains bytes t && b) (later e) ∙ none_behind (contains bytes t)
      where
        none_behind : (b : Truth) → (b && false) ≡ false
        none_behind true = refl
        none_behind false = refl

pub none_are : (vs ws : List Value) (p : Option ℕ) → 0 < length vs → 0 < length ws → list_all (λ w. is_some (octets_of w)) ws ≡ false
    → false ≡ compares Contains All vs ws p
unfolding related
none_are [] ws p left right none = absurd (omega (arith, left))
none_are (v ∷ vs) ws p left right none =
    sym (ap (λ b. b && list_all (λ u. list_all (λ w. has_inside u w) ws) vs) (no_inside (octets_of v) ws none))
    ∙ (sym (all_filled (v ∷ vs) ws has_inside right) ∙ sym (filled (v ∷ vs) _ left))

-- loops over values and keys
pub some_has : (v : Value) (bytes : List ℕ) (texts : List (List ℕ)) → Some bytes ≡ octets_of v → list_any (λ t. contains bytes t) texts ≡ list_any (λ t. has_text v t) texts
some_has v bytes texts is = ap (λ o. list_any (λ t. option_map_or (λ b. contains b t) o false) texts) is

pub none_has : (v : Value) (texts : List (List ℕ)) → None ≡ octets_of v → false ≡ list_any (λ t. has_text v t) texts
none_has v texts is = sym (no_any texts) ∙ ap (λ o. list_any (λ t. option_map_or (λ b. contains b t) o false) texts) is

pub found_among : {A : Type 0} (p : A → Truth) (xs : List A) (i : ℕ) (x : A) → i < length xs → x ≡ get_or xs i x → p x ≡ true → true ≡ list_any p xs
found_among p xs i x inside is e = sym (list_any_at p xs i x inside (ap p (sym is) ∙ e))

all_none : {A : Type 0} (p : A → Truth) (xs : List A) → list_all p xs ≡ not (list_any (λ x. not (p x)) xs)
all_none p [] = refl
all_none p (x ∷ xs) = ap (λ b. p x && b) (all_none p xs) ∙ one_none (p x) _
  where
    one_none : (a b : Truth) → (a && not b) ≡ not (not a || b)
    one_none true b = refl
    one_none false b = refl

pub all_keys : (values : List Value) (texts : List (List ℕ)) (keys : List Key) → AreNeedles texts keys
    → list_all (λ k. list_all (λ v. has_text v (key_shown k).octets) values) keys ≡ list_all (λ t. list_all (λ v. has_text v t) values) texts
all_keys values texts keys needles =
    all_none _ keys
    ∙ (ap not (needles.same (λ k. not (list_all (λ v. has_text v k.octets) values)))
    ∙ sym (all_none (λ t. list_all (λ v. has_text v t) values) texts))

pub more_stand : (values : List Value) (keys : List Key) (i : ℕ) (d : Key) → i < length keys → list_all (λ k. list_all (λ v. has_text v (key_shown k).octets) values) (take i keys) ≡ true
    → list_all (λ v. has_text v (get_or keys i d).octets.now) values ≡ true → list_all (λ k. list_all (λ v. has_text v (key_shown k).octets) values) (take (i + 1) keys) ≡ true
more_stand values keys i d inside before stands =
    ap (list_all (λ k. list_all (λ v. has_text v (key_shown k).octets) values)) (take_more keys i d inside)
    ∙ (list_all-append (λ k. list_all (λ v. has_text v (key_shown k).octets) values) (take i keys) (get_or keys i d ∷ [])
    ∙ (ap (λ b. b && (list_all (λ v. has_text v (get_or keys i d).octets.now) values && true)) before ∙ ap (λ b. b && true) stands))

pub not_all_stand : (values : List Value) (texts : List (List ℕ)) (keys : List Key) (i : ℕ) (d : Key) → AreNeedles texts keys → i < length keys
    → list_all (λ v. has_text v (get_or keys i d).octets.now) values ≡ false → false ≡ list_all (λ t. list_all (λ v. has_text v t) values) texts
not_all_stand values texts keys i d needles inside fails =
    sym (list_all_at (λ k. list_all (λ v. has_text v (key_shown k).octets) values) keys i d inside fails) ∙ all_keys values texts keys needles

pub all_stood : (values : List Value) (texts : List (List ℕ)) (keys : List Key) (i : ℕ) → AreNeedles texts keys → length keys ≤ i
    → list_all (λ k. list_all (λ v. has_text v (key_shown k).octets) values) (take i keys) ≡ true → true ≡ list_all (λ t. list_all (λ v. has_text v t) values) texts
all_stood values texts keys i needles over before =
    sym (ap (list_all (λ k. list_all (λ v. has_text v (key_shown k).octets) values)) (sym (take_all i keys over)) ∙ before) ∙ all_keys values texts keys needles

-- a key that stood before
pub stood_before : (values : List Value) (keys : List Key) (i : ℕ) (d e : Key) → 0 < i → i < length keys → list_all (λ k. list_all (λ v. has_text v (key_shown k).octets) values) (take i keys) ≡ true
    → (get_or keys (i - 1) d).octets.now ≡ (get_or keys i e).octets.now → list_all (λ v. has_text v (get_or keys i e).octets.now) values ≡ true
stood_before values keys i d e some inside before same =
    ap (λ text. list_all (λ v. has_text v text) values) (sym same)
    ∙ (ap (λ (k : Key). list_all (λ v. has_text v k.octets.now) values) (sym (get_or-take i keys (i - 1) d (omega (arith, some))))
    ∙ all_at (λ k. list_all (λ v. has_text v (key_shown k).octets) values) (take i keys) (i - 1) d (omega (arith, some, inside, length-take i keys)) before)
  where
    all_at : {A : Type 0} (p : A → Truth) (xs : List A) (i : ℕ) (d : A) → i < length xs → list_all p xs ≡ true → p (get_or xs i d) ≡ true
    all_at p xs i d inside all = not_other (p (get_or xs i d)) (λ fails. both_ways _ (list_all_at p xs i d inside fails) all)
      where
        not_other : (t : Truth) → (t ≡ false → ⊥) → t ≡ true
        not_other true never = refl
        not_other false never = absurd (never refl)
