-- Notes by their keys.
use Rattle.std.proofs.Common.{◌≡◌, ◌==◌, ◌&&◌, ◌||◌, ℕ, Bool, true, false, cond, nat_lt, List, [], ◌∷◌, ◌++◌, map, Option, Some, None, is_some, refl, sym, ap, ◌∙◌, true≢false, inl, inr}
use Rattle.std.proofs.lemmas.Bool.{eqb-true, eq-eqb, and_parts, cases_Bool}
use Rattle.std.proofs.lemmas.List.Folds.{list_any-append}
use Rattle.std.specs.declared.cmp.Ordering.{Ordering}
use Rattle.std.specs.declared.cmp.Ordering.TheVariants.{Less, Equal, Greater}
use Rattle.std.specs.BTreeMap as tree
use Rattle.std.specs.Ordering.{is_eq, is_lt, match_ordering, nat_cmp, ordering_then}
use Rattle.std.specs.Cmp.{unsigned_tied}
use Rattle.std.specs.List.{list_any}
use Rattle.std.specs.Map.{keys_of}
use Rattle.cap_stats.specs.Counts.{of_key}
use Rattle.cap_stats.specs.Keys.{place, in_turn, same_number, same_pair, pair_cmp}

-- what is kept under each key, after one more note
module _ {K F V : Type 0} (same : K → K → Bool) (equal : (k q : K) → same k q ≡ true → k ≡ q)
    (total : List F → Option V) (after : Option V → F → V)
    (grows : (f : F) (fs : List F) → total (f ∷ fs) ≡ Some (after (total fs) f)) where
  pub noted : (old new : K → Option V) (key : K) (f : F) (value : V) (notes : List (K × F))
      → ((q : K) → old q ≡ total (of_key same q notes))
      → value ≡ after (old key) f
      → ((q : K) → new q ≡ cond (same key q) (Some value) (old q))
      → (q : K) → new q ≡ total (of_key same q ((key, f) ∷ notes))
  noted old new key f value notes held is puts q = by (same key q) refl
    where
      by : (test : Bool) → same key q ≡ test → new q ≡ total (of_key same q ((key, f) ∷ notes))
      by true e =
          puts q ∙ ap (λ (b : Bool). cond b (Some value) (old q)) e
          ∙ ap (λ (v : V). Some v) is
          ∙ ap (λ (k : K). Some (after (old k) f)) (equal key q e)
          ∙ ap (λ (v : Option V). Some (after v f)) (held q)
          ∙ sym (grows f (of_key same q notes))
          ∙ ap (λ (b : Bool). total (cond b (f ∷ of_key same q notes) (of_key same q notes))) (sym e)
      by false e =
          puts q ∙ ap (λ (b : Bool). cond b (Some value) (old q)) e
          ∙ held q
          ∙ ap (λ (b : Bool). total (cond b (f ∷ of_key same q notes) (of_key same q notes))) (sym e)

pub numbers_equal : (k q : ℕ) → same_number k q ≡ true → k ≡ q
numbers_equal k q e = by (nat_lt k q) (k == q) refl refl
  where
    by : (less same : Bool) → nat_lt k q ≡ less → (k == q) ≡ same → k ≡ q
    by true same p s = absurd (true≢false (sym e ∙ ap (λ (b : Bool). is_eq (cond b Less (cond (k == q) Equal Greater))) p))
    by false true p s = eqb-true k q s
    by false false p s =
        absurd (true≢false (sym e ∙ ap (λ (b : Bool). is_eq (cond b Less (cond (k == q) Equal Greater))) p ∙ ap (λ (b : Bool). is_eq (cond b Equal Greater)) s))

or_true : (b : Bool) → (b || true) ≡ true
or_true true = refl
or_true false = refl

or_false : (b : Bool) → (b || false) ≡ b
or_false true = refl
or_false false = refl

pub pair_itself : (pair : ℕ × ℕ) → same_pair pair pair ≡ true
pair_itself pair = rw (eq-eqb pair.0 pair.0 refl, eq-eqb pair.1 pair.1 refl) refl

pub pairs_equal : (k q : ℕ × ℕ) → same_pair k q ≡ true → k ≡ q
pairs_equal k q e =
    let both = and_parts (k.0 == q.0) (k.1 == q.1) e in
    λ i. (eqb-true k.0 q.0 both.0 i, eqb-true k.1 q.1 both.1 i)

tied_then : (x y : Ordering) → is_eq (ordering_then x y) ≡ (is_eq x && is_eq y)
tied_then Less y = refl
tied_then Equal y = refl
tied_then Greater y = refl

-- two pairs tie where they are the same
pub pair_tied : (one other : ℕ × ℕ) → is_eq (pair_cmp one other) ≡ same_pair one other
pair_tied one other =
    tied_then (nat_cmp one.0 other.0) (nat_cmp one.1 other.1) ∙ rw (unsigned_tied one.0 other.0, unsigned_tied one.1 other.1) refl

-- a key is among those of the notes exactly where there are notes under it
module _ {K F V : Type 0} (same : K → K → Bool) (equal : (k q : K) → same k q ≡ true → k ≡ q) (itself : (k : K) → same k k ≡ true)
    (total : List F → Option V) (nothing : total [] ≡ None) (something : (f : F) (fs : List F) → is_some (total (f ∷ fs)) ≡ true) where
  pub there : (key : K) (notes : List (K × F)) → is_some (total (of_key same key notes)) ≡ list_any (same key) (in_turn same notes)
  there key [] = ap is_some nothing
  there key (note ∷ notes) = elim (cases_Bool (same note.0 key)) [
    | inl is ↦ rw is (something note.1 (of_key same key notes) ∙ sym (own (list_any (same note.0) (in_turn same notes)) refl (equal note.0 key is)))
    | inr apart ↦ rw apart (there key notes ∙ other (list_any (same note.0) (in_turn same notes)) (turned apart))
  ]
    where
      own : (any : Bool) → list_any (same note.0) (in_turn same notes) ≡ any → note.0 ≡ key
          → list_any (same key) (cond any (in_turn same notes) (in_turn same notes ++ note.0 ∷ [])) ≡ true
      own true some one = ap (λ (k : K). list_any (same k) (in_turn same notes)) (sym one) ∙ some
      own false none one =
          list_any-append (same key) (in_turn same notes) (note.0 ∷ [])
          ∙ ap (λ (k : K). list_any (same key) (in_turn same notes) || (same key k || false)) one ∙ rw (itself key) (or_true (list_any (same key) (in_turn same notes)))

      turned : same note.0 key ≡ false → same key note.0 ≡ false
      turned apart = elim (cases_Bool (same key note.0)) [
        | inl is ↦ absurd (true≢false (sym (itself note.0) ∙ ap (same note.0) (sym (equal key note.0 is)) ∙ apart))
        | inr w ↦ w
      ]

      other : (any : Bool) → same key note.0 ≡ false
          → list_any (same key) (in_turn same notes) ≡ list_any (same key) (cond any (in_turn same notes) (in_turn same notes ++ note.0 ∷ []))
      other true apart = refl
      other false apart = sym (list_any-append (same key) (in_turn same notes) (note.0 ∷ []) ∙ rw apart (or_false (list_any (same key) (in_turn same notes))))

-- where a map puts a new key
module _ {K X L : Type 0} (cmp : K → K → Ordering) (shown : K → L) (order : L → L → Ordering)
    (same : L → L → Bool) (orders : (k q : K) → cmp k q ≡ order (shown k) (shown q))
    (decides : (a b : L) → is_eq (order a b) ≡ same a b) where
  pub placed : (key : K) (value : X) (es : List (K × X))
      → list_any (same (shown key)) (map shown (keys_of es)) ≡ false
      → map shown (keys_of (tree.insert_entry cmp es key value)) ≡ place order (shown key) (map shown (keys_of es))
  placed key value [] none = refl
  placed key value (e ∷ es) none =
      ap (λ (r : Ordering). map shown (keys_of (match_ordering r ((key, value) ∷ e ∷ es) ((e.0, value) ∷ es) (e ∷ tree.insert_entry cmp es key value)))) (orders key e.0)
      ∙ by (order (shown key) (shown e.0)) (ap (λ (b : Bool). b || list_any (same (shown key)) (map shown (keys_of es))) (decides (shown key) (shown e.0)) ∙ none) (placed key value es)
    where
      by : (r : Ordering) → (is_eq r || list_any (same (shown key)) (map shown (keys_of es))) ≡ false
          → (list_any (same (shown key)) (map shown (keys_of es)) ≡ false → map shown (keys_of (tree.insert_entry cmp es key value)) ≡ place order (shown key) (map shown (keys_of es)))
          → map shown (keys_of (match_ordering r ((key, value) ∷ e ∷ es) ((e.0, value) ∷ es) (e ∷ tree.insert_entry cmp es key value)))
          ≡ cond (is_lt r) (shown key ∷ shown e.0 ∷ map shown (keys_of es)) (shown e.0 ∷ place order (shown key) (map shown (keys_of es)))
      by Less out rest = refl
      by Equal out rest = absurd (true≢false out)
      by Greater out rest = ap (λ (keys : List L). shown e.0 ∷ keys) (rest out)
