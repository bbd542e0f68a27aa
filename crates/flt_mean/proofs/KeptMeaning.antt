-- A tree with the items of the fields that a filter asks for is to it as the whole tree.
use Rattle.std.proofs.Common.{◌≡◌, ◌==◌, ◌||◌, ℕ, Bool as Truth, true, false, List, refl, eq-eqb}
use Rattle.flt_typed.specs.Asked.{HasFilter, asks, asks_term}
use Rattle.flt_typed.specs.declared.typed.Term.{Term}
use Rattle.flt_typed.specs.declared.typed.Term.TheVariants as terms
use Rattle.flt_typed.specs.declared.typed.Typed.{Typed}
use Rattle.flt_typed.specs.declared.typed.Typed.TheVariants.{Either', Differ', Both', Not', Exists, AnyBit, Compare, Among, Matches}
use Rattle.flt_mean.specs.Laws.{KeptMeaning}
use Rattle.flt_mean.specs.Meaning.{meaning}
use Rattle.flt_mean.specs.Values.{values_of_term}
use Rattle.pk_fields.specs.FieldSets.{is_in}
use Rattle.pk_fields.specs.Fields.{row_of}
use Rattle.pk_tree.proofs.KeptValues.{values_same}
use Rattle.pk_base.specs.declared.chosen.Layers.{Layers}
use Rattle.pk_tree.specs.FieldValues.{values_of}
use Rattle.pk_tree.specs.Trees.{TreeShown, kept_tree}

left_or : (a b : Truth) → a ≡ true → (a || b) ≡ true
left_or a b is = rw is refl

right_or : (a b : Truth) → b ≡ true → (a || b) ≡ true
right_or true b is = refl
right_or false b is = is

own_field : (field : ℕ) → (field == field || field == (row_of field).proto) ≡ true
own_field field = left_or (field == field) (field == (row_of field).proto) (eq-eqb field field refl)

-- the parts of a filter
left_has : (wanted : List ℕ) (left right : ℕ → Truth) → ((f : ℕ) → (left f || right f) ≡ true → is_in wanted f ≡ true) → (f : ℕ) → left f ≡ true → is_in wanted f ≡ true
left_has wanted left right has f is = has f (left_or (left f) (right f) is)

right_has : (wanted : List ℕ) (left right : ℕ → Truth) → ((f : ℕ) → (left f || right f) ≡ true → is_in wanted f ≡ true) → (f : ℕ) → right f ≡ true → is_in wanted f ≡ true
right_has wanted left right has f is = has f (right_or (left f) (right f) is)

-- a set of fields has all that a term asks for
abbrev HasTerm : List ℕ → Term → Type 0
HasTerm wanted term = (f : ℕ) → asks_term term f ≡ true → is_in wanted f ≡ true

-- two trees that have the same values of these fields
abbrev pub HaveSame : List ℕ → TreeShown → TreeShown → Type 0
HaveSame wanted t u = (field : ℕ) (layers : Layers) → is_in wanted field ≡ true → values_of u field layers ≡ values_of t field layers

term_alike : (wanted : List ℕ) (term : Term) (t u : TreeShown) → HaveSame wanted t u → HasTerm wanted term → values_of_term term u ≡ values_of_term term t
term_alike wanted (terms.Constant constant) t u same has = refl
term_alike wanted (terms.Field field layers) t u same has = same field layers (has field (own_field field))
term_alike wanted (terms.Slice' p term ranges) t u same has = rw (term_alike wanted term t u same has) refl
term_alike wanted (terms.Mask' p term mask) t u same has = rw (term_alike wanted term t u same has) refl
term_alike wanted (terms.Called' function p term) t u same has = rw (term_alike wanted term t u same has) refl
term_alike wanted (terms.Computed' a p left q right) t u same has =
    rw (term_alike wanted left t u same (left_has wanted (asks_term left) (asks_term right) has), term_alike wanted right t u same (right_has wanted (asks_term left) (asks_term right) has)) refl
term_alike wanted (terms.Arguments' p left q right) t u same has =
    rw (term_alike wanted left t u same (left_has wanted (asks_term left) (asks_term right) has), term_alike wanted right t u same (right_has wanted (asks_term left) (asks_term right) has)) refl

pub meaning_alike : (wanted : List ℕ) (filter : Typed) (t u : TreeShown) → HaveSame wanted t u → HasFilter wanted filter → meaning filter u ≡ meaning filter t
meaning_alike wanted (Either' p left q right) t u same has =
    rw (meaning_alike wanted left t u same (left_has wanted (asks left) (asks right) has), meaning_alike wanted right t u same (right_has wanted (asks left) (asks right) has)) refl
meaning_alike wanted (Differ' p left q right) t u same has =
    rw (meaning_alike wanted left t u same (left_has wanted (asks left) (asks right) has), meaning_alike wanted right t u same (right_has wanted (asks left) (asks right) has)) refl
meaning_alike wanted (Both' p left q right) t u same has =
    rw (meaning_alike wanted left t u same (left_has wanted (asks left) (asks right) has), meaning_alike wanted right t u same (right_has wanted (asks left) (asks right) has)) refl
meaning_alike wanted (Not' p filter) t u same has = rw (meaning_alike wanted filter t u same has) refl
meaning_alike wanted (Exists term) t u same has = rw (term_alike wanted term t u same has) refl
meaning_alike wanted (AnyBit term) t u same has = rw (term_alike wanted term t u same has) refl
meaning_alike wanted (Compare relation choice left right) t u same has =
    rw (term_alike wanted left t u same (left_has wanted (asks_term left) (asks_term right) has), term_alike wanted right t u same (right_has wanted (asks_term left) (asks_term right) has)) refl
meaning_alike wanted (Among negated choice term members) t u same has = rw (term_alike wanted term t u same has) refl
meaning_alike wanted (Matches choice term pattern) t u same has = rw (term_alike wanted term t u same has) refl

pub meaning_kept : KeptMeaning
meaning_kept wanted filter t has = meaning_alike wanted filter t (kept_tree wanted t) (λ field layers is. values_same wanted t field layers is) has
