-- Lists that are counted through, and the one of a number in them.
use Rattle.std.proofs.Common.{◌≡◌, ◌+◌, ◌<◌, ℕ, zero, suc, Bool as Truth, List, [], ◌∷◌, ◌++◌, length, get_or, drop, slice_get, ap, sym, refl, ◌∙◌, arith}
use Rattle.std.proofs.lemmas.List.{drop_more}
use Rattle.std.proofs.lemmas.List.Elements.{All-cons}
use Rattle.std.specs.List.{All as ForAll, flat_map}
use Rattle.pk_source.specs.Found.{kth, or_then, there}
use Rattle.pk_source.specs.Outlines.{SlotsKnown}
use Rattle.pk_source.specs.declared.found.Kth.{Kth}
use Rattle.pk_source.specs.declared.found.Kth.TheVariants.{At, Left}
use Rattle.pk_source.specs.declared.header.Told.{Told}
use Rattle.pk_tree.proofs.KnownLemmas.{first_known}
use Rattle.pk_tree.specs.Layouts.{reach, step_reach}
use Rattle.pk_tree.specs.Tables.{step_of, steps_of}
use Rattle.pk_tree.specs.declared.layout.Reach.TheVariants.{All}
use Rattle.pk_tree.specs.declared.table.Slot.{Slot}

pub kth-append : (xs ys : List Told) (k : ℕ) → kth (xs ++ ys) k ≡ or_then (kth xs k) (kth ys)
kth-append [] ys k = refl
kth-append (x ∷ xs) ys zero = refl
kth-append (x ∷ xs) ys (suc k) = kth-append xs ys k

pub there-kth : (xs : List Told) (k : ℕ) → there (kth xs k) ≡ slice_get xs k
there-kth [] k = refl
there-kth (x ∷ xs) zero = refl
there-kth (x ∷ xs) (suc k) = there-kth xs k

next_is : {A : Type 0} (f : A → List Told) (xs : List A) (i : ℕ) (x d : A) (k : ℕ) → i < length xs → x ≡ get_or xs i d →
    kth (flat_map f (drop i xs)) k ≡ or_then (kth (f x) k) (kth (flat_map f (drop (i + 1) xs)))
next_is f xs i x d k inside is =
    ap (λ ys. kth (flat_map f ys) k) (drop_more xs i d inside ∙ ap (λ y. y ∷ drop (i + 1) xs) (sym is))
    ∙ kth-append (f x) (flat_map f (drop (i + 1) xs)) k

-- one more has too few
pub more_left : {A : Type 0} (f : A → List Told) (xs : List A) (i : ℕ) (x d : A) (k rest : ℕ) (all : Kth) → i < length xs → x ≡ get_or xs i d → Left rest ≡ kth (f x) k →
    kth (flat_map f (drop i xs)) k ≡ all → kth (flat_map f (drop (i + 1) xs)) rest ≡ all
more_left f xs i x d k rest all inside is left so_far =
    ap (λ one. or_then one (kth (flat_map f (drop (i + 1) xs)))) left ∙ sym (next_is f xs i x d k inside is) ∙ so_far

-- one more has it
pub more_at : {A : Type 0} (f : A → List Told) (xs : List A) (i : ℕ) (x d : A) (k : ℕ) (told : Told) (all : Kth) → i < length xs → x ≡ get_or xs i d → At told ≡ kth (f x) k →
    kth (flat_map f (drop i xs)) k ≡ all → At told ≡ all
more_at f xs i x d k told all inside is at so_far =
    ap (λ one. or_then one (kth (flat_map f (drop (i + 1) xs)))) at ∙ sym (next_is f xs i x d k inside is) ∙ so_far

-- of a table that is read to its end each slot is
each_known : (end : ℕ) (holds : List Truth) (sizes : List ℕ) (slots : List Slot) → reach end (steps_of holds sizes slots) ≡ All → ForAll (λ slot. step_reach end (step_of holds sizes slot) ≡ All) slots
unfolding steps_of
each_known end holds sizes [] whole = λ k d inside. absurd (omega arith)
each_known end holds sizes (slot ∷ slots) whole =
    let both = first_known end (step_of holds sizes slot) (steps_of holds sizes slots) whole in
    All-cons (λ s. step_reach end (step_of holds sizes s) ≡ All) slot slots both.0 (each_known end holds sizes slots both.1)

pub slots_known : (end : ℕ) (holds : List Truth) (sizes : List ℕ) (slots : List Slot) → reach end (steps_of holds sizes slots) ≡ All → SlotsKnown end sizes slots
slots_known end holds sizes slots whole = (holds, each_known end holds sizes slots whole)
