-- Slots that are of a field, one by one.
use Rattle.std.proofs.Common.{◌≡◌, ◌+◌, ◌<◌, ℕ, Bool as Truth, true, false, cond, List, [], ◌∷◌, ◌++◌, Option, Some, length, get_or, take, drop, refl, ap, sym, ◌∙◌, append-nil}
use Rattle.std.specs.List.{find, flat_map}
use Rattle.std.proofs.lemmas.List.{take_more, drop_more}
use Rattle.std.proofs.lemmas.List.Concat.{flat_map-append}
use Rattle.pk_base.specs.declared.span.Span.{Span}
use Rattle.pk_source.specs.Found.{rows_told, slot_told}
use Rattle.pk_source.specs.Picks.{is_of, slot_at}
use Rattle.pk_source.specs.declared.header.Told.{Told}
use Rattle.pk_tree.specs.declared.table.Slot.{Slot}
use Rattle.pk_tree.specs.declared.table.Slot.TheVariants as slots

-- a slot that isn't of the field tells nothing of it
unread : (span : Span) (sizes : List ℕ) (field : ℕ) (slot : Slot) → is_of field slot ≡ false → slot_told span sizes field slot ≡ []
unfolding slot_told
unread span sizes field (slots.Row f at) other = rw other refl
unread span sizes field (slots.Part f at size) other = rw other refl
unread span sizes field (slots.PartAt f at size) other = rw other refl
unread span sizes field (slots.Whole f at size) other = rw other refl
unread span sizes field (slots.Check test) other = refl
unread span sizes field (slots.Room test) other = refl

pub other_slot : (span : Span) (sizes : List ℕ) (field : ℕ) (slot : Slot) (xs : List Told) → is_of field slot ≡ false → xs ≡ xs ++ slot_told span sizes field slot
other_slot span sizes field slot xs other = rw (unread span sizes field slot other, append-nil) refl

-- one more slot of the table
pub rows_more : (span : Span) (sizes : List ℕ) (field : ℕ) (table : List Slot) (at : ℕ) → at < length table → rows_told span sizes field (take (at + 1) table) ≡ rows_told span sizes field (take at table) ++ slot_told span sizes field (slot_at table at)
unfolding rows_told
rows_more span sizes field table at inside =
    ap (flat_map (slot_told span sizes field)) (take_more table at (slots.Check 0) inside)
    ∙ flat_map-append (slot_told span sizes field) (take at table) (slot_at table at ∷ [])
    ∙ ap (λ back. flat_map (slot_told span sizes field) (take at table) ++ back) append-nil'
  where
    append-nil' : slot_told span sizes field (slot_at table at) ++ [] ≡ slot_told span sizes field (slot_at table at)
    append-nil' = append-nil (slot_told span sizes field (slot_at table at))

pub rows_none : (span : Span) (sizes : List ℕ) (field : ℕ) → rows_told span sizes field [] ≡ []
unfolding rows_told
rows_none span sizes field = refl

-- the first one that passes, among those that are left
pub find_more : {A : Type 0} (test : A → Truth) (xs : List A) (i : ℕ) (x : A) (found : Option A) → i < length xs → x ≡ get_or xs i x → test x ≡ false → find test (drop i xs) ≡ found → find test (drop (i + 1) xs) ≡ found
find_more test xs i x found inside is fails so_far =
    ap (λ t. cond t (Some x) (find test (drop (i + 1) xs))) (sym fails)
    ∙ ap (find test) (sym (drop_more xs i x inside ∙ ap (λ y. y ∷ drop (i + 1) xs) (sym is))) ∙ so_far

pub find_here : {A : Type 0} (test : A → Truth) (xs : List A) (i : ℕ) (x : A) (found : Option A) → i < length xs → x ≡ get_or xs i x → test x ≡ true → find test (drop i xs) ≡ found → Some x ≡ found
find_here test xs i x found inside is passes so_far =
    ap (λ t. cond t (Some x) (find test (drop (i + 1) xs))) (sym passes)
    ∙ ap (find test) (sym (drop_more xs i x inside ∙ ap (λ y. y ∷ drop (i + 1) xs) (sym is))) ∙ so_far
