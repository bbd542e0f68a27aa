-- Files have one list of merged frames: no two places are the same, so that no two orders are.
use Rattle.std.proofs.Common.{◌≡◌, ℕ, zero, suc, ◌+◌, ◌<◌, ◌≤◌, ◌==◌, Bool, true, false, ◌&&◌, List, [], ◌∷◌, ◌++◌, length, Option, None, refl, sym, ap, subst, ◌∙◌, arith}
use Rattle.std.specs.Prelude.{ℤ, IsPermutation, slice_index_or}
use Rattle.std.specs.List.{AllByRecursion as Each, Contains, IsDistinct}
use Rattle.std.specs.List.Sorted.{IsSortedByKey}
use Rattle.std.specs.Cmp.{IsStrictWeakOrder, IsTotalOrder}
use Rattle.std.specs.Cmp.Lexicographic.{options_total}
use Rattle.std.specs.Option.{option_or, option_cmp}
use Rattle.std.specs.Ordering.{is_lt, ordering_then, ordering_reverse, nat_cmp, int_cmp}
use Rattle.std.specs.declared.cmp.Ordering.{Ordering}
use Rattle.std.specs.declared.cmp.Ordering.TheVariants.{Less, Equal, Greater}
use Rattle.std.proofs.lemmas.Bool.{both_ways}
use Rattle.std.proofs.lemmas.Bool.Decides.{nat_tests}
use Rattle.std.proofs.lemmas.Cmp.{then_total, int_cmp_total, nat_cmp_total, on_total}
use Rattle.std.proofs.lemmas.List.MinMax.{ranks_by}
use Rattle.std.proofs.lemmas.List.Sorted.{sorted_far, Contains-permutation, IsPermutation-sym}
use Rattle.std.proofs.lemmas.Map.Keys.{IsDistinct-IsPermutation}
use Rattle.std.proofs.lemmas.Map.Made.{Contains-tail}
use Rattle.capture_read.specs.Capture.{capture_of}
use Rattle.capture_read.specs.declared.frame.Frame.{Frame}
use Rattle.capture_read.proofs.FrameBounds.{AreNumbered, frames_are_numbered}
use Rattle.merge_caps.specs.declared.place.Entry.{Entry}
use Rattle.merge_caps.specs.declared.place.Place.{Place}
use Rattle.merge_caps.specs.Merged.{placed, placed_from, all_placed, place_cmp, place_of, frames_of, IsMerged}

-- the frame of the same number in the same file
pub same : Entry → Entry → Bool
same one other = (one.place.file == other.place.file) && (one.place.number == other.place.number)

eqb_flips : (m n : ℕ) → (m == n) ≡ (n == m)
eqb_flips m n = grind (arith, nat_tests)

pub same_flips : (one other : Entry) → same one other ≡ same other one
unfolding same
same_flips one other =
    ap (λ (b : Bool). b && (one.place.number == other.place.number)) (eqb_flips one.place.file other.place.file)
    ∙ ap (λ (b : Bool). (other.place.file == one.place.file) && b) (eqb_flips one.place.number other.place.number)

left_false : (one other : Bool) → one ≡ false → (one && other) ≡ false
left_false one other e = ap (λ (b : Bool). b && other) e

right_false : (one other : Bool) → other ≡ false → (one && other) ≡ false
right_false true other e = e
right_false false other e = refl

differ : (m n : ℕ) → m < n → (m == n) ≡ false
differ m n less = grind (arith, nat_tests)

pub each_map : {P Q : Entry → Type 0} → ((e : Entry) → P e → Q e) → (es : List Entry) → Each P es → Each Q es
each_map f [] each = tt
each_map f (e ∷ es) each = (f e each.0, each_map f es each.1)

pub each_append : (P : Entry → Type 0) (xs ys : List Entry) → Each P xs → Each P ys → Each P (xs ++ ys)
each_append P [] ys left right = right
each_append P (x ∷ xs) ys left right = (left.0, each_append P xs ys left.1 right)

-- the frames of one file, from a number on
abbrev pub Beyond : ℕ → ℕ → Entry → Type 0
Beyond file number entry = (entry.place.file ≡ file) × (number ≤ entry.place.number)

pub placed_beyond : (latest : Option ℤ) (file number : ℕ) (frames : List Frame) → AreNumbered number frames → Each (Beyond file number) (placed_from latest file frames)
placed_beyond latest file number [] are = tt
placed_beyond latest file number (frame ∷ frames) are =
    let here : number ≤ frame.number = omega (arith, are.0) in (
      (refl, here),
      each_map (λ entry beyond. let more : number ≤ entry.place.number = omega (arith, beyond.1) in (beyond.0, more)) (placed_from (option_or frame.time latest) file frames)
          (placed_beyond (option_or frame.time latest) file (suc number) frames are.1),
    )

numbers_differ : (latest : Option ℤ) (file number : ℕ) (frame : Frame) (entry : Entry) → frame.number ≡ number → Beyond file (suc number) entry
    → same (placed latest file frame) entry ≡ false
unfolding same
numbers_differ latest file number frame entry is beyond =
    right_false (file == entry.place.file) (frame.number == entry.place.number) (differ frame.number entry.place.number (omega (arith, is, beyond.1)))

placed_distinct : (latest : Option ℤ) (file number : ℕ) (frames : List Frame) → AreNumbered number frames → IsDistinct same (placed_from latest file frames)
unfolding IsDistinct
placed_distinct latest file number [] are = tt
placed_distinct latest file number (frame ∷ frames) are = (
  each_map (λ entry beyond. numbers_differ latest file number frame entry are.0 beyond) (placed_from (option_or frame.time latest) file frames)
      (placed_beyond (option_or frame.time latest) file (suc number) frames are.1),
  placed_distinct (option_or frame.time latest) file (suc number) frames are.1,
)

-- the frames of files from a place on
abbrev pub Behind : ℕ → Entry → Type 0
Behind place entry = place ≤ entry.place.file

pub all_behind : (place : ℕ) (files : List (List ℕ)) → Each (Behind place) (all_placed place files)
all_behind place [] = tt
all_behind place (file ∷ files) =
    each_append (Behind place) (placed_from None place (capture_of file).frames) (all_placed (suc place) files)
    (each_map (λ entry beyond. omega (arith, beyond.0)) (placed_from None place (capture_of file).frames)
    (placed_beyond None place 1 (capture_of file).frames (frames_are_numbered file)))
    (each_map (λ entry behind. omega (arith, behind)) (all_placed (suc place) files) (all_behind (suc place) files))

distinct_append : (xs ys : List Entry) → IsDistinct same xs → IsDistinct same ys → Each (λ x. Each (λ y. same x y ≡ false) ys) xs → IsDistinct same (xs ++ ys)
unfolding IsDistinct
distinct_append [] ys left right across = right
distinct_append (x ∷ xs) ys left right across =
    (each_append (λ y. same x y ≡ false) xs ys left.0 across.0, distinct_append xs ys left.1 right across.1)

files_differ : (place : ℕ) (one other : Entry) → Beyond place 1 one → Behind (suc place) other → same one other ≡ false
unfolding same
files_differ place one other beyond behind =
    left_false (one.place.file == other.place.file) (one.place.number == other.place.number)
    (differ one.place.file other.place.file (omega (arith, beyond.0, behind)))

pub all_distinct : (place : ℕ) (files : List (List ℕ)) → IsDistinct same (all_placed place files)
unfolding IsDistinct
all_distinct place [] = tt
all_distinct place (file ∷ files) =
    let these = placed_from None place (capture_of file).frames in
    let others = all_placed (suc place) files in
    distinct_append these others (placed_distinct None place 1 (capture_of file).frames (frames_are_numbered file)) (all_distinct (suc place) files)
    (each_map (λ one beyond. each_map (λ other behind. files_differ place one other beyond behind) others (all_behind (suc place) files)) these
    (placed_beyond None place 1 (capture_of file).frames (frames_are_numbered file)))

-- places are totally ordered
place_total : IsTotalOrder place_cmp
place_total =
    then_total (on_total (λ (place : Place). place.time) (options_total int_cmp_total))
    (then_total (on_total (λ (place : Place). place.file) nat_cmp_total) (on_total (λ (place : Place). place.number) nat_cmp_total))

abbrev pub below : Entry → Entry → Bool
below one other = is_lt (place_cmp one.place other.place)

pub place_ranks : IsStrictWeakOrder below
place_ranks = ranks_by place_total place_of

abbrev pub Sorted : List Entry → Type 0
Sorted entries = IsSortedByKey place_of place_cmp entries

-- neither is below the other
not_below : (one other : Ordering) → one ≡ ordering_reverse other → is_lt one ≡ false → is_lt other ≡ false → one ≡ Equal
not_below Less other e h g = absurd (both_ways true h refl)
not_below Equal other e h g = refl
not_below Greater Less e h g = absurd (both_ways true g refl)
not_below Greater Equal e h g = e
not_below Greater Greater e h g = absurd cc

then_equal : (one other : Ordering) → ordering_then one other ≡ Equal → other ≡ Equal
then_equal Less other h = absurd cc
then_equal Equal other h = h
then_equal Greater other h = absurd cc

then_first : (one other : Ordering) → ordering_then one other ≡ Equal → one ≡ Equal
then_first Less other h = absurd cc
then_first Equal other h = refl
then_first Greater other h = absurd cc

equal_numbers : (m n : ℕ) → nat_cmp m n ≡ Equal → (m == n) ≡ true
equal_numbers m n h = grind (arith, nat_tests)

both_are : (one other : Bool) → one ≡ true → other ≡ true → (one && other) ≡ true
both_are true other e h = h
both_are false other e h = absurd (both_ways false refl e)

equal_places : (one other : Entry) → place_cmp one.place other.place ≡ Equal → same one other ≡ true
unfolding same
equal_places one other h =
    let rest = then_equal (option_cmp int_cmp one.place.time other.place.time) _ h in
    both_are (one.place.file == other.place.file) (one.place.number == other.place.number)
    (equal_numbers one.place.file other.place.file (then_first (nat_cmp one.place.file other.place.file) _ rest))
    (equal_numbers one.place.number other.place.number (then_equal (nat_cmp one.place.file other.place.file) _ rest))

-- no element is below the first
first_least : (first : Entry) (rest : List Entry) (entry : Entry) → Sorted (first ∷ rest) → Contains (first ∷ rest) entry → below entry first ≡ false
first_least first rest entry sorted has =
    subst (λ (e : Entry). below e first ≡ false) has.2 (sorted_far below place_ranks (first ∷ rest) sorted 0 has.0 entry (omega arith) has.1)

each_at : (P : Entry → Type 0) (es : List Entry) (e : Entry) (k : ℕ) → Each P es → k < length es → slice_index_or es k e ≡ e → P e
each_at P [] e k each less is = absurd (omega (arith, less))
each_at P (x ∷ es) e zero each less is = subst P is each.0
each_at P (x ∷ es) e (suc k) each less is = each_at P es e k each.1 (omega (arith, less)) is

-- an element of the tail isn't the same as the head
in_tail : (first : Entry) (rest : List Entry) (entry : Entry) → IsDistinct same (first ∷ rest) → Contains rest entry → same first entry ≡ false
unfolding IsDistinct
in_tail first rest entry distinct has = each_at (λ e. same first e ≡ false) rest entry has.0 distinct.0 has.1 has.2

head_at : (first : Entry) (rest : List Entry) (entry : Entry) (k : ℕ) → IsDistinct same (first ∷ rest) → same first entry ≡ true → k < length (first ∷ rest)
    → slice_index_or (first ∷ rest) k entry ≡ entry → first ≡ entry
head_at first rest entry zero distinct is less at = at
head_at first rest entry (suc k) distinct is less at =
    absurd (both_ways (same first entry) (in_tail first rest entry distinct (k, omega (arith, less), at)) is)

same_heads : (one other : Entry) (ones others : List Entry) → Sorted (one ∷ ones) → Sorted (other ∷ others) → IsDistinct same (one ∷ ones)
    → Contains (other ∷ others) one → Contains (one ∷ ones) other → one ≡ other
same_heads one other ones others sorted sorted_other distinct there here =
    let least = first_least other others one sorted_other there in
    let most = first_least one ones other sorted here in
    let equal = not_below (place_cmp one.place other.place) (place_cmp other.place one.place) (place_total.antisymm one.place other.place) least most in
    head_at one ones other here.0 distinct (equal_places one other equal) here.1 here.2

sorted_tail : (first : Entry) (rest : List Entry) → Sorted (first ∷ rest) → Sorted rest
sorted_tail first rest sorted k d low high =
    let count : suc k + 1 ≡ suc (k + 1) = omega arith in
    subst (λ (n : ℕ). below (slice_index_or (first ∷ rest) n d) (slice_index_or rest k d) ≡ false) count (sorted (suc k) d (omega arith) (omega (arith, high)))

distinct_tail : (first : Entry) (rest : List Entry) → IsDistinct same (first ∷ rest) → IsDistinct same rest
unfolding IsDistinct
distinct_tail first rest distinct = distinct.1

eqb_itself : (n : ℕ) → (n == n) ≡ true
eqb_itself n = grind (arith, nat_tests)

same_itself : (entry : Entry) → same entry entry ≡ true
unfolding same
same_itself entry = both_are (entry.place.file == entry.place.file) (entry.place.number == entry.place.number) (eqb_itself entry.place.file) (eqb_itself entry.place.number)

abbrev pub Among : List Entry → List Entry → Type 0
Among ones others = (entry : Entry) → Contains ones entry → Contains others entry

among_tails : (first : Entry) (ones others : List Entry) → IsDistinct same (first ∷ ones) → Among (first ∷ ones) (first ∷ others) → Among ones others
among_tails first ones others distinct among entry has =
    Contains-tail first others entry
    (λ is. both_ways (same first entry) (in_tail first ones entry distinct has) (subst (λ (e : Entry). same first e ≡ true) is (same_itself first)))
    (among entry (suc has.0, omega (arith, has.1), has.2))

head_in : (first : Entry) (rest : List Entry) → Contains (first ∷ rest) first
head_in first rest = (0, omega arith, refl)

-- two orders with the same elements
pub one_order : (ones others : List Entry) → Sorted ones → Sorted others → IsDistinct same ones → IsDistinct same others → Among ones others → Among others ones → ones ≡ others
one_order [] [] sorted sorted_others distinct distinct_others there here = refl
one_order [] (other ∷ others) sorted sorted_others distinct distinct_others there here = absurd (let has = here other (head_in other others) in omega (arith, has.1))
one_order (one ∷ ones) [] sorted sorted_others distinct distinct_others there here = absurd (let has = there one (head_in one ones) in omega (arith, has.1))
one_order (one ∷ ones) (other ∷ others) sorted sorted_others distinct distinct_others there here =
    let is : one ≡ other = same_heads one other ones others sorted sorted_others distinct (there one (head_in one ones)) (here other (head_in other others)) in
    let back : other ≡ one = sym is in
    let alike : Among (one ∷ ones) (one ∷ others) = subst (λ (e : Entry). Among (one ∷ ones) (e ∷ others)) back there in
    let alike_back : Among (one ∷ others) (one ∷ ones) = subst (λ (e : Entry). Among (e ∷ others) (one ∷ ones)) back here in
    let distinct_back : IsDistinct same (one ∷ others) = subst (λ (e : Entry). IsDistinct same (e ∷ others)) back distinct_others in
    ap (λ (e : Entry). e ∷ ones) is
    ∙ ap (λ (es : List Entry). other ∷ es) (one_order ones others (sorted_tail one ones sorted) (sorted_tail other others sorted_others)
    (distinct_tail one ones distinct) (distinct_tail other others distinct_others) (among_tails one ones others distinct alike) (among_tails one others ones distinct_back alike_back))

pub among_orders : (entries ones others : List Entry) → IsPermutation entries ones → IsPermutation entries others → Among ones others
among_orders entries ones others to_ones to_others entry has =
    Contains-permutation entries others entry to_others (Contains-permutation ones entries entry (IsPermutation-sym entries ones to_ones) has)

-- files have one list of merged frames
pub merged_once : (files : List (List ℕ)) (one other : List Frame) → IsMerged files one → IsMerged files other → one ≡ other
merged_once files one other merged others =
    let entries = all_placed 0 files in
    let distinct = all_distinct 0 files in
    merged.frames
    ∙ ap frames_of (one_order merged.order others.order merged.ordered.sorted others.ordered.sorted
    (IsDistinct-IsPermutation same same_flips entries merged.order merged.ordered.same distinct)
    (IsDistinct-IsPermutation same same_flips entries others.order others.ordered.same distinct)
    (among_orders entries merged.order others.order merged.ordered.same others.ordered.same)
    (among_orders entries others.order merged.order others.ordered.same merged.ordered.same))
    ∙ sym others.frames
