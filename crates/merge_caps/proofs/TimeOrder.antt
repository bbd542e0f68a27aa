-- The order of places is that of the times, and keeps the order of the files and of their frames at each time.
use Rattle.std.proofs.Common.{◌≡◌, ℕ, zero, suc, ◌+◌, ◌<◌, ◌==◌, Bool, true, false, true≢false, cond, not, ◌&&◌, filter, List, [], ◌∷◌, ◌++◌, length, Option, Some, None, slice_get, unwrap_or, refl, sym, ap, subst, ◌∙◌, append-nil, arith}
use Rattle.std.specs.Prelude.{ℤ, slice_index_or}
use Rattle.std.specs.List.{AllByRecursion as Each, Contains, IsDistinct}
use Rattle.std.specs.List.Sorted.{IsSortedBy, ties}
use Rattle.std.specs.Cmp.{IsStrictWeakOrder, IsTotalOrder}
use Rattle.std.specs.Cmp.Lexicographic.{options_total}
use Rattle.std.specs.Option.{option_or, option_cmp}
use Rattle.std.specs.Ordering.{is_lt, ordering_then, nat_cmp, int_cmp}
use Rattle.std.specs.declared.cmp.Ordering.{Ordering}
use Rattle.std.specs.declared.cmp.Ordering.TheVariants.{Less, Equal, Greater}
use Rattle.std.proofs.lemmas.Bool.{cond_both}
use Rattle.std.proofs.lemmas.Bool.Decides.{nat_tests}
use Rattle.std.proofs.lemmas.Cmp.{int_cmp_total}
use Rattle.std.proofs.lemmas.List.Elements.{All-contains, All-contains_itself, All-filter, filter-append, filter_passes, recursion_from_All}
use Rattle.std.proofs.lemmas.List.Kept.{IsSortedBy-filter}
use Rattle.std.proofs.lemmas.List.MinMax.{ranks_by}
use Rattle.std.proofs.lemmas.List.Sorted.{sorted_far, IsPermutation-refl, IsPermutation-sym}
use Rattle.std.proofs.lemmas.Map.Keys.{IsDistinct-IsPermutation, IsDistinct-cons, IsDistinct-head, IsDistinct-tail}
use Rattle.capture_read.specs.Capture.{capture_of}
use Rattle.capture_read.specs.declared.frame.Frame.{Frame}
use Rattle.capture_read.proofs.FrameBounds.{AreNumbered, frames_are_numbered}
use Rattle.merge_caps.specs.declared.place.Entry.{Entry}
use Rattle.merge_caps.specs.ByTime.{time_of, time_cmp, is_of, IsByTime}
use Rattle.merge_caps.specs.Merged.{placed, placed_from, all_placed, frames_of, IsInOrder, IsMerged}
use Rattle.merge_caps.proofs.OneOrder.{same, same_flips, each_map, each_append, Beyond, placed_beyond, Behind, all_behind, all_distinct, below, place_ranks, Sorted, Among, one_order, among_orders}

-- lists of which each two are related, the earlier first
abbrev Pairs : (Entry → Entry → Type 0) → List Entry → Type 0
Pairs R [] = Unit {0}
Pairs R (e ∷ es) = Each (R e) es × Pairs R es

pairs_append : (R : Entry → Entry → Type 0) (xs ys : List Entry) → Pairs R xs → Pairs R ys → Each (λ x. Each (R x) ys) xs → Pairs R (xs ++ ys)
pairs_append R [] ys left right across = right
pairs_append R (x ∷ xs) ys left right across = (each_append (R x) xs ys left.0 across.0, pairs_append R xs ys left.1 right across.1)

each_filter : (P : Entry → Type 0) (p : Entry → Bool) (es : List Entry) → Each P es → Each P (filter p es)
each_filter P p [] each = tt
each_filter P p (e ∷ es) each =
    cond_both (p e) (e ∷ filter p es) (filter p es) (Each P) (λ _. (each.0, each_filter P p es each.1)) (λ _. each_filter P p es each.1)

pairs_filter : (R : Entry → Entry → Type 0) (p : Entry → Bool) (es : List Entry) → Pairs R es → Pairs R (filter p es)
pairs_filter R p [] pairs = tt
pairs_filter R p (e ∷ es) pairs =
    cond_both (p e) (e ∷ filter p es) (filter p es) (Pairs R) (λ _. (each_filter (R e) p es pairs.0, pairs_filter R p es pairs.1)) (λ _. pairs_filter R p es pairs.1)

each_both : (P Q R : Entry → Type 0) → ((e : Entry) → P e → Q e → R e) → (es : List Entry) → Each P es → Each Q es → Each R es
each_both P Q R f [] ps qs = tt
each_both P Q R f (e ∷ es) ps qs = (f e ps.0 qs.0, each_both P Q R f es ps.1 qs.1)

pairs_both : (P Q R : Entry → Entry → Type 0) → ((e f : Entry) → P e f → Q e f → R e f) → (es : List Entry) → Pairs P es → Pairs Q es → Pairs R es
pairs_both P Q R f [] ps qs = tt
pairs_both P Q R f (e ∷ es) ps qs = (each_both (P e) (Q e) (R e) (f e) es ps.0 qs.0, pairs_both P Q R f es ps.1 qs.1)

pairs_each : (P : Entry → Type 0) (R : Entry → Entry → Type 0) → ((e f : Entry) → P e → P f → R e f) → (es : List Entry) → Each P es → Pairs R es
pairs_each P R f [] each = tt
pairs_each P R f (e ∷ es) each = (each_map {P = P} {Q = R e} (λ x is. f e x each.0 is) es each.1, pairs_each P R f es each.1)

-- no later element is less
abbrev NotLess : (Entry → Entry → Bool) → Entry → Entry → Type 0
NotLess lt e f = lt f e ≡ false

pairs_sorted : (lt : Entry → Entry → Bool) (es : List Entry) → Pairs (NotLess lt) es → IsSortedBy lt es
pairs_sorted lt [] pairs k d low high = absurd (omega (arith, high))
pairs_sorted lt (e ∷ []) pairs k d low high = absurd (omega (arith, high))
pairs_sorted lt (e ∷ f ∷ es) pairs zero d low high = pairs.0.0
pairs_sorted lt (e ∷ f ∷ es) pairs (suc k) d low high =
    let count : suc (k + 1) ≡ suc k + 1 = omega arith in
    subst (λ (n : ℕ). lt (slice_index_or (e ∷ f ∷ es) n d) (slice_index_or (f ∷ es) k d) ≡ false) count
    (pairs_sorted lt (f ∷ es) pairs.1 k d (omega arith) (omega (arith, high)))

sorted_pairs : (lt : Entry → Entry → Bool) → IsStrictWeakOrder lt → (es : List Entry) → IsSortedBy lt es → Pairs (NotLess lt) es
sorted_pairs lt o [] sorted = tt
sorted_pairs lt o (e ∷ es) sorted = (
  recursion_from_All (NotLess lt e) es (λ k d less. sorted_far lt o (e ∷ es) sorted 0 (suc k) d (omega arith) (omega (arith, less))),
  sorted_pairs lt o es (λ k d low high.
      let count : suc k + 1 ≡ suc (k + 1) = omega arith in
      subst (λ (n : ℕ). lt (slice_index_or (e ∷ es) n d) (slice_index_or es k d) ≡ false) count (sorted (suc k) d (omega arith) (omega (arith, high)))),
)

-- what passes a test
kept_at : (p : Entry → Bool) (es : List Entry) (e : Entry) (k : ℕ) → p e ≡ true → k < length es → slice_index_or es k e ≡ e → Contains (filter p es) e
kept_at p [] e k passes less is = absurd (omega (arith, less))
kept_at p (x ∷ es) e zero passes less is =
    let here : p x ≡ true = ap p is ∙ passes in
    let first : Contains (x ∷ filter p es) e = (0, omega arith, is) in
    subst (λ (b : Bool). Contains (cond b (x ∷ filter p es) (filter p es)) e) (sym here) first
kept_at p (x ∷ es) e (suc k) passes less is =
    let rest : Contains (filter p es) e = kept_at p es e k passes (omega (arith, less)) is in
    cond_both (p x) (x ∷ filter p es) (filter p es) (λ (l : List Entry). Contains l e) (λ _. (suc rest.0, omega (arith, rest.1), rest.2)) (λ _. rest)

among_filter : (p : Entry → Bool) (ones others : List Entry) → Among ones others → Among (filter p ones) (filter p others)
among_filter p ones others among e has =
    let passes : p e ≡ true = All-contains (λ x. p x ≡ true) (filter p ones) e (filter_passes p ones) has in
    let inside : Contains ones e = All-contains (Contains ones) (filter p ones) e (All-filter p (Contains ones) ones (All-contains_itself ones)) has in
    let there = among e inside in
    kept_at p others e there.0 passes there.1 there.2

distinct_filter : (p : Entry → Bool) (es : List Entry) → IsDistinct same es → IsDistinct same (filter p es)
distinct_filter p [] distinct = distinct
distinct_filter p (e ∷ es) distinct =
    let rest = distinct_filter p es (IsDistinct-tail same e es distinct) in
    cond_both (p e) (e ∷ filter p es) (filter p es) (IsDistinct same)
    (λ _. IsDistinct-cons same e (filter p es) (each_filter (λ other. same e other ≡ false) p es (IsDistinct-head same e es distinct)) rest) (λ _. rest)

-- what passes a test stands as before, where it stood in the order of places
kept_alike : (p : Entry → Bool) (entries order : List Entry) → IsInOrder entries order → IsDistinct same entries → Sorted (filter p entries)
    → filter p order ≡ filter p entries
kept_alike p entries order ordered distinct sorted =
    let back = IsPermutation-sym entries order ordered.same in
    one_order (filter p order) (filter p entries)
    (IsSortedBy-filter below place_ranks p order ordered.sorted) sorted
    (distinct_filter p order (IsDistinct-IsPermutation same same_flips entries order ordered.same distinct)) (distinct_filter p entries distinct)
    (among_filter p order entries (among_orders order order entries (IsPermutation-refl order) back))
    (among_filter p entries order (among_orders entries entries order (IsPermutation-refl entries) ordered.same))

-- a frame of a later file, or a later one of the same
abbrev Later : Entry → Entry → Type 0
Later e f = ordering_then (nat_cmp f.place.file e.place.file) (nat_cmp f.place.number e.place.number) ≡ Greater

cmp_equal : (m n : ℕ) → m ≡ n → nat_cmp m n ≡ Equal
cmp_equal m n is = grind (arith, nat_tests)

cmp_greater : (m n : ℕ) → n < m → nat_cmp m n ≡ Greater
cmp_greater m n less = grind (arith, nat_tests)

number_later : (latest : Option ℤ) (file number : ℕ) (frame : Frame) (entry : Entry) → frame.number ≡ number → Beyond file (suc number) entry
    → Later (placed latest file frame) entry
number_later latest file number frame entry is beyond =
    ap (λ (o : Ordering). ordering_then o (nat_cmp entry.place.number frame.number)) (cmp_equal entry.place.file file beyond.0)
    ∙ cmp_greater entry.place.number frame.number (omega (arith, is, beyond.1))

placed_later : (latest : Option ℤ) (file number : ℕ) (frames : List Frame) → AreNumbered number frames → Pairs Later (placed_from latest file frames)
placed_later latest file number [] are = tt
placed_later latest file number (frame ∷ frames) are = (
  each_map {P = Beyond file (suc number)} {Q = Later (placed latest file frame)} (λ entry beyond. number_later latest file number frame entry are.0 beyond)
      (placed_from (option_or frame.time latest) file frames) (placed_beyond (option_or frame.time latest) file (suc number) frames are.1),
  placed_later (option_or frame.time latest) file (suc number) frames are.1,
)

file_later : (place : ℕ) (one other : Entry) → Beyond place 1 one → Behind (suc place) other → Later one other
file_later place one other beyond behind =
    ap (λ (o : Ordering). ordering_then o (nat_cmp other.place.number one.place.number))
    (cmp_greater other.place.file one.place.file (omega (arith, beyond.0, behind)))

all_later : (place : ℕ) (files : List (List ℕ)) → Pairs Later (all_placed place files)
all_later place [] = tt
all_later place (file ∷ files) =
    let these = placed_from None place (capture_of file).frames in
    let others = all_placed (suc place) files in
    pairs_append Later these others (placed_later None place 1 (capture_of file).frames (frames_are_numbered file)) (all_later (suc place) files)
    (each_map {P = Beyond place 1} {Q = λ one. Each (Later one) others}
    (λ one beyond. each_map {P = Behind (suc place)} {Q = Later one} (λ other behind. file_later place one other beyond behind) others (all_behind (suc place) files)) these
    (placed_beyond None place 1 (capture_of file).frames (frames_are_numbered file)))

-- sooner by the time
abbrev sooner : Entry → Entry → Bool
sooner one other = is_lt (time_cmp (time_of one) (time_of other))

time_total : IsTotalOrder time_cmp
time_total = options_total int_cmp_total

time_ranks : IsStrictWeakOrder sooner
time_ranks = ranks_by time_total time_of

-- what isn't sooner, and stands later, has no lower place
not_under : (one rest : Ordering) → is_lt one ≡ false → rest ≡ Greater → is_lt (ordering_then one rest) ≡ false
not_under Less rest h is = h
not_under Equal rest h is = ap is_lt is
not_under Greater rest h is = refl

in_order : (es : List Entry) → Pairs Later es → Pairs (NotLess sooner) es → Sorted es
in_order es later rises =
    pairs_sorted below es
    (pairs_both (NotLess sooner) Later (NotLess below)
    (λ e f time later. not_under (option_cmp int_cmp f.place.time e.place.time)
    (ordering_then (nat_cmp f.place.file e.place.file) (nat_cmp f.place.number e.place.number)) time later) es rises later)

-- and what has no lower place isn't sooner
time_first : (one rest : Ordering) → is_lt (ordering_then one rest) ≡ false → is_lt one ≡ false
time_first Less rest h = h
time_first Equal rest h = refl
time_first Greater rest h = refl

not_sooner : (one other : Entry) → below one other ≡ false → sooner one other ≡ false
not_sooner one other h =
    time_first (option_cmp int_cmp one.place.time other.place.time)
    (ordering_then (nat_cmp one.place.file other.place.file) (nat_cmp one.place.number other.place.number)) h

-- frames of one time
tie_parts : (a b : Bool) → (not a && not b) ≡ true → (a ≡ false) × (b ≡ false)
tie_parts false false h = (refl, refl)
tie_parts false true h = absurd (true≢false (sym h))
tie_parts true b h = absurd (true≢false (sym h))

tied : (x : Entry) (es : List Entry) → Pairs (NotLess sooner) (filter (ties sooner x) es)
tied x es =
    pairs_each (λ e. ties sooner x e ≡ true) (NotLess sooner)
    (λ e f one other. time_ranks.chain f x e (tie_parts (sooner x f) (sooner f x) other).1 (tie_parts (sooner x e) (sooner e x) one).0)
    (filter (ties sooner x) es)
    (recursion_from_All (λ e. ties sooner x e ≡ true) (filter (ties sooner x) es) (filter_passes (ties sooner x) es))

-- the frames of one file
filter_all : (p : Entry → Bool) (es : List Entry) → Each (λ e. p e ≡ true) es → filter p es ≡ es
filter_all p [] each = refl
filter_all p (e ∷ es) each =
    ap (λ (b : Bool). cond b (e ∷ filter p es) (filter p es)) each.0 ∙ ap (λ (l : List Entry). e ∷ l) (filter_all p es each.1)

filter_none : (p : Entry → Bool) (es : List Entry) → Each (λ e. p e ≡ false) es → filter p es ≡ []
filter_none p [] each = refl
filter_none p (e ∷ es) each =
    ap (λ (b : Bool). cond b (e ∷ filter p es) (filter p es)) each.0 ∙ filter_none p es each.1

is_same : (m n : ℕ) → m ≡ n → (m == n) ≡ true
is_same m n is = grind (arith, nat_tests)

is_other : (m n : ℕ) → n < m → (m == n) ≡ false
is_other m n less = grind (arith, nat_tests)

is_before : (m n : ℕ) → m < n → (m == n) ≡ false
is_before m n less = grind (arith, nat_tests)

some_same : (one other : List ℕ) → Some one ≡ Some other → one ≡ other
some_same one other is = ap (λ (o : Option (List ℕ)). unwrap_or o []) is

of_file : (first place n : ℕ) (files : List (List ℕ)) (file : List ℕ) → n ≡ first + place → slice_get files place ≡ Some file
    → filter (is_of n) (all_placed first files) ≡ placed_from None n (capture_of file).frames
of_file first place n [] file count is = absurd (cc is)
of_file first zero n (f ∷ files) file count is =
    let here : n ≡ first = omega (arith, count) in
    filter-append (is_of n) (placed_from None first (capture_of f).frames) (all_placed (suc first) files)
    ∙ ap (λ (l : List Entry). l ++ filter (is_of n) (all_placed (suc first) files))
    (filter_all (is_of n) (placed_from None first (capture_of f).frames)
    (each_map {P = Beyond first 1} {Q = λ e. is_of n e ≡ true} (λ e beyond. is_same e.place.file n (beyond.0 ∙ sym here))
    (placed_from None first (capture_of f).frames) (placed_beyond None first 1 (capture_of f).frames (frames_are_numbered f))))
    ∙ ap (λ (l : List Entry). placed_from None first (capture_of f).frames ++ l)
    (filter_none (is_of n) (all_placed (suc first) files)
    (each_map {P = Behind (suc first)} {Q = λ e. is_of n e ≡ false} (λ e behind. is_other e.place.file n (omega (arith, here, behind)))
    (all_placed (suc first) files) (all_behind (suc first) files)))
    ∙ append-nil (placed_from None first (capture_of f).frames)
    ∙ ap (λ (k : ℕ). placed_from None k (capture_of f).frames) (sym here)
    ∙ ap (λ (g : List ℕ). placed_from None n (capture_of g).frames) (some_same f file is)
of_file first (suc place) n (f ∷ files) file count is =
    filter-append (is_of n) (placed_from None first (capture_of f).frames) (all_placed (suc first) files)
    ∙ ap (λ (l : List Entry). l ++ filter (is_of n) (all_placed (suc first) files))
    (filter_none (is_of n) (placed_from None first (capture_of f).frames)
    (each_map {P = Beyond first 1} {Q = λ e. is_of n e ≡ false} (λ e beyond. is_before e.place.file n (omega (arith, count, beyond.0)))
    (placed_from None first (capture_of f).frames) (placed_beyond None first 1 (capture_of f).frames (frames_are_numbered f))))
    ∙ of_file (suc first) place n files file (omega (arith, count)) is

-- merged frames stand by their times
pub by_time : (files : List (List ℕ)) (order : List Entry) → IsInOrder (all_placed 0 files) order → IsByTime files order
by_time files order ordered =
    let distinct : IsDistinct same (all_placed 0 files) = all_distinct 0 files in
    record {
      each_once = ordered.same;
      ascending = λ k d low high. not_sooner (slice_index_or order (k + 1) d) (slice_index_or order k d) (ordered.sorted k d low high);
      stable = λ entry. kept_alike (ties sooner entry) (all_placed 0 files) order ordered distinct
          (in_order (filter (ties sooner entry) (all_placed 0 files)) (pairs_filter Later (ties sooner entry) (all_placed 0 files) (all_later 0 files)) (tied entry (all_placed 0 files)));
      kept = λ place file is sorted.
          let these : filter (is_of place) (all_placed 0 files) ≡ placed_from None place (capture_of file).frames = of_file 0 place place files file (omega arith) is in
          kept_alike (is_of place) (all_placed 0 files) order ordered distinct
          (subst Sorted (sym these) (in_order (placed_from None place (capture_of file).frames)
          (placed_later None place 1 (capture_of file).frames (frames_are_numbered file)) (sorted_pairs sooner time_ranks (placed_from None place (capture_of file).frames) sorted)))
          ∙ these;
    }

pub merged_by_time : (files : List (List ℕ)) (merged : List Frame) → IsMerged files merged → (order : List Entry) × IsByTime files order × (merged ≡ frames_of order)
merged_by_time files merged is = (is.order, by_time files is.order is.ordered, is.frames)
