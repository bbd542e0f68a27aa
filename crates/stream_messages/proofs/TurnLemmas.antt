-- What stands at a place in a list of chunks, when more bytes come.
use Rattle.std.proofs.Common.{◌≡◌, ℕ, ◌+◌, ◌-◌, ◌<◌, ◌≤◌, Bool, true, false, ◌||◌, List, ◌++◌, length, take, drop, refl, sym, ap, ◌∙◌, subst, arith, length-drop, Option, Some, None}
use Rattle.std.specs.Prelude.{◌==◌, nat_le, nat_lt, if◌then◌else◌}
use Rattle.std.proofs.lemmas.Bool.{cond-true, cond-false, cond_both}
use Rattle.std.proofs.lemmas.List.{take-append-le}
use Rattle.stream_messages.specs.declared.lines.Line.{Line}
use Rattle.stream_messages.specs.declared.lines.Line.TheVariants.{Whole, Short, Wrong}
use Rattle.stream_messages.specs.declared.chunks.Place.{Place}
use Rattle.stream_messages.specs.declared.chunks.Turn.{Turn}
use Rattle.stream_messages.specs.declared.chunks.Turn.TheVariants.{Chunk, Last, Long, Trailing, End, Waits, Fails}
use Rattle.stream_messages.specs.Limits.{body_limit, line_limit, trailer_limit}
use Rattle.stream_messages.specs.Lines.{crlf_at, line_of, size_in}
use Rattle.stream_messages.specs.Chunks.{trailing_turn, data_turn, sized, size_turn, turn_at}
use Rattle.stream_messages.specs.ChunkFacts.{TurnFits}
use Rattle.stream_messages.proofs.TextLemmas.{drop_append, crlf_on, crlf_back, crlf_whole, line_on, line_whole, line_back}

-- a turn that more bytes don't change
abbrev pub IsSettled : Turn → Type 0
IsSettled (Chunk line size) = Unit {0}
IsSettled (Last line) = Unit {0}
IsSettled (Long line) = Unit {0}
IsSettled (Trailing line) = Unit {0}
IsSettled End = Unit {0}
IsSettled Waits = ⊥
IsSettled Fails = Unit {0}

-- a turn that reads bytes, and how many it reads
abbrev pub Reads : Turn → Type 0
Reads (Chunk line size) = Unit {0}
Reads (Last line) = Unit {0}
Reads (Long line) = Unit {0}
Reads (Trailing line) = Unit {0}
Reads End = Unit {0}
Reads Waits = ⊥
Reads Fails = ⊥

abbrev pub span : Turn → ℕ
span (Chunk line size) = line + size + 2
span (Last line) = line
span (Long line) = line
span (Trailing line) = line
span End = 2
span Waits = 0
span Fails = 0

-- ---- more bytes

data_on : (line size : ℕ) (xs ys : List ℕ) (t : Turn) (l : Line) → IsSettled t → crlf_at (line + size) (drop (line + size) xs) ≡ l → data_turn line size l ≡ t
    → data_turn line size (crlf_at (line + size) (drop (line + size) (xs ++ ys))) ≡ t
data_on line size xs ys t Short settled at e = absurd (subst IsSettled (sym e) settled)
data_on line size xs ys t (Whole n) settled at e =
    ap (λ (bs : List ℕ). data_turn line size (crlf_at (line + size) bs)) (drop_append (line + size) xs ys)
    ∙ ap (data_turn line size) (crlf_on (line + size) (drop (line + size) xs) (drop (line + size - length xs) ys) (Whole n) tt at) ∙ e
data_on line size xs ys t Wrong settled at e =
    ap (λ (bs : List ℕ). data_turn line size (crlf_at (line + size) bs)) (drop_append (line + size) xs ys)
    ∙ ap (data_turn line size) (crlf_on (line + size) (drop (line + size) xs) (drop (line + size - length xs) ys) Wrong tt at) ∙ e

sized_on : (sum line : ℕ) (xs ys : List ℕ) (t : Turn) (o : Option ℕ) → IsSettled t → sized sum line xs o ≡ t → sized sum line (xs ++ ys) o ≡ t
sized_on sum line xs ys t None settled e = e
sized_on sum line xs ys t (Some size) settled e = by (size == 0) refl
  where
    behind : Bool → Turn
    behind past = if past then Long line else data_turn line size (crlf_at (line + size) (drop (line + size) xs))

    past_or : (c : Bool) → nat_lt body_limit (sum + size) ≡ c → (size == 0) ≡ false → sized sum line (xs ++ ys) (Some size) ≡ t
    past_or true past other =
        cond-false _ _ _ other ∙ cond-true _ _ _ past
        ∙ sym (cond-true _ _ _ past) ∙ sym (cond-false _ _ _ other) ∙ e
    past_or false within other =
        cond-false _ _ _ other ∙ cond-false _ _ _ within
        ∙ data_on line size xs ys t _ settled refl (sym (cond-false _ _ _ within) ∙ sym (cond-false _ _ _ other) ∙ e)

    by : (c : Bool) → (size == 0) ≡ c → sized sum line (xs ++ ys) (Some size) ≡ t
    by true none = cond-true _ _ _ none ∙ sym (cond-true _ _ _ none) ∙ e
    by false other = past_or (nat_lt body_limit (sum + size)) refl other

size_on : (sum text : ℕ) (xs ys : List ℕ) (t : Turn) (l : Line) → IsSettled t → line_of line_limit text xs ≡ l → size_turn sum xs l ≡ t
    → size_turn sum (xs ++ ys) (line_of line_limit text (xs ++ ys)) ≡ t
size_on sum text xs ys t Short settled at e = absurd (subst IsSettled (sym e) settled)
size_on sum text xs ys t Wrong settled at e = ap (size_turn sum (xs ++ ys)) (line_on line_limit text xs ys Wrong tt at) ∙ e
size_on sum text xs ys t (Whole n) settled at e =
    let whole = line_whole line_limit text xs n at in
    let inside : n ≤ length xs = omega (arith, whole.inside) in
    ap (size_turn sum (xs ++ ys)) (line_on line_limit text xs ys (Whole n) tt at)
    ∙ ap (λ (line : List ℕ). sized sum (n + 2) (xs ++ ys) (size_in line)) (take-append-le n xs ys inside)
    ∙ sized_on sum (n + 2) xs ys t (size_in (take n xs)) settled e

trailing_on : (most text : ℕ) (xs ys : List ℕ) (t : Turn) (l : Line) → IsSettled t → line_of most text xs ≡ l → trailing_turn l ≡ t
    → trailing_turn (line_of most text (xs ++ ys)) ≡ t
trailing_on most text xs ys t Short settled at e = absurd (subst IsSettled (sym e) settled)
trailing_on most text xs ys t Wrong settled at e = ap trailing_turn (line_on most text xs ys Wrong tt at) ∙ e
trailing_on most text xs ys t (Whole n) settled at e = ap trailing_turn (line_on most text xs ys (Whole n) tt at) ∙ e

pub turn_on : (place : Place) (xs ys : List ℕ) (t : Turn) → IsSettled t → turn_at place xs ≡ t → turn_at place (xs ++ ys) ≡ t
unfolding turn_at
turn_on place xs ys t settled e = by place.trailer refl
  where
    by : (c : Bool) → place.trailer ≡ c → turn_at place (xs ++ ys) ≡ t
    by true trailer = cond-true _ _ _ trailer ∙ trailing_on (trailer_limit - place.used) place.text xs ys t _ settled refl (sym (cond-true _ _ _ trailer) ∙ e)
    by false other = cond-false _ _ _ other ∙ size_on place.sum place.text xs ys t _ settled refl (sym (cond-false _ _ _ other) ∙ e)

-- ---- fewer bytes

line_span : (sum line : ℕ) (bytes : List ℕ) (t : Turn) (o : Option ℕ) → Reads t → sized sum line bytes o ≡ t → line ≤ span t
line_span sum line bytes t None reads e = absurd (subst Reads (sym e) reads)
line_span sum line bytes t (Some size) reads e = by (size == 0) refl
  where
    data_span : (l : Line) → data_turn line size l ≡ t → line ≤ span t
    data_span (Whole n) is = subst (λ (t : Turn). line ≤ span t) is (omega arith)
    data_span Short is = absurd (subst Reads (sym is) reads)
    data_span Wrong is = absurd (subst Reads (sym is) reads)

    past_or : (c : Bool) → nat_lt body_limit (sum + size) ≡ c → (size == 0) ≡ false → line ≤ span t
    past_or true past other =
        let is : Long line ≡ t = sym (cond-true _ _ _ past) ∙ sym (cond-false _ _ _ other) ∙ e in
        subst (λ (t : Turn). line ≤ span t) is (omega arith)
    past_or false within other = data_span _ (sym (cond-false _ _ _ within) ∙ sym (cond-false _ _ _ other) ∙ e)

    by : (c : Bool) → (size == 0) ≡ c → line ≤ span t
    by true none =
        let is : Last line ≡ t = sym (cond-true _ _ _ none) ∙ e in
        subst (λ (t : Turn). line ≤ span t) is (omega arith)
    by false other = past_or (nat_lt body_limit (sum + size)) refl other

data_back : (line size : ℕ) (xs ys : List ℕ) (t : Turn) (l : Line) → Reads t → crlf_at (line + size) (drop (line + size) (xs ++ ys)) ≡ l → data_turn line size l ≡ t
    → span t ≤ length xs → data_turn line size (crlf_at (line + size) (drop (line + size) xs)) ≡ t
data_back line size xs ys t Short reads at e room = absurd (subst Reads (sym e) reads)
data_back line size xs ys t Wrong reads at e room = absurd (subst Reads (sym e) reads)
data_back line size xs ys t (Whole n) reads at e room =
    let fits : line + size + 2 ≤ length xs = subst (λ (t : Turn). span t ≤ length xs) (sym e) room in
    let two : 2 ≤ length (drop (line + size) xs) = omega (arith, length-drop (line + size) xs) in
    ap (data_turn line size) (sym (crlf_back (line + size) (drop (line + size) xs) (drop (line + size - length xs) ys) two)
    ∙ sym (ap (crlf_at (line + size)) (drop_append (line + size) xs ys)) ∙ at) ∙ e

sized_back : (sum line : ℕ) (xs ys : List ℕ) (t : Turn) (o : Option ℕ) → Reads t → sized sum line (xs ++ ys) o ≡ t → span t ≤ length xs → sized sum line xs o ≡ t
sized_back sum line xs ys t None reads e room = e
sized_back sum line xs ys t (Some size) reads e room = by (size == 0) refl
  where
    past_or : (c : Bool) → nat_lt body_limit (sum + size) ≡ c → (size == 0) ≡ false → sized sum line xs (Some size) ≡ t
    past_or true past other =
        cond-false _ _ _ other ∙ cond-true _ _ _ past
        ∙ sym (cond-true _ _ _ past) ∙ sym (cond-false _ _ _ other) ∙ e
    past_or false within other =
        cond-false _ _ _ other ∙ cond-false _ _ _ within
        ∙ data_back line size xs ys t _ reads refl (sym (cond-false _ _ _ within) ∙ sym (cond-false _ _ _ other) ∙ e) room

    by : (c : Bool) → (size == 0) ≡ c → sized sum line xs (Some size) ≡ t
    by true none = cond-true _ _ _ none ∙ sym (cond-true _ _ _ none) ∙ e
    by false other = past_or (nat_lt body_limit (sum + size)) refl other

size_back : (sum text : ℕ) (xs ys : List ℕ) (t : Turn) (l : Line) → Reads t → line_of line_limit text (xs ++ ys) ≡ l → size_turn sum (xs ++ ys) l ≡ t
    → span t ≤ length xs → size_turn sum xs (line_of line_limit text xs) ≡ t
size_back sum text xs ys t Short reads at e room = absurd (subst Reads (sym e) reads)
size_back sum text xs ys t Wrong reads at e room = absurd (subst Reads (sym e) reads)
size_back sum text xs ys t (Whole n) reads at e room =
    let fits : n + 2 ≤ length xs = omega (arith, room, line_span sum (n + 2) (xs ++ ys) t (size_in (take n (xs ++ ys))) reads e) in
    let inside : n ≤ length xs = omega arith in
    ap (size_turn sum xs) (line_back line_limit text xs ys n at fits)
    ∙ sized_back sum (n + 2) xs ys t (size_in (take n xs)) reads
    (sym (ap (λ (line : List ℕ). sized sum (n + 2) (xs ++ ys) (size_in line)) (take-append-le n xs ys inside)) ∙ e) room

trailing_span : (n : ℕ) (t : Turn) → trailing_turn (Whole n) ≡ t → n + 2 ≤ span t
trailing_span n t e = by (n == 0) refl
  where
    is_none : (n : ℕ) → (n == 0) ≡ true → n ≡ 0
    is_none n e = grind arith

    by : (c : Bool) → (n == 0) ≡ c → n + 2 ≤ span t
    by true none =
        let is : End ≡ t = sym (cond-true _ _ _ none) ∙ e in
        subst (λ (t : Turn). n + 2 ≤ span t) is (omega (arith, is_none n none))
    by false other =
        let is : Trailing (n + 2) ≡ t = sym (cond-false _ _ _ other) ∙ e in
        subst (λ (t : Turn). n + 2 ≤ span t) is (omega arith)

trailing_back : (most text : ℕ) (xs ys : List ℕ) (t : Turn) (l : Line) → Reads t → line_of most text (xs ++ ys) ≡ l → trailing_turn l ≡ t
    → span t ≤ length xs → trailing_turn (line_of most text xs) ≡ t
trailing_back most text xs ys t Short reads at e room = absurd (subst Reads (sym e) reads)
trailing_back most text xs ys t Wrong reads at e room = absurd (subst Reads (sym e) reads)
trailing_back most text xs ys t (Whole n) reads at e room =
    ap trailing_turn (line_back most text xs ys n at (omega (arith, trailing_span n t e, room))) ∙ e

pub turn_back : (place : Place) (xs ys : List ℕ) (t : Turn) → Reads t → turn_at place (xs ++ ys) ≡ t → span t ≤ length xs → turn_at place xs ≡ t
unfolding turn_at
turn_back place xs ys t reads e room = by place.trailer refl
  where
    by : (c : Bool) → place.trailer ≡ c → turn_at place xs ≡ t
    by true trailer = cond-true _ _ _ trailer ∙ trailing_back (trailer_limit - place.used) place.text xs ys t _ reads refl (sym (cond-true _ _ _ trailer) ∙ e) room
    by false other = cond-false _ _ _ other ∙ size_back place.sum place.text xs ys t _ reads refl (sym (cond-false _ _ _ other) ∙ e) room

-- ---- how large a turn is

data_fits : (place : Place) (line size : ℕ) (bytes : List ℕ) (l : Line) → 2 ≤ line → 0 < size → place.sum + size ≤ body_limit
    → crlf_at (line + size) (drop (line + size) bytes) ≡ l → TurnFits place (length bytes) (data_turn line size l)
data_fits place line size bytes Short two some within at = tt
data_fits place line size bytes Wrong two some within at = tt
data_fits place line size bytes (Whole n) two some within at =
    let whole = crlf_whole (line + size) n (drop (line + size) bytes) at in
    (two, omega (arith, whole.1, length-drop (line + size) bytes), within, some)

sized_fits : (place : Place) (line : ℕ) (bytes : List ℕ) (o : Option ℕ) → 2 ≤ line → line ≤ length bytes → TurnFits place (length bytes) (sized place.sum line bytes o)
sized_fits place line bytes None two room = tt
sized_fits place line bytes (Some size) two room =
    cond_both _ _ _ (TurnFits place (length bytes)) (λ none. (two, room))
    (λ other. cond_both _ _ _ (TurnFits place (length bytes)) (λ past. (two, room))
    (λ within. data_fits place line size bytes _ two (some size other) (below (place.sum + size) body_limit within) refl))
  where
    some : (n : ℕ) → (n == 0) ≡ false → 0 < n
    some n e = grind arith

    below : (a b : ℕ) → nat_lt b a ≡ false → a ≤ b
    below a b e = grind arith

size_fits : (place : Place) (bytes : List ℕ) (l : Line) → line_of line_limit place.text bytes ≡ l → TurnFits place (length bytes) (size_turn place.sum bytes l)
size_fits place bytes Short at = tt
size_fits place bytes Wrong at = tt
size_fits place bytes (Whole n) at =
    sized_fits place (n + 2) bytes (size_in (take n bytes)) (omega arith) (line_whole line_limit place.text bytes n at).inside

trailing_fits : (place : Place) (bytes : List ℕ) (l : Line) → line_of (trailer_limit - place.used) place.text bytes ≡ l → TurnFits place (length bytes) (trailing_turn l)
trailing_fits place bytes Short at = tt
trailing_fits place bytes Wrong at = tt
trailing_fits place bytes (Whole n) at =
    let whole = line_whole (trailer_limit - place.used) place.text bytes n at in
    let inside = whole.inside in
    let two : 2 ≤ length bytes = omega arith in
    cond_both (n == 0) End (Trailing (n + 2)) (TurnFits place (length bytes)) (λ none. two)
    (λ other. (two_more n, inside, kept n place.used trailer_limit (left n (trailer_limit - place.used) other whole.short)))
  where
    two_more : (n : ℕ) → 2 ≤ n + 2
    two_more n = omega arith

    kept : (n used most : ℕ) → n + 2 ≤ most - used → used + (n + 2) ≤ most
    kept n used most less = omega arith

    left : (n most : ℕ) → (n == 0) ≡ false → (n == 0 || nat_le (n + 2) most) ≡ true → n + 2 ≤ most
    left n most other e = grind arith

pub turn_fits : (place : Place) (bytes : List ℕ) → TurnFits place (length bytes) (turn_at place bytes)
unfolding turn_at
turn_fits place bytes =
    cond_both _ _ _ (TurnFits place (length bytes)) (λ trailer. trailing_fits place bytes _ refl) (λ other. size_fits place bytes _ refl)
