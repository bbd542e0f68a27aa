-- What frames show doesn't rest on their numbers.
use Rattle.std.proofs.Common.{◌≡◌, ℕ, zero, suc, ◌+◌, ◌<◌, Bool, true, false, ◌&&◌, nat_eq, List, [], ◌∷◌, map, Option, Some, None, refl, sym, ap, subst, ◌∙◌, inl, inr, arith, ℤ, pos, ◌-ℤ◌}
use Rattle.std.specs.Prelude.{IsSome, if◌then◌else◌}
use Rattle.std.specs.FinMap.{get}
use Rattle.std.specs.Cmp.Lexicographic.{pointwise}
use Rattle.std.proofs.lemmas.Bool.{false≢true, cond-true, cond-false, lt-ltb, le-ltb, eq-eqb, ne_eqb, cases_order}
use Rattle.range_bytes.specs.Held.{Held, Cell, HoldsAll, byte_of, frame_of, bytes_at, frames_at, put_number, put_numbers}
use Rattle.tcp_streams.specs.declared.segment.Segment.{Segment}
use Rattle.tcp_streams.specs.Ways.{Sided}
use Rattle.tcp_streams.specs.Isolation.{IsSameCell, IsPair}
use Rattle.stream_messages.specs.declared.placed.Placed.{Placed}
use Rattle.stream_messages.specs.Tellings.{end_of}
use Rattle.stream_messages.specs.Messages.{end_at}
use Rattle.tcp_messages.specs.declared.met.Gathered.{Gathered}
use Rattle.tcp_messages.specs.declared.met.ShownMessage.{ShownMessage}
use Rattle.tcp_messages.specs.declared.met.Source.{Source}
use Rattle.tcp_messages.specs.declared.met.Source.TheVariants as sources
use Rattle.tcp_messages.specs.Shown.{distance, frames_in, frames_told, gathered, located, place_of, source_at, source_of}
use Rattle.tcp_messages.specs.Renumbered.{renumbered, source_renumbered, shown_renumbered}
use Rattle.tcp_messages.proofs.Matching.{sides_renumbered}
use Rattle.tcp_messages.proofs.InHeld.{AreIn}

-- ---- ascending lists of numbers that keep their order

abbrev pub AllOf : (ℕ → Type 0) → List ℕ → Type 0
AllOf P [] = Unit {0}
AllOf P (x ∷ xs) = P x × AllOf P xs

abbrev pub Keeps : (ℕ → ℕ) → (ℕ → Type 0) → Type 0
Keeps r P = (low high : ℕ) → P low → P high → low < high → r low < r high

pub put_before : (x y : ℕ) (ys : List ℕ) → x < y → put_number x (y ∷ ys) ≡ x ∷ y ∷ ys
put_before x y ys low = cond-true _ _ _ (lt-ltb x y low)

pub put_same : (x y : ℕ) (ys : List ℕ) → x ≡ y → put_number x (y ∷ ys) ≡ y ∷ ys
put_same x y ys same = cond-false _ _ _ (le-ltb x y (omega arith)) ∙ cond-true _ _ _ (eq-eqb x y same)

pub put_behind : (x y : ℕ) (ys : List ℕ) → y < x → put_number x (y ∷ ys) ≡ y ∷ put_number x ys
put_behind x y ys high = cond-false _ _ _ (le-ltb x y (omega arith)) ∙ cond-false _ _ _ (ne_eqb x y (λ e. absurd (omega arith)))

put_all : (P : ℕ → Type 0) (x : ℕ) (ys : List ℕ) → P x → AllOf P ys → AllOf P (put_number x ys)
put_all P x [] p all = (p, tt)
put_all P x (y ∷ ys) p all = elim (cases_order x y) [
  | inl same ↦ subst (AllOf P) (sym (put_same x y ys same)) all
  | inr (inl low) ↦ subst (AllOf P) (sym (put_before x y ys low)) (p, all)
  | inr (inr high) ↦ subst (AllOf P) (sym (put_behind x y ys high)) (all.0, put_all P x ys p all.1)
]

put_renumbered : (r : ℕ → ℕ) (P : ℕ → Type 0) → Keeps r P → (x : ℕ) (ys : List ℕ) → P x → AllOf P ys → put_number (r x) (map r ys) ≡ map r (put_number x ys)
put_renumbered r P keeps x [] p all = refl
put_renumbered r P keeps x (y ∷ ys) p all = elim (cases_order x y) [
  | inl same ↦ put_same (r x) (r y) (map r ys) (ap r same) ∙ sym (ap (map r) (put_same x y ys same))
  | inr (inl low) ↦ put_before (r x) (r y) (map r ys) (keeps x y p all.0 low) ∙ sym (ap (map r) (put_before x y ys low))
  | inr (inr high) ↦
      put_behind (r x) (r y) (map r ys) (keeps y x all.0 p high) ∙ ap (λ (zs : List ℕ). r y ∷ zs) (put_renumbered r P keeps x ys p all.1)
      ∙ sym (ap (map r) (put_behind x y ys high))
]

all_put_all : (P : ℕ → Type 0) (xs ys : List ℕ) → AllOf P xs → AllOf P ys → AllOf P (put_numbers xs ys)
all_put_all P [] ys some all = all
all_put_all P (x ∷ xs) ys some all = put_all P x (put_numbers xs ys) some.0 (all_put_all P xs ys some.1 all)

all_put_renumbered : (r : ℕ → ℕ) (P : ℕ → Type 0) → Keeps r P → (xs ys : List ℕ) → AllOf P xs → AllOf P ys
    → put_numbers (map r xs) (map r ys) ≡ map r (put_numbers xs ys)
all_put_renumbered r P keeps [] ys some all = refl
all_put_renumbered r P keeps (x ∷ xs) ys some all =
    ap (put_number (r x)) (all_put_renumbered r P keeps xs ys some.1 all) ∙ put_renumbered r P keeps x (put_numbers xs ys) some.0 (all_put_all P xs ys some.1 all)

same_test : (r : ℕ → ℕ) (P : ℕ → Type 0) → Keeps r P → (x y : ℕ) → P x → P y → nat_eq (r x) (r y) ≡ nat_eq x y
same_test r P keeps x y p q = elim (cases_order x y) [
  | inl same ↦ eq-eqb (r x) (r y) (ap r same) ∙ sym (eq-eqb x y same)
  | inr (inl low) ↦
      let less : r x < r y = keeps x y p q low in
      ne_eqb (r x) (r y) (λ e. absurd (omega (arith, less, e))) ∙ sym (ne_eqb x y (λ e. absurd (omega (arith, low, e))))
  | inr (inr high) ↦
      let more : r y < r x = keeps y x q p high in
      ne_eqb (r x) (r y) (λ e. absurd (omega (arith, more, e))) ∙ sym (ne_eqb x y (λ e. absurd (omega (arith, high, e))))
]

one_test : (r : ℕ → ℕ) (P : ℕ → Type 0) → Keeps r P → (xs : List ℕ) (f : ℕ) → AllOf P xs → P f
    → pointwise nat_eq (map r xs) (r f ∷ []) ≡ pointwise nat_eq xs (f ∷ [])
one_test r P keeps [] f all p = refl
one_test r P keeps (x ∷ []) f all p = ap (λ (b : Bool). b && true) (same_test r P keeps x f all.0 p)
one_test r P keeps (x ∷ y ∷ ys) f all p = ap (λ (b : Bool). b && false) (same_test r P keeps x f all.0 p)

-- ---- what is held, by segments of other frames

abbrev pub AllFrames : (ℕ → Type 0) → List Sided → Type 0
AllFrames P [] = Unit {0}
AllFrames P (l ∷ ls) = P l.segment.frame × AllFrames P ls

pair_is : (r : ℕ → ℕ) (P : ℕ → Type 0) (ls : List Sided) (f g : ℕ) → AllFrames P ls → IsPair ls (sides_renumbered r ls) f g → P f × (g ≡ r f)
pair_is r P [] f g all pair = absurd pair
pair_is r P (l ∷ ls) f g all (inl here) = (subst P here.0 all.0, sym here.1 ∙ ap r here.0)
pair_is r P (l ∷ ls) f g all (inr there) = pair_is r P ls f g all.1 there

cell_frame : (r : ℕ → ℕ) (P : ℕ → Type 0) (ls : List Sided) (c d : Option Cell) → AllFrames P ls → IsSome c → IsSameCell ls (sides_renumbered r ls) c d
    → P (frame_of c) × (frame_of d ≡ r (frame_of c))
cell_frame r P ls None None all some same = absurd (false≢true some)
cell_frame r P ls (Some c) (Some d) all some same = pair_is r P ls c.1 d.1 all same.1
cell_frame r P ls None (Some d) all some same = absurd same
cell_frame r P ls (Some c) None all some same = absurd same

cell_byte : (ls ms : List Sided) (c d : Option Cell) → IsSameCell ls ms c d → byte_of d ≡ byte_of c
cell_byte ls ms None None same = refl
cell_byte ls ms (Some c) (Some d) same = sym same.0
cell_byte ls ms None (Some d) same = absurd same
cell_byte ls ms (Some c) None same = absurd same

-- bytes that the segments brought, and the same segments with other frames
pub record IsSameHeld (r : ℕ → ℕ) (P : ℕ → Type 0) (ls : List Sided) (held other : Held) : Type 0 where
  pub cells : (p : ℕ) → IsSameCell ls (sides_renumbered r ls) (get held p) (get other p)
  pub frames : AllFrames P ls

same_bytes : (r : ℕ → ℕ) (P : ℕ → Type 0) (ls : List Sided) (held other : Held) (from n : ℕ) → IsSameHeld r P ls held other → bytes_at other from n ≡ bytes_at held from n
same_bytes r P ls held other from zero same = refl
same_bytes r P ls held other from (suc n) same =
    λ i. cell_byte ls (sides_renumbered r ls) (get held from) (get other from) (same.cells from) i ∷ same_bytes r P ls held other (from + 1) n same i

record AreSameFrames (r : ℕ → ℕ) (P : ℕ → Type 0) (xs ys : List ℕ) : Type 0 where
  all : AllOf P xs
  is : ys ≡ map r xs

same_frames : (r : ℕ → ℕ) (P : ℕ → Type 0) → Keeps r P → (ls : List Sided) (held other : Held) (from n : ℕ) → IsSameHeld r P ls held other → HoldsAll held from (from + n)
    → AreSameFrames r P (frames_at held from n) (frames_at other from n)
same_frames r P keeps ls held other from zero same run = record { all = tt; is = refl }
same_frames r P keeps ls held other from (suc n) same run =
    let first = cell_frame r P ls (get held from) (get other from) same.frames (run from (omega arith) (omega arith)) (same.cells from) in
    let rest = same_frames r P keeps ls held other (from + 1) n same (λ q a b. run q (omega (arith, a)) (omega (arith, b))) in
    record {
      all = put_all P (frame_of (get held from)) (frames_at held (from + 1) n) first.0 rest.all;
      is = (λ i. put_number (first.1 i) (rest.is i)) ∙ put_renumbered r P keeps (frame_of (get held from)) (frames_at held (from + 1) n) first.0 rest.all;
    }

-- ---- messages

source_case : (r : ℕ → ℕ) (b : Bool) (g : Gathered) (place : Option ℕ)
    → (if b then source_at (record { bytes = g.bytes; frames = map r g.frames }) place else sources.Gathered (record { bytes = g.bytes; frames = map r g.frames }))
    ≡ source_renumbered r (if b then source_at g place else sources.Gathered g)
source_case r true g None = refl
source_case r true g (Some place) = refl
source_case r false g place = refl

source_same : (r : ℕ → ℕ) (P : ℕ → Type 0) → Keeps r P → (payload : List ℕ) (frame : ℕ) (g : Gathered) (place : Option ℕ) → P frame → AllOf P g.frames
    → source_of payload (r frame) (record { bytes = g.bytes; frames = map r g.frames }) place ≡ source_renumbered r (source_of payload frame g place)
source_same r P keeps payload frame g place p all =
    ap (λ (b : Bool). if b then source_at (record { bytes = g.bytes; frames = map r g.frames }) (place_of payload g.bytes place) else sources.Gathered (record { bytes = g.bytes; frames = map r g.frames }))
    (one_test r P keeps g.frames frame all p)
    ∙ source_case r (pointwise nat_eq g.frames (frame ∷ [])) g (place_of payload g.bytes place)

gathered_same : (r : ℕ → ℕ) (P : ℕ → Type 0) → Keeps r P → (ls : List Sided) (held other : Held) (m : Placed) → IsSameHeld r P ls held other → HoldsAll held m.at (end_at m)
    → gathered other m ≡ record { bytes = (gathered held m).bytes; frames = map r (gathered held m).frames }
gathered_same r P keeps ls held other m same run =
    λ i. record {
      bytes = same_bytes r P ls held other m.at (end_of m.told) same i;
      frames = (same_frames r P keeps ls held other m.at (end_of m.told) same run).is i;
    }

located_same : (r : ℕ → ℕ) (P : ℕ → Type 0) → Keeps r P → (ls : List Sided) (held other : Held) (s : Segment) (position : ℤ) (m : Placed) → IsSameHeld r P ls held other
    → P s.frame → HoldsAll held m.at (end_at m) → located other (renumbered r s) position m ≡ shown_renumbered r (located held s position m)
located_same r P keeps ls held other s position m same p run =
    let g : Gathered = gathered held m in
    let all : AllOf P g.frames = (same_frames r P keeps ls held other m.at (end_of m.told) same run).all in
    ap (λ (x : Gathered). record { message = m; source = source_of s.payload (r s.frame) x (distance (pos m.at -ℤ position)) }) (gathered_same r P keeps ls held other m same run)
    ∙ ap (λ (x : Source). record { message = m; source = x }) (source_same r P keeps s.payload s.frame g (distance (pos m.at -ℤ position)) p all)

source_frames : (P : ℕ → Type 0) (payload : List ℕ) (frame : ℕ) (g : Gathered) (place : Option ℕ) → AllOf P g.frames → AllOf P (frames_in (source_of payload frame g place))
source_frames P payload frame g place all = by (pointwise nat_eq g.frames (frame ∷ [])) (place_of payload g.bytes place)
  where
    by : (b : Bool) (o : Option ℕ) → AllOf P (frames_in (if b then source_at g o else sources.Gathered g))
    by true None = all
    by true (Some at) = tt
    by false o = all

-- those of a frame
abbrev pub AllIn : (ℕ → Type 0) → List ShownMessage → Type 0
AllIn P [] = Unit {0}
AllIn P (m ∷ ms) = AllOf P (frames_in m.source) × AllIn P ms

pub record AreLocated (r : ℕ → ℕ) (P : ℕ → Type 0) (shown other : List ShownMessage) : Type 0 where
  pub all : AllIn P shown
  pub is : other ≡ map (shown_renumbered r) shown

pub all_located : (r : ℕ → ℕ) (P : ℕ → Type 0) → Keeps r P → (ls : List Sided) (held other : Held) (s : Segment) (position : ℤ) (ms : List Placed) → IsSameHeld r P ls held other
    → P s.frame → AreIn held ms → AreLocated r P (map (located held s position) ms) (map (located other (renumbered r s) position) ms)
all_located r P keeps ls held other s position [] same p runs = record { all = tt; is = refl }
all_located r P keeps ls held other s position (m ∷ ms) same p runs =
    let rest = all_located r P keeps ls held other s position ms same p runs.1 in
    record {
      all = (
        source_frames P s.payload s.frame (gathered held m) (distance (pos m.at -ℤ position)) (same_frames r P keeps ls held other m.at (end_of m.told) same runs.0).all,
        rest.all,
      );
      is = λ i. located_same r P keeps ls held other s position m same p runs.0 i ∷ rest.is i;
    }

frames_in_same : (r : ℕ → ℕ) (source : Source) → frames_in (source_renumbered r source) ≡ map r (frames_in source)
frames_in_same r (sources.Segment place) = refl
frames_in_same r (sources.Gathered g) = refl

told_all : (P : ℕ → Type 0) (ms : List ShownMessage) → AllIn P ms → AllOf P (frames_told ms)
told_all P [] all = tt
told_all P (m ∷ ms) all = all_put_all P (frames_in m.source) (frames_told ms) all.0 (told_all P ms all.1)

pub told_same : (r : ℕ → ℕ) (P : ℕ → Type 0) → Keeps r P → (ms : List ShownMessage) → AllIn P ms → frames_told (map (shown_renumbered r) ms) ≡ map r (frames_told ms)
told_same r P keeps [] all = refl
told_same r P keeps (m ∷ ms) all =
    (λ i. put_numbers (frames_in_same r m.source i) (told_same r P keeps ms all.1 i))
    ∙ all_put_renumbered r P keeps (frames_in m.source) (frames_told ms) all.0 (told_all P ms all.1)
