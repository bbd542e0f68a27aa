-- What is kept beside fragments answers for all of them.
use Rattle.std.proofs.Common.{◌≡◌, ◌==◌, ℕ, ◌<◌, ◌≤◌, max, min, Bool, true, false, cond, if◌then◌else◌, not, ◌&&◌, ◌||◌, ltb, leb, List, [], ◌∷◌, ◌++◌, length, Option, None, Some, is_some, refl, sym, ap, ◌∙◌, inl, inr, arith}
use Rattle.std.specs.Option.{option_or}
use Rattle.std.specs.List.{list_any}
use Rattle.std.specs.Str.{bytes_eq}
use Rattle.std.specs.FinMap.{get, empty, get-empty}
use Rattle.std.specs.Ordering.{nat_cmp}
use Rattle.std.proofs.lemmas.Bool.{cases_Bool, cases_lt, cond-true, cond-false, and_parts, and_from, false≢true, eqb-true, eq-eqb, lt-ltb, le-ltb, ltb-true, le-leb, leb-true}
use Rattle.std.proofs.lemmas.Slice.Eq.{bytes_eq-Decides}
use Rattle.range_bytes.specs.Held.{Cell, Held, put_run, run_cell, IsFirstHeld}
use Rattle.range_bytes.proofs.Runs.{get-put_run, some_is}
use Rattle.ip_join.specs.declared.fragment.Fragment.{Fragment}
use Rattle.ip_join.specs.Fragments.{end_of, overlaps, repeats, reaches_past, put_fragments, map_of, known_end}
use Rattle.ip_join.specs.Datagrams.{misses_end, has_two_ends}
use Rattle.ip_join.specs.Kept.{has_bytes, last_end, first_copy, AreFirstIn, AreFirst, AreShort}

-- which positions are held
abbrev pub covers : ℕ → Fragment → Bool
covers q g = leb g.head.offset q && ltb q (end_of g)

or_false : (b : Bool) → (b || false) ≡ b
or_false true = refl
or_false false = refl

none_some : {X : Type 0} (x : X) → None ≡ Some x → ⊥
none_some x same = false≢true (ap is_some same)

some_or : (a b : Option Cell) → is_some (option_or a b) ≡ (is_some a || is_some b)
some_or None b = refl
some_or (Some x) b = refl

some_if : (b : Bool) (c : Cell) → is_some (cond b (Some c) None) ≡ b
some_if true c = refl
some_if false c = refl

or_assoc : (a b c : Bool) → ((a || b) || c) ≡ (a || (b || c))
or_assoc true b c = refl
or_assoc false b c = refl

put_covers : (held : Held) (gs : List Fragment) (q : ℕ) → is_some (get (put_fragments held gs) q) ≡ (is_some (get held q) || list_any (covers q) gs)
put_covers held [] q = sym (or_false (is_some (get held q)))
put_covers held (g ∷ gs) q =
    put_covers (put_run held g.head.offset g.bytes g.frame) gs q
    ∙ ap (λ (b : Bool). b || list_any (covers q) gs)
    (ap is_some (get-put_run held g.head.offset g.bytes g.frame q) ∙ some_or (get held q) (run_cell g.head.offset g.bytes g.frame q)
    ∙ ap (λ (b : Bool). is_some (get held q) || b) (some_if (covers q g) _))
    ∙ or_assoc (is_some (get held q)) (covers q g) (list_any (covers q) gs)

pub map_covers : (gs : List Fragment) (q : ℕ) → is_some (get (map_of gs) q) ≡ list_any (covers q) gs
map_covers gs q = put_covers empty gs q ∙ ap (λ (o : Option Cell). is_some o || list_any (covers q) gs) (get-empty nat_cmp q)

any_first : (b c : Bool) → b ≡ true → (b || c) ≡ true
any_first b c is = ap (λ (x : Bool). x || c) is

any_second : (b c : Bool) → c ≡ true → (b || c) ≡ true
any_second true c is = refl
any_second false c is = is

none_first : (b c : Bool) → (b || c) ≡ false → b ≡ false
none_first true c is = is
none_first false c is = refl

none_second : (b c : Bool) → (b || c) ≡ false → c ≡ false
none_second true c is = absurd (false≢true (sym is))
none_second false c is = is

covers_here : (q : ℕ) (g : Fragment) → g.head.offset ≤ q → q < end_of g → covers q g ≡ true
covers_here q g low high = and_from (leb g.head.offset q) (ltb q (end_of g)) (le-leb g.head.offset q low) (lt-ltb q (end_of g) high)

no_overlap : (new : Fragment) (gs : List Fragment) → ((q : ℕ) → new.head.offset ≤ q → q < end_of new → list_any (covers q) gs ≡ false) → list_any (overlaps new) gs ≡ false
no_overlap new [] none = refl
no_overlap new (g ∷ gs) none =
    let rest : list_any (overlaps new) gs ≡ false = no_overlap new gs (λ q a b. none_second (covers q g) (list_any (covers q) gs) (none q a b)) in
    elim (cases_lt (max new.head.offset g.head.offset) (min (end_of new) (end_of g))) [
      | inl both ↦
          let q = max new.head.offset g.head.offset in
          absurd (false≢true (sym (none_first (covers q g) (list_any (covers q) gs) (none q (omega arith) (omega arith))) ∙ covers_here q g (omega arith) (omega arith)))
      | inr apart ↦ ap (λ (b : Bool). b || list_any (overlaps new) gs) (le-ltb (max new.head.offset g.head.offset) (min (end_of new) (end_of g)) apart) ∙ rest
    ]

an_overlap : (new : Fragment) (gs : List Fragment) (q : ℕ) → new.head.offset ≤ q → q < end_of new → list_any (covers q) gs ≡ true → list_any (overlaps new) gs ≡ true
an_overlap new [] q low high there = absurd (false≢true there)
an_overlap new (g ∷ gs) q low high there = elim (cases_Bool (covers q g)) [
  | inl here ↦
      let parts = and_parts (leb g.head.offset q) (ltb q (end_of g)) here in
      let start : g.head.offset ≤ q = leb-true g.head.offset q parts.0 in
      let end : q < end_of g = ltb-true q (end_of g) parts.1 in
      any_first (overlaps new g) (list_any (overlaps new) gs) (lt-ltb (max new.head.offset g.head.offset) (min (end_of new) (end_of g)) (omega arith))
  | inr other ↦ any_second (overlaps new g) (list_any (overlaps new) gs) (an_overlap new gs q low high (sym (ap (λ (b : Bool). b || list_any (covers q) gs) other) ∙ there))
]

pub next_overlaps : (new : Fragment) (gs : List Fragment) (held : Held) (next : ℕ) → held ≡ map_of gs → IsFirstHeld held new.head.offset next → list_any (overlaps new) gs ≡ ltb next (end_of new)
next_overlaps new gs held next same is = elim (cases_lt next (end_of new)) [
  | inl inside ↦
      an_overlap new gs next is.order inside (sym (map_covers gs next) ∙ ap (λ (h : Held). is_some (get h next)) (sym same) ∙ is.there)
      ∙ sym (lt-ltb next (end_of new) inside)
  | inr past ↦
      no_overlap new gs (λ q a b. sym (map_covers gs q) ∙ ap (λ (h : Held). is_some (get h q)) (sym same) ∙ ap is_some (is.none q a (omega arith)))
      ∙ sym (le-ltb next (end_of new) past)
]

pub none_overlaps : (new : Fragment) (gs : List Fragment) (held : Held) → held ≡ map_of gs → ((q : ℕ) → new.head.offset ≤ q → get held q ≡ None) → list_any (overlaps new) gs ≡ false
none_overlaps new gs held same none =
    no_overlap new gs (λ q a b. sym (map_covers gs q) ∙ ap (λ (h : Held). is_some (get h q)) (sym same) ∙ ap is_some (none q a))

-- the last end
last_step : (p last : ℕ) (g : Fragment) → ltb p (if has_bytes g then max last (end_of g) else last) ≡ (ltb p last || reaches_past p g)
last_step p last g = elim (cases_lt 0 (length g.bytes)) [
  | inl some ↦
      ap (λ (b : Bool). ltb p (if b then max last (end_of g) else last)) (lt-ltb 0 (length g.bytes) some)
      ∙ elim (cases_lt p last) [
        | inl low ↦ lt-ltb p (max last (end_of g)) (omega arith) ∙ sym (any_first (ltb p last) (reaches_past p g) (lt-ltb p last low))
        | inr high ↦ elim (cases_lt p (end_of g)) [
          | inl inside ↦ lt-ltb p (max last (end_of g)) (omega arith) ∙ sym (any_second (ltb p last) (reaches_past p g) (lt-ltb (max p g.head.offset) (end_of g) (omega arith)))
          | inr past ↦ le-ltb p (max last (end_of g)) (omega arith) ∙ sym (ap (λ (b : Bool). b || reaches_past p g) (le-ltb p last high) ∙ le-ltb (max p g.head.offset) (end_of g) (omega arith))
        ]
      ]
  | inr none ↦
      ap (λ (b : Bool). ltb p (if b then max last (end_of g) else last)) (le-ltb 0 (length g.bytes) none)
      ∙ sym (ap (λ (b : Bool). ltb p last || b) (le-ltb (max p g.head.offset) (end_of g) (omega arith)) ∙ or_false (ltb p last))
]

last_reaches : (p last : ℕ) (gs : List Fragment) → ltb p (last_end last gs) ≡ (ltb p last || list_any (reaches_past p) gs)
last_reaches p last [] = sym (or_false (ltb p last))
last_reaches p last (g ∷ gs) =
    last_reaches p (if has_bytes g then max last (end_of g) else last) gs
    ∙ ap (λ (b : Bool). b || list_any (reaches_past p) gs) (last_step p last g)
    ∙ or_assoc (ltb p last) (reaches_past p g) (list_any (reaches_past p) gs)

pub last_tells : (p : ℕ) (gs : List Fragment) → list_any (reaches_past p) gs ≡ ltb p (last_end 0 gs)
last_tells p gs = sym (last_reaches p 0 gs ∙ ap (λ (b : Bool). b || list_any (reaches_past p) gs) (le-ltb p 0 (omega arith)))

pub last_end-push : (last : ℕ) (gs : List Fragment) (f : Fragment) → last_end last (gs ++ f ∷ []) ≡ last_end (last_end last gs) (f ∷ [])
last_end-push last [] f = refl
last_end-push last (g ∷ gs) f = last_end-push (if has_bytes g then max last (end_of g) else last) gs f

-- first copies
first_step : (b : Bool) (bytes : List ℕ) (o p : Option (List ℕ)) → cond b (Some bytes) (option_or o p) ≡ option_or (cond b (Some bytes) o) p
first_step true bytes o p = refl
first_step false bytes o p = refl

pub first_copy-append : (offset : ℕ) (xs ys : List Fragment) → first_copy offset (xs ++ ys) ≡ option_or (first_copy offset xs) (first_copy offset ys)
first_copy-append offset [] ys = refl
first_copy-append offset (x ∷ xs) ys =
    ap (cond (x.head.six && (x.head.offset == offset && has_bytes x)) (Some x.bytes)) (first_copy-append offset xs ys)
    ∙ first_step (x.head.six && (x.head.offset == offset && has_bytes x)) x.bytes (first_copy offset xs) (first_copy offset ys)

no_repeat : (all gs : List Fragment) (new : Fragment) → AreFirstIn all gs → has_bytes new ≡ true → (first_copy new.head.offset all ≡ Some new.bytes → ⊥) → list_any (repeats new) gs ≡ false
no_repeat all [] new first some other = refl
no_repeat all (g ∷ gs) new first some other = elim (cases_Bool (repeats new g)) [
  | inl same ↦
      let parts = and_parts (new.head.offset == g.head.offset) (bytes_eq new.bytes g.bytes) same in
      let offset : new.head.offset ≡ g.head.offset = eqb-true new.head.offset g.head.offset parts.0 in
      let bytes : new.bytes ≡ g.bytes = (bytes_eq-Decides new.bytes g.bytes).0 parts.1 in
      absurd (other (ap (λ (n : ℕ). first_copy n all) offset ∙ first.0 (ap (λ (xs : List ℕ). ltb 0 (length xs)) (sym bytes) ∙ some) ∙ ap (λ (xs : List ℕ). Some xs) (sym bytes)))
  | inr apart ↦ ap (λ (b : Bool). b || list_any (repeats new) gs) apart ∙ no_repeat all gs new first.1 some other
]

a_repeat : (gs : List Fragment) (new : Fragment) → first_copy new.head.offset gs ≡ Some new.bytes → list_any (repeats new) gs ≡ true
a_repeat [] new is = absurd (none_some new.bytes is)
a_repeat (g ∷ gs) new is = elim (cases_Bool (g.head.six && (g.head.offset == new.head.offset && has_bytes g))) [
  | inl first ↦
      let parts = and_parts (g.head.offset == new.head.offset) (has_bytes g) (and_parts g.head.six (g.head.offset == new.head.offset && has_bytes g) first).1 in
      let offset : g.head.offset ≡ new.head.offset = eqb-true g.head.offset new.head.offset parts.0 in
      let bytes : g.bytes ≡ new.bytes = some_is g.bytes new.bytes (sym (cond-true _ (Some g.bytes) (first_copy new.head.offset gs) first) ∙ is) in
      any_first (repeats new g) (list_any (repeats new) gs)
      (and_from (new.head.offset == g.head.offset) (bytes_eq new.bytes g.bytes) (eq-eqb new.head.offset g.head.offset (sym offset)) ((bytes_eq-Decides new.bytes g.bytes).1 (sym bytes)))
  | inr later ↦ any_second (repeats new g) (list_any (repeats new) gs) (a_repeat gs new (sym (cond-false _ (Some g.bytes) (first_copy new.head.offset gs) later) ∙ is))
]

pub repeats_first : (gs : List Fragment) (new : Fragment) (bytes : List ℕ) → AreFirst gs → has_bytes new ≡ true → first_copy new.head.offset gs ≡ Some bytes
    → list_any (repeats new) gs ≡ bytes_eq bytes new.bytes
repeats_first gs new bytes first some is = elim (cases_Bool (bytes_eq bytes new.bytes)) [
  | inl same ↦ a_repeat gs new (is ∙ ap (λ (xs : List ℕ). Some xs) ((bytes_eq-Decides bytes new.bytes).0 same)) ∙ sym same
  | inr other ↦
      no_repeat gs gs new first some (λ same. false≢true (sym other ∙ (bytes_eq-Decides bytes new.bytes).1 (some_is bytes new.bytes (sym is ∙ same)))) ∙ sym other
]

pub repeats_none : (gs : List Fragment) (new : Fragment) → AreFirst gs → has_bytes new ≡ true → first_copy new.head.offset gs ≡ None → list_any (repeats new) gs ≡ false
repeats_none gs new first some none = no_repeat gs gs new first some (λ same. none_some new.bytes (sym none ∙ same))

-- a fragment that overlaps has bytes
pub overlap_has : (new : Fragment) (gs : List Fragment) → list_any (overlaps new) gs ≡ true → has_bytes new ≡ true
overlap_has new gs there = elim (cases_lt 0 (length new.bytes)) [
  | inl some ↦ lt-ltb 0 (length new.bytes) some
  | inr none ↦ absurd (false≢true (sym (no_overlap new gs (λ q a b. absurd (omega arith))) ∙ there))
]

-- a first copy with bytes at the offset of another with bytes overlaps it
copy_overlaps : (gs : List Fragment) (new : Fragment) (bytes : List ℕ) → has_bytes new ≡ true → first_copy new.head.offset gs ≡ Some bytes → list_any (overlaps new) gs ≡ true
copy_overlaps [] new bytes some is = absurd (none_some bytes is)
copy_overlaps (g ∷ gs) new bytes some is = elim (cases_Bool (g.head.six && (g.head.offset == new.head.offset && has_bytes g))) [
  | inl first ↦
      let parts = and_parts (g.head.offset == new.head.offset) (has_bytes g) (and_parts g.head.six (g.head.offset == new.head.offset && has_bytes g) first).1 in
      let offset : g.head.offset ≡ new.head.offset = eqb-true g.head.offset new.head.offset parts.0 in
      let one : 0 < length g.bytes = ltb-true 0 (length g.bytes) parts.1 in
      let other : 0 < length new.bytes = ltb-true 0 (length new.bytes) some in
      any_first (overlaps new g) (list_any (overlaps new) gs) (lt-ltb (max new.head.offset g.head.offset) (min (end_of new) (end_of g)) (omega arith))
  | inr later ↦ any_second (overlaps new g) (list_any (overlaps new) gs) (copy_overlaps gs new bytes some (sym (cond-false _ (Some g.bytes) (first_copy new.head.offset gs) later) ∙ is))
]

first_still : (all gs more : List Fragment) → AreFirstIn all gs → AreFirstIn (all ++ more) gs
first_still all [] more first = tt
first_still all (g ∷ gs) more first = (
  λ some. first_copy-append g.head.offset all more ∙ ap (λ (o : Option (List ℕ)). option_or o (first_copy g.head.offset more)) (first.0 some),
  first_still all gs more first.1,
)

first_and : (all gs : List Fragment) (f : Fragment) → AreFirstIn all gs → (has_bytes f ≡ true → first_copy f.head.offset all ≡ Some f.bytes) → AreFirstIn all (gs ++ f ∷ [])
first_and all [] f first one = (one, tt)
first_and all (g ∷ gs) f first one = (first.0, first_and all gs f first.1 one)

alone : (f : Fragment) → f.head.six ≡ true → has_bytes f ≡ true → first_copy f.head.offset (f ∷ []) ≡ Some f.bytes
alone f six some =
    cond-true _ (Some f.bytes) None (and_from f.head.six (f.head.offset == f.head.offset && has_bytes f) six
    (and_from (f.head.offset == f.head.offset) (has_bytes f) (eq-eqb f.head.offset f.head.offset refl) some))

-- the same bytes once more, or an overlap
first_again : (gs : List Fragment) (f : Fragment) (o : Option (List ℕ)) → first_copy f.head.offset gs ≡ o → AreFirst gs → has_bytes f ≡ true
    → (list_any (overlaps f) gs && not (list_any (repeats f) gs)) ≡ false → option_or o (Some f.bytes) ≡ Some f.bytes
first_again gs f None is first some clean = refl
first_again gs f (Some bytes) is first some clean =
    let over : list_any (overlaps f) gs ≡ true = copy_overlaps gs f bytes some is in
    let told : list_any (repeats f) gs ≡ bytes_eq bytes f.bytes = repeats_first gs f bytes first some is in
    elim (cases_Bool (bytes_eq bytes f.bytes)) [
      | inl same ↦ ap (λ (xs : List ℕ). Some xs) ((bytes_eq-Decides bytes f.bytes).0 same)
      | inr other ↦ absurd (false≢true (sym clean ∙ rw (over, told, other) refl))
    ]

pub first_push : (gs : List Fragment) (f : Fragment) → AreFirst gs → f.head.six ≡ true → (list_any (overlaps f) gs && not (list_any (repeats f) gs)) ≡ false → AreFirst (gs ++ f ∷ [])
first_push gs f first six clean =
    first_and (gs ++ f ∷ []) gs f (first_still gs gs (f ∷ []) first) (λ some.
    first_copy-append f.head.offset gs (f ∷ []) ∙ ap (option_or (first_copy f.head.offset gs)) (alone f six some)
    ∙ first_again gs f (first_copy f.head.offset gs) refl first some clean)

pub short_push : (gs : List Fragment) (f : Fragment) → AreShort gs → end_of f ≤ 65535 → AreShort (gs ++ f ∷ [])
short_push [] f each short = (short, tt)
short_push (g ∷ gs) f each short = (each.0, short_push gs f each.1 short)

pub two_ends : (gs : List Fragment) (new : Fragment) (end : Option ℕ) (e last : ℕ) → end ≡ known_end gs → last ≡ last_end 0 gs → misses_end end new ≡ false → new.head.more ≡ false → e ≡ end_of new
    → ltb e last ≡ has_two_ends gs new
two_ends gs new end e last end_is last_is missed more e_is =
    let none : misses_end (known_end gs) new ≡ false = ap (λ (o : Option ℕ). misses_end o new) (sym end_is) ∙ missed in
    let told : list_any (reaches_past (end_of new)) gs ≡ ltb e last =
    last_tells (end_of new) gs ∙ ap (λ (n : ℕ). ltb n (last_end 0 gs)) (sym e_is) ∙ ap (ltb e) (sym last_is) in
    sym (ap (λ (b : Bool). b || (not new.head.more && list_any (reaches_past (end_of new)) gs)) none
    ∙ ap (λ (b : Bool). not b && list_any (reaches_past (end_of new)) gs) more ∙ told)
