-- What the streams stand for after one segment more.
use Rattle.std.proofs.Common.{◌≡◌, ℕ, zero, suc, ◌+◌, ◌*◌, ◌^◌, ◌<◌, ◌≤◌, Bool, true, false, cond, ◌&&◌, List, [], ◌∷◌, ◌++◌, length, Option, None, Some, unwrap_or, is_some, slice_get, slice_set, option_map, eqb, refl, sym, ap, ◌∙◌, subst, inl, inr, arith, length-append}
use Rattle.std.proofs.lemmas.Bool.{false≢true, cases_Bool, cases_lt, and_parts, eqb-true, eq-eqb}
use Rattle.std.proofs.lemmas.Bool.Decides.{eqb_tells}
use Rattle.std.proofs.lemmas.Option.{slice_get_within}
use Rattle.std.proofs.Math.ListN.{length-set}
use Rattle.pk_base.specs.declared.heads.Endpoint.{Endpoint}
use Rattle.tcp_streams.specs.declared.ends.End.{End}
use Rattle.tcp_streams.specs.declared.ends.Ends.{Ends}
use Rattle.tcp_streams.specs.declared.newest.Newest.{Newest}
use Rattle.tcp_streams.specs.declared.segment.Segment.{Segment}
use Rattle.tcp_streams.specs.declared.segment.Taken.{Taken}
use Rattle.tcp_streams.specs.declared.stream.Stream.{Stream}
use Rattle.tcp_streams.specs.Ways.{WayState, Sided, nothing, end_of, way_after, own_step, other_step, way_step, same_side, IsWay}
use Rattle.tcp_streams.specs.States.{state_of}
use Rattle.tcp_streams.specs.Conversations.{same_bool, same_end, same_ends, ends_of, number_of}
use Rattle.tcp_streams.specs.Labels.{Label, latest, opened, sided_of, way_of, side_from, side_in, restarts, opening, goes_on, label_on, label_of, told, told_at}
use Rattle.tcp_streams.specs.Stands.{AllBelow, IsStreamOf, Agrees, IsSoundStream, IsSound, origin_in, IsStepped, IsOpened, current_on, current_at, current_in}
use Rattle.tcp_streams.proofs.WayLemmas.{step_keeps, step_room, nothing_is}

-- lists of streams
pub set_same : {X : Type 0} (xs : List X) (i : ℕ) (x y : X) → slice_get (slice_set xs i x) i ≡ Some y → Some x ≡ Some y
set_same [] i x y e = absurd (false≢true (ap is_some e))
set_same (z ∷ zs) zero x y e = e
set_same (z ∷ zs) (suc i) x y e = set_same zs i x y e

pub set_other : {X : Type 0} (xs : List X) (i j : ℕ) (x : X) → (i ≡ j → ⊥) → slice_get (slice_set xs i x) j ≡ slice_get xs j
set_other [] i j x apart = refl
set_other (z ∷ zs) zero zero x apart = absurd (apart refl)
set_other (z ∷ zs) zero (suc j) x apart = refl
set_other (z ∷ zs) (suc i) zero x apart = refl
set_other (z ∷ zs) (suc i) (suc j) x apart = set_other zs i j x (λ e. apart (ap suc e))

pub push_last : {X : Type 0} (xs : List X) (j : ℕ) (x : X) → j ≡ length xs → slice_get (xs ++ x ∷ []) j ≡ Some x
push_last [] zero x e = refl
push_last [] (suc j) x e = absurd (omega (arith, e))
push_last (z ∷ zs) zero x e = absurd (omega (arith, e))
push_last (z ∷ zs) (suc j) x e = push_last zs j x (omega (arith, e))

pub push_before : {X : Type 0} (xs : List X) (j : ℕ) (x : X) → j < length xs → slice_get (xs ++ x ∷ []) j ≡ slice_get xs j
push_before [] j x low = absurd (omega (arith, low))
push_before (z ∷ zs) zero x low = refl
push_before (z ∷ zs) (suc j) x low = push_before zs j x (omega (arith, low))

pub is_there : {X : Type 0} (xs : List X) (i : ℕ) → i < length xs → slice_get xs i ≡ None → ⊥
is_there [] i low none = absurd (omega (arith, low))
is_there (x ∷ xs) zero low none = false≢true (sym (ap is_some none))
is_there (x ∷ xs) (suc i) low none = is_there xs i (omega (arith, low)) none

-- keys
same_bool_is : (a b : Bool) → same_bool a b ≡ true → a ≡ b
same_bool_is true b e = sym e
same_bool_is false true e = absurd (false≢true e)
same_bool_is false false e = refl

pub same_end_is : (a b : End) → same_end a b ≡ true → a ≡ b
same_end_is a b e =
    let parts = and_parts (same_bool a.six b.six) (eqb a.address b.address && eqb a.port b.port) e in
    let more = and_parts (eqb a.address b.address) (eqb a.port b.port) parts.1 in
    let six = same_bool_is a.six b.six parts.0 in
    let address = eqb-true a.address b.address more.0 in
    let port = eqb-true a.port b.port more.1 in
    λ i. record { six = six i; address = address i; port = port i }

pub same_ends_is : (a b : Ends) → same_ends a b ≡ true → a ≡ b
same_ends_is a b e =
    let parts = and_parts (same_end a.lesser b.lesser) (same_end a.greater b.greater) e in
    let lesser = same_end_is a.lesser b.lesser parts.0 in
    let greater = same_end_is a.greater b.greater parts.1 in
    λ i. record { lesser = lesser i; greater = greater i }

-- labels
pub latest_below : (n : ℕ) (s : Segment) (ls : List Label) (l : Label) → AllBelow n ls → latest s ls ≡ Some l → l.stream < n
latest_below n s [] l below = λ e. absurd (false≢true (ap is_some e))
latest_below n s (m ∷ ls) l below = elim (cases_Bool (same_ends (ends_of m.segment) (ends_of s))) [
  | inl same ↦ rw same (λ e. subst (λ (o : Option Label). unwrap_or (option_map (λ k. k.stream) o) 0 < n) e below.0)
  | inr apart ↦ rw apart (λ e. latest_below n s ls l below.1 e)
]

pub below_more : (n m : ℕ) (ls : List Label) → n ≤ m → AllBelow n ls → AllBelow m ls
below_more n m [] less below = tt
below_more n m (l ∷ ls) less below = (omega (arith, below.0), below_more n m ls less below.1)

pub none_new : (n : ℕ) (ls : List Label) → AllBelow n ls → sided_of n ls ≡ []
none_new n [] below = refl
none_new n (l ∷ ls) below = elim (eqb_tells l.stream n) [
  | inl w ↦ absurd (omega (arith, below.0, w.1))
  | inr w ↦ rw w.0 (none_new n ls below.1)
]

-- the stream that a segment goes on with
origin_is : (ls : List Label) (number : ℕ) (stream : Stream) (s : Segment) → IsStreamOf ls number stream → origin_in stream s ≡ (way_of number (side_in number s ls) ls).origin
origin_is ls number stream s is =
    let side : side_in number s ls ≡ side_from stream.first s = ap (λ (o : Option Endpoint). side_from (unwrap_or o s.from) s) is.first in
    let here : origin_in stream s ≡ (way_of number (side_from stream.first s) ls).origin = elim (cases_Bool (side_from stream.first s)) [
      | inl t ↦ rw t (ap (λ (w : WayState). w.origin) is.one)
      | inr f ↦ rw f (ap (λ (w : WayState). w.origin) is.zero)
    ] in
    here ∙ sym (ap (λ (b : Bool). (way_of number b ls).origin) side)

pub current_is : (ls : List Label) (newest : Newest) (streams : List Stream) (s : Segment) → Agrees ls newest streams → current_in newest streams s ≡ goes_on (latest s ls) s ls
current_is ls newest streams s agrees =
    elim (latest s ls) as (λ (o : Option Label). latest s ls ≡ o → current_in newest streams s ≡ goes_on o s ls) [
      | None ↦ λ e. ap (λ (o : Option ℕ). current_at o streams s) (agrees.known s ∙ ap (option_map (λ (l : Label). l.stream)) e)
      | Some l ↦ λ e.
          let found : number_of newest (ends_of s) ≡ Some l.stream = agrees.known s ∙ ap (option_map (λ (l : Label). l.stream)) e in
          let low : l.stream < opened ls = latest_below (opened ls) s ls l agrees.below e in
          ap (λ (o : Option ℕ). current_at o streams s) found
          ∙ elim (slice_get streams l.stream) as (λ (o : Option Stream). slice_get streams l.stream ≡ o → current_on o l.stream s ≡ goes_on (Some l) s ls) [
            | None ↦ λ none. absurd (is_there streams l.stream (omega (arith, low, agrees.count)) none)
            | Some stream ↦ λ there. ap (λ (o : Option ℕ). cond (restarts o s) None (Some l.stream)) (origin_is ls l.stream stream s (agrees.each l.stream stream there))
          ] refl
    ] refl

current_found : (o : Option ℕ) (streams : List Stream) (s : Segment) (number : ℕ) → current_at o streams s ≡ Some number → o ≡ Some number
current_found None streams s number = λ e. absurd (false≢true (ap is_some e))
current_found (Some k) streams s number = elim (slice_get streams k) as (λ (o : Option Stream). current_on o k s ≡ Some number → Some k ≡ Some number) [
  | None ↦ λ e. absurd (false≢true (ap is_some e))
  | Some stream ↦ elim (cases_Bool (restarts (origin_in stream s) s)) [
    | inl t ↦ rw t (λ e. absurd (false≢true (ap is_some e)))
    | inr f ↦ rw f (λ e. e)
  ]
]

-- a segment of a stream that is there
abbrev pub next_of : ℕ → Stream → Segment → Label
next_of number old s = record { segment = s; stream = number; side = side_from old.first s; opens = false }

abbrev label_by : ℕ → Segment → Option Endpoint → Label
label_by number s o = record { segment = s; stream = number; side = side_from (unwrap_or o s.from) s; opens = false }

label_next : (ls : List Label) (newest : Newest) (streams : List Stream) (s : Segment) (number : ℕ) (old : Stream) → Agrees ls newest streams
    → current_in newest streams s ≡ Some number → slice_get streams number ≡ Some old → label_of s ls ≡ next_of number old s
label_next ls newest streams s number old agrees current there =
    ap (λ (o : Option ℕ). label_on o s ls) (sym (current_is ls newest streams s agrees) ∙ current)
    ∙ ap (label_by number s) (agrees.each number old there).first

pub told_next : (ls : List Label) (newest : Newest) (streams : List Stream) (s : Segment) (number : ℕ) (old new : Stream) (taken : Taken) → Agrees ls newest streams
    → current_in newest streams s ≡ Some number → slice_get streams number ≡ Some old → IsStepped number (side_from old.first s) s old new taken → taken ≡ told_at (label_of s ls) ls
told_next ls newest streams s number old new taken agrees current there stepped =
    let is = agrees.each number old there in
    let label = ap (λ (l : Label). told_at l ls) (label_next ls newest streams s number old agrees current there) in
    let step : cond (side_from old.first s) (told number true (state_of old.one) (state_of old.zero) s) (told number false (state_of old.zero) (state_of old.one) s)
    ≡ told_at (next_of number old s) ls = elim (cases_Bool (side_from old.first s)) [
      | inl t ↦ rw t (ap (λ (w : WayState). told number true w (state_of old.zero) s) is.one ∙ ap (λ (w : WayState). told number true (way_of number true ls) w s) is.zero)
      | inr f ↦ rw f (ap (λ (w : WayState). told number false w (state_of old.one) s) is.zero ∙ ap (λ (w : WayState). told number false (way_of number false ls) w s) is.one)
    ] in
    stepped.told_is ∙ step ∙ sym label

pub agrees_next : (ls : List Label) (newest : Newest) (streams : List Stream) (s : Segment) (number : ℕ) (old new : Stream) (taken : Taken) → Agrees ls newest streams
    → current_in newest streams s ≡ Some number → slice_get streams number ≡ Some old → IsStepped number (side_from old.first s) s old new taken
    → Agrees (label_of s ls ∷ ls) newest (slice_set streams number new)
agrees_next ls newest streams s number old new taken agrees current there stepped =
    let is = agrees.each number old there in
    let l = next_of number old s in
    let within : number < length streams = slice_get_within streams number old there in
    subst (λ (m : Label). Agrees (m ∷ ls) newest (slice_set streams number new)) (sym (label_next ls newest streams s number old agrees current there)) (record {
      count = length-set streams number new ∙ agrees.count;
      below = (omega (arith, within, agrees.count), agrees.below);
      known = λ t. elim (cases_Bool (same_ends (ends_of s) (ends_of t))) [
        | inl same ↦ rw same (ap (number_of newest) (sym (same_ends_is (ends_of s) (ends_of t) same)) ∙ current_found (number_of newest (ends_of s)) streams s number current)
        | inr apart ↦ rw apart (agrees.known t)
      ];
      each = λ k stream at. elim (eqb_tells number k) [
        | inl w ↦
            let same : Some new ≡ Some stream = set_same streams number new stream (subst (λ (j : ℕ). slice_get (slice_set streams number new) j ≡ Some stream) (sym w.1) at) in
            let this : new ≡ stream = ap (λ (o : Option Stream). unwrap_or o new) same in
            subst (λ (st : Stream). IsStreamOf (l ∷ ls) k st) this (subst (λ (j : ℕ). IsStreamOf (l ∷ ls) j new) w.1 (let one : eqb number number ≡ true = subst (λ (j : ℕ). eqb number j ≡ true) (sym w.1) w.0 in record {
              first = is.first ∙ ap Some (sym stepped.first);
              zero = rw one (stepped.zero ∙ ap (λ (w : WayState). way_step (same_side false (side_from old.first s)) w s) is.zero);
              one = rw one (stepped.one ∙ ap (λ (w : WayState). way_step (same_side true (side_from old.first s)) w s) is.one);
            }))
        | inr w ↦
            let there : slice_get streams k ≡ Some stream = sym (set_other streams number k new (λ e. false≢true (sym w.0 ∙ eq-eqb number k e))) ∙ at in
            let was = agrees.each k stream there in
            record { first = was.first; zero = rw w.0 was.zero; one = rw w.0 was.one }
      ];
    })

-- a segment that opens a stream
label_new : (ls : List Label) (newest : Newest) (streams : List Stream) (s : Segment) → Agrees ls newest streams → current_in newest streams s ≡ None → label_of s ls ≡ opening s ls
label_new ls newest streams s agrees current = ap (λ (o : Option ℕ). label_on o s ls) (sym (current_is ls newest streams s agrees) ∙ current)

way_new : (ls : List Label) (newest : Newest) (streams : List Stream) (side : Bool) → Agrees ls newest streams → way_of (opened ls) side ls ≡ nothing
way_new ls newest streams side agrees = ap (λ (ss : List Sided). way_after side ss) (none_new (opened ls) ls agrees.below)

pub told_new : (ls : List Label) (newest : Newest) (streams : List Stream) (s : Segment) (new : Stream) (taken : Taken) → Agrees ls newest streams
    → current_in newest streams s ≡ None → IsOpened (length streams) s new taken → taken ≡ told_at (label_of s ls) ls
told_new ls newest streams s new taken agrees current is =
    is.told_is
    ∙ ap (λ (k : ℕ). told k false nothing nothing s) agrees.count
    ∙ ap (λ (w : WayState). told (opened ls) false w nothing s) (sym (way_new ls newest streams false agrees))
    ∙ ap (λ (w : WayState). told (opened ls) false (way_of (opened ls) false ls) w s) (sym (way_new ls newest streams true agrees))
    ∙ sym (ap (λ (l : Label). told_at l ls) (label_new ls newest streams s agrees current))

pub agrees_new : (ls : List Label) (newest more : Newest) (streams : List Stream) (s : Segment) (new : Stream) (taken : Taken) → Agrees ls newest streams
    → current_in newest streams s ≡ None → IsOpened (length streams) s new taken
    → ((ends : Ends) → number_of more ends ≡ cond (same_ends (ends_of s) ends) (Some (length streams)) (number_of newest ends))
    → Agrees (label_of s ls ∷ ls) more (streams ++ new ∷ [])
agrees_new ls newest more streams s new taken agrees current is updates =
    let count : length streams ≡ opened ls = agrees.count in
    subst (λ (m : Label). Agrees (m ∷ ls) more (streams ++ new ∷ [])) (sym (label_new ls newest streams s agrees current)) (record {
      count = omega (arith, length-append streams (new ∷ []), count);
      below = (omega arith, below_more (opened ls) (opened ls + 1) ls (omega arith) agrees.below);
      known = λ t. updates (ends_of t) ∙ elim (cases_Bool (same_ends (ends_of s) (ends_of t))) [
        | inl same ↦ rw same (ap Some count)
        | inr apart ↦ rw apart (agrees.known t)
      ];
      each = λ k stream at. elim (eqb_tells (opened ls) k) [
        | inl w ↦
            let same : Some new ≡ Some stream = sym (push_last streams k new (sym w.1 ∙ sym count)) ∙ at in
            let this : new ≡ stream = ap (λ (o : Option Stream). unwrap_or o new) same in
            subst (λ (st : Stream). IsStreamOf (opening s ls ∷ ls) k st) this (subst (λ (j : ℕ). IsStreamOf (opening s ls ∷ ls) j new) w.1 (let one : eqb (opened ls) (opened ls) ≡ true = subst (λ (j : ℕ). eqb (opened ls) j ≡ true) (sym w.1) w.0 in record {
              first = rw one (ap Some (sym is.first));
              zero = rw one (is.zero ∙ ap (λ (w : WayState). own_step w s) (sym (way_new ls newest streams false agrees)));
              one = rw one (is.one ∙ ap (λ (w : WayState). other_step w s) (sym (way_new ls newest streams true agrees)));
            }))
        | inr w ↦
            let inside : k < length (streams ++ new ∷ []) = slice_get_within (streams ++ new ∷ []) k stream at in
            let apart : opened ls ≡ k → ⊥ = λ e. false≢true (sym w.0 ∙ eq-eqb (opened ls) k e) in
            let low : k < length streams = elim (cases_lt k (length streams)) [
              | inl less ↦ less
              | inr more ↦ absurd (apart (omega (arith, length-append streams (new ∷ []), inside, count, more)))
            ] in
            let was = agrees.each k stream (sym (push_before streams k new low) ∙ at) in
            record { first = rw w.0 was.first; zero = rw w.0 was.zero; one = rw w.0 was.one }
      ];
    })

-- what is kept whatever was taken
pub sound_stepped : (n number : ℕ) (side : Bool) (s : Segment) (old new : Stream) (taken : Taken) → IsSoundStream n old → IsStepped number side s old new taken → IsSoundStream (n + 1) new
sound_stepped n number side s old new taken sound stepped =
    let zero_near = step_room (same_side false side) (state_of old.zero) s sound.zero in
    let one_near = step_room (same_side true side) (state_of old.one) s sound.one in
    record {
      zero = subst IsWay (sym stepped.zero) (step_keeps (same_side false side) (state_of old.zero) s sound.zero);
      one = subst IsWay (sym stepped.one) (step_keeps (same_side true side) (state_of old.one) s sound.one);
      zero_room = subst (λ (w : WayState). end_of w ≤ 2 ^ 25 * (n + 1)) (sym stepped.zero) (omega (arith, zero_near, sound.zero_room));
      one_room = subst (λ (w : WayState). end_of w ≤ 2 ^ 25 * (n + 1)) (sym stepped.one) (omega (arith, one_near, sound.one_room));
    }

sound_later : (n : ℕ) (stream : Stream) → IsSoundStream n stream → IsSoundStream (n + 1) stream
sound_later n stream sound = record {
  zero = sound.zero;
  one = sound.one;
  zero_room = omega (arith, sound.zero_room);
  one_room = omega (arith, sound.one_room);
}

sound_opened : (n number : ℕ) (s : Segment) (new : Stream) (taken : Taken) → IsOpened number s new taken → IsSoundStream (n + 1) new
sound_opened n number s new taken is =
    let zero_near = step_room true nothing s nothing_is in
    let one_near = step_room false nothing s nothing_is in
    record {
      zero = subst IsWay (sym is.zero) (step_keeps true nothing s nothing_is);
      one = subst IsWay (sym is.one) (step_keeps false nothing s nothing_is);
      zero_room = subst (λ (w : WayState). end_of w ≤ 2 ^ 25 * (n + 1)) (sym is.zero) (omega (arith, zero_near));
      one_room = subst (λ (w : WayState). end_of w ≤ 2 ^ 25 * (n + 1)) (sym is.one) (omega (arith, one_near));
    }

pub sound_next : (n : ℕ) (newest : Newest) (streams : List Stream) (s : Segment) (number : ℕ) (old new : Stream) (taken : Taken) → IsSound newest streams n
    → slice_get streams number ≡ Some old → IsStepped number (side_from old.first s) s old new taken → IsSound newest (slice_set streams number new) (n + 1)
sound_next n newest streams s number old new taken sound there stepped =
    let count = sound.count in
    let size = length-set streams number new in
    record {
      count = omega (arith, size, count);
      within = λ ends k e. let low = sound.within ends k e in omega (arith, size, low);
      each = λ k stream at. elim (eqb_tells number k) [
        | inl w ↦
            let same : Some new ≡ Some stream = set_same streams number new stream (subst (λ (j : ℕ). slice_get (slice_set streams number new) j ≡ Some stream) (sym w.1) at) in
            subst (IsSoundStream (n + 1)) (ap (λ (o : Option Stream). unwrap_or o new) same) (sound_stepped n number (side_from old.first s) s old new taken (sound.each number old there) stepped)
        | inr w ↦
            let was : slice_get streams k ≡ Some stream = sym (set_other streams number k new (λ e. false≢true (sym w.0 ∙ eq-eqb number k e))) ∙ at in
            sound_later n stream (sound.each k stream was)
      ];
    }

pub sound_new : (n : ℕ) (newest more : Newest) (streams : List Stream) (s : Segment) (new : Stream) (taken : Taken) → IsSound newest streams n → IsOpened (length streams) s new taken
    → ((ends : Ends) → number_of more ends ≡ cond (same_ends (ends_of s) ends) (Some (length streams)) (number_of newest ends))
    → IsSound more (streams ++ new ∷ []) (n + 1)
sound_new n newest more streams s new taken sound is updates =
    let count = sound.count in
    let size = length-append streams (new ∷ []) in
    record {
      count = omega (arith, size, count);
      within = λ ends k e. elim (cases_Bool (same_ends (ends_of s) ends)) [
        | inl same ↦
            let k_is : Some (length streams) ≡ Some k = sym (updates ends ∙ rw same refl) ∙ e in
            let this : length streams ≡ k = ap (λ (o : Option ℕ). unwrap_or o 0) k_is in
            omega (arith, size, this)
        | inr apart ↦
            let before : number_of newest ends ≡ Some k = sym (updates ends ∙ rw apart refl) ∙ e in
            let low = sound.within ends k before in
            omega (arith, size, low)
      ];
      each = λ k stream at. elim (cases_lt k (length streams)) [
        | inl low ↦ sound_later n stream (sound.each k stream (sym (push_before streams k new low) ∙ at))
        | inr high ↦
            let inside : k < length (streams ++ new ∷ []) = slice_get_within (streams ++ new ∷ []) k stream at in
            let last : k ≡ length streams = omega (arith, size, inside, high) in
            let same : Some new ≡ Some stream = sym (push_last streams k new last) ∙ at in
            subst (IsSoundStream (n + 1)) (ap (λ (o : Option Stream). unwrap_or o new) same) (sound_opened n (length streams) s new taken is)
      ];
    }
