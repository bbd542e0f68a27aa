-- What the numbers of streams stand for after one segment more.
use Rattle.std.proofs.Common.{◌≡◌, ℕ, ◌+◌, ◌*◌, ◌^◌, ◌<◌, ◌≤◌, Bool, true, false, not, cond, List, [], ◌∷◌, ◌++◌, length, Option, None, Some, Result, Ok, Err, IfOk, unwrap_or, is_some, slice_get, slice_set, get_or, option_map, eqb, refl, sym, ap, ◌∙◌, subst, inl, inr, arith, length-append}
use Rattle.std.proofs.lemmas.Bool.{false≢true, cases_Bool, cases_lt, eq-eqb}
use Rattle.std.proofs.lemmas.Bool.Decides.{eqb_tells}
use Rattle.std.proofs.lemmas.Option.{slice_get_within, get_or_from_slice_get}
use Rattle.std.proofs.Math.ListN.{length-set}
use Rattle.pk_base.specs.declared.heads.Endpoint.{Endpoint}
use Rattle.tcp_streams.specs.declared.ends.Ends.{Ends}
use Rattle.tcp_streams.specs.declared.followed.Followed.{Followed}
use Rattle.tcp_streams.specs.declared.newest.Newest.{Newest}
use Rattle.tcp_streams.specs.declared.segment.Segment.{Segment}
use Rattle.tcp_streams.specs.declared.segment.Taken.{Taken}
use Rattle.tcp_streams.specs.Ways.{WayState, nothing, way_after, own_step, other_step, IsWay}
use Rattle.tcp_streams.specs.Conversations.{same_ends, ends_of, number_of}
use Rattle.tcp_streams.specs.Labels.{Label, latest, opened, sided_of, way_of, side_from, side_in, restarts, opening, goes_on, label_on, label_of, told, told_at}
use Rattle.tcp_streams.specs.PlacesKept.{WaysState, ways_of, is_turned, side_followed, IsOpenedBy, IsFollowedAs, AgreesInPlaces, AreSoundWays, IsSoundFollowed, ArePlacesSound, origin_followed, place_on, place_at, place_in, AreSteppedOn, IsFollowedOn, IsFollowedFrom}
use Rattle.tcp_streams.specs.Reaches.{ReachState, begun, IsReachOf}
use Rattle.tcp_streams.proofs.StandsLemmas.{set_same, set_other, push_last, push_before, is_there, same_ends_is, latest_below, below_more, none_new}
use Rattle.tcp_streams.proofs.SideLemmas.{turned_side}
use Rattle.tcp_streams.proofs.ReachLemmas.{begun_is}
use Rattle.tcp_streams.proofs.WayLemmas.{after_is, nothing_is}

way_is : (number : ℕ) (side : Bool) (ls : List Label) → IsWay (way_of number side ls)
way_is number side ls = after_is side (sided_of number ls)

-- the side of a segment
side_found : (ls : List Label) (newest : Newest) (number : ℕ) (stream : Followed) (s : Segment) → IsOpenedBy ls newest number stream → number_of newest (ends_of s) ≡ Some number
    → side_in number s ls ≡ side_followed stream s
side_found ls newest number stream s opened found =
    ap (λ (o : Option Endpoint). side_from (unwrap_or o s.from) s) opened.first
    ∙ turned_side s opened.opening (opened.ends s found)
    ∙ ap (λ (b : Bool). cond b (not (is_turned s)) (is_turned s)) (sym opened.turned)

-- the stream that a segment goes on with
origin_is : (ls : List Label) (newest : Newest) (number : ℕ) (stream : Followed) (s : Segment) → IsFollowedAs ls newest number stream → number_of newest (ends_of s) ≡ Some number
    → origin_followed stream s ≡ (way_of number (side_in number s ls) ls).origin
origin_is ls newest number stream s is found =
    let here : origin_followed stream s ≡ (way_of number (side_followed stream s) ls).origin = elim (cases_Bool (side_followed stream s)) [
      | inl t ↦ rw t is.one.origin
      | inr f ↦ rw f is.zero.origin
    ] in
    here ∙ sym (ap (λ (b : Bool). (way_of number b ls).origin) (side_found ls newest number stream s is.opened found))

pub place_is : (ls : List Label) (newest : Newest) (streams : List Followed) (s : Segment) → AgreesInPlaces ls newest streams → place_in newest streams s ≡ goes_on (latest s ls) s ls
place_is ls newest streams s agrees =
    elim (latest s ls) as (λ (o : Option Label). latest s ls ≡ o → place_in newest streams s ≡ goes_on o s ls) [
      | None ↦ λ e. ap (λ (o : Option ℕ). place_at o streams s) (agrees.known s ∙ ap (option_map (λ (l : Label). l.stream)) e)
      | Some l ↦ λ e.
          let found : number_of newest (ends_of s) ≡ Some l.stream = agrees.known s ∙ ap (option_map (λ (l : Label). l.stream)) e in
          let low : l.stream < opened ls = latest_below (opened ls) s ls l agrees.below e in
          ap (λ (o : Option ℕ). place_at o streams s) found
          ∙ elim (slice_get streams l.stream) as (λ (o : Option Followed). slice_get streams l.stream ≡ o → place_on o l.stream s ≡ goes_on (Some l) s ls) [
            | None ↦ λ none. absurd (is_there streams l.stream (omega (arith, low, agrees.count)) none)
            | Some stream ↦ λ there. ap (λ (o : Option ℕ). cond (restarts o s) None (Some l.stream)) (origin_is ls newest l.stream stream s (agrees.each l.stream stream there) found)
          ] refl
    ] refl

place_found : (o : Option ℕ) (streams : List Followed) (s : Segment) (number : ℕ) → place_at o streams s ≡ Some number → o ≡ Some number
place_found None streams s number = λ e. absurd (false≢true (ap is_some e))
place_found (Some k) streams s number = elim (slice_get streams k) as (λ (o : Option Followed). place_on o k s ≡ Some number → Some k ≡ Some number) [
  | None ↦ λ e. absurd (false≢true (ap is_some e))
  | Some stream ↦ elim (cases_Bool (restarts (origin_followed stream s) s)) [
    | inl t ↦ rw t (λ e. absurd (false≢true (ap is_some e)))
    | inr f ↦ rw f (λ e. e)
  ]
]

-- a stream that is known is there
number_below : (ls : List Label) (newest : Newest) (streams : List Followed) (s : Segment) (number : ℕ) → AgreesInPlaces ls newest streams → number_of newest (ends_of s) ≡ Some number → number < opened ls
number_below ls newest streams s number agrees found =
    elim (latest s ls) as (λ (o : Option Label). latest s ls ≡ o → option_map (λ (l : Label). l.stream) o ≡ Some number → number < opened ls) [
      | None ↦ λ e none. absurd (false≢true (ap is_some none))
      | Some l ↦ λ e some.
          let this : l.stream ≡ number = ap (λ (o : Option ℕ). unwrap_or o 0) some in
          omega (arith, this, latest_below (opened ls) s ls l agrees.below e)
    ] refl (sym (agrees.known s) ∙ found)

-- a segment of a stream that is there
abbrev next_of : ℕ → Followed → Segment → Label
next_of number old s = record { segment = s; stream = number; side = side_followed old s; opens = false }

abbrev label_by : ℕ → Segment → Bool → Label
label_by number s side = record { segment = s; stream = number; side = side; opens = false }

label_next : (ls : List Label) (newest : Newest) (streams : List Followed) (s : Segment) (number : ℕ) (old : Followed) → AgreesInPlaces ls newest streams
    → place_in newest streams s ≡ Some number → slice_get streams number ≡ Some old → label_of s ls ≡ next_of number old s
label_next ls newest streams s number old agrees current there =
    ap (λ (o : Option ℕ). label_on o s ls) (sym (place_is ls newest streams s agrees) ∙ current)
    ∙ ap (label_by number s) (side_found ls newest number old s (agrees.each number old there).opened (place_found (number_of newest (ends_of s)) streams s number current))

told_next : (ls : List Label) (newest : Newest) (streams : List Followed) (s : Segment) (number : ℕ) (old new : Followed) (taken : Taken) → AgreesInPlaces ls newest streams
    → place_in newest streams s ≡ Some number → slice_get streams number ≡ Some old → IsFollowedOn number (side_followed old s) s old new taken → taken ≡ told_at (label_of s ls) ls
told_next ls newest streams s number old new taken agrees current there stepped =
    let is = agrees.each number old there in
    let label = ap (λ (l : Label). told_at l ls) (label_next ls newest streams s number old agrees current there) in
    let step : cond (side_followed old s) (told number true (way_of number true ls) (way_of number false ls) s) (told number false (way_of number false ls) (way_of number true ls) s)
    ≡ told_at (next_of number old s) ls = elim (cases_Bool (side_followed old s)) [
      | inl t ↦ rw t refl
      | inr f ↦ rw f refl
    ] in
    stepped.ways.told_is (way_of number false ls) (way_of number true ls) (way_is number false ls) (way_is number true ls) is.zero is.one ∙ step ∙ sym label

agrees_next : (ls : List Label) (newest : Newest) (streams : List Followed) (s : Segment) (number : ℕ) (old new : Followed) (taken : Taken) → AgreesInPlaces ls newest streams
    → place_in newest streams s ≡ Some number → slice_get streams number ≡ Some old → IsFollowedOn number (side_followed old s) s old new taken
    → AgreesInPlaces (label_of s ls ∷ ls) newest (slice_set streams number new)
agrees_next ls newest streams s number old new taken agrees current there stepped =
    let is = agrees.each number old there in
    let l = next_of number old s in
    let within : number < length streams = slice_get_within streams number old there in
    subst (λ (m : Label). AgreesInPlaces (m ∷ ls) newest (slice_set streams number new)) (sym (label_next ls newest streams s number old agrees current there)) (record {
      count = length-set streams number new ∙ agrees.count;
      below = (omega (arith, within, agrees.count), agrees.below);
      known = λ t. elim (cases_Bool (same_ends (ends_of s) (ends_of t))) [
        | inl same ↦ rw same (ap (number_of newest) (sym (same_ends_is (ends_of s) (ends_of t) same)) ∙ place_found (number_of newest (ends_of s)) streams s number current)
        | inr apart ↦ rw apart (agrees.known t)
      ];
      each = λ k stream at. elim (eqb_tells number k) [
        | inl w ↦
            let same : Some new ≡ Some stream = set_same streams number new stream (subst (λ (j : ℕ). slice_get (slice_set streams number new) j ≡ Some stream) (sym w.1) at) in
            let this : new ≡ stream = ap (λ (o : Option Followed). unwrap_or o new) same in
            subst (λ (st : Followed). IsFollowedAs (l ∷ ls) newest k st) this (subst (λ (j : ℕ). IsFollowedAs (l ∷ ls) newest j new) w.1 (let one : eqb number number ≡ true = subst (λ (j : ℕ). eqb number j ≡ true) (sym w.1) w.0 in record {
              opened = record {
                opening = is.opened.opening;
                first = is.opened.first;
                turned = stepped.turned ∙ is.opened.turned;
                ends = is.opened.ends;
              };
              zero = rw one (stepped.ways.zero.step (way_of number false ls) (way_is number false ls) is.zero);
              one = rw one (stepped.ways.one.step (way_of number true ls) (way_is number true ls) is.one);
            }))
        | inr w ↦
            let there : slice_get streams k ≡ Some stream = sym (set_other streams number k new (λ e. false≢true (sym w.0 ∙ eq-eqb number k e))) ∙ at in
            let was = agrees.each k stream there in
            record {
              opened = record { opening = was.opened.opening; first = was.opened.first; turned = was.opened.turned; ends = was.opened.ends };
              zero = rw w.0 was.zero;
              one = rw w.0 was.one;
            }
      ];
    })

-- a segment that opens a stream
label_new : (ls : List Label) (newest : Newest) (streams : List Followed) (s : Segment) → AgreesInPlaces ls newest streams → place_in newest streams s ≡ None → label_of s ls ≡ opening s ls
label_new ls newest streams s agrees current = ap (λ (o : Option ℕ). label_on o s ls) (sym (place_is ls newest streams s agrees) ∙ current)

way_new : (ls : List Label) (newest : Newest) (streams : List Followed) (side : Bool) → AgreesInPlaces ls newest streams → way_of (opened ls) side ls ≡ nothing
way_new ls newest streams side agrees = ap (way_after side) (none_new (opened ls) ls agrees.below)

told_new : (ls : List Label) (newest : Newest) (streams : List Followed) (s : Segment) (new : Followed) (taken : Taken) → AgreesInPlaces ls newest streams
    → place_in newest streams s ≡ None → IsFollowedFrom (length streams) s new taken → taken ≡ told_at (label_of s ls) ls
told_new ls newest streams s new taken agrees current is =
    is.told_is
    ∙ ap (λ (k : ℕ). told k false nothing nothing s) agrees.count
    ∙ ap (λ (w : WayState). told (opened ls) false w nothing s) (sym (way_new ls newest streams false agrees))
    ∙ ap (λ (w : WayState). told (opened ls) false (way_of (opened ls) false ls) w s) (sym (way_new ls newest streams true agrees))
    ∙ sym (ap (λ (l : Label). told_at l ls) (label_new ls newest streams s agrees current))

agrees_new : (ls : List Label) (newest more : Newest) (streams : List Followed) (s : Segment) (new : Followed) (taken : Taken) → AgreesInPlaces ls newest streams
    → place_in newest streams s ≡ None → IsFollowedFrom (length streams) s new taken
    → ((ends : Ends) → number_of more ends ≡ cond (same_ends (ends_of s) ends) (Some (length streams)) (number_of newest ends))
    → AgreesInPlaces (label_of s ls ∷ ls) more (streams ++ new ∷ [])
agrees_new ls newest more streams s new taken agrees current is updates =
    let count : length streams ≡ opened ls = agrees.count in
    subst (λ (m : Label). AgreesInPlaces (m ∷ ls) more (streams ++ new ∷ [])) (sym (label_new ls newest streams s agrees current)) (record {
      count = omega (arith, length-append streams (new ∷ []), count);
      below = (omega arith, below_more (opened ls) (opened ls + 1) ls (omega arith) agrees.below);
      known = λ t. updates (ends_of t) ∙ elim (cases_Bool (same_ends (ends_of s) (ends_of t))) [
        | inl same ↦ rw same (ap Some count)
        | inr apart ↦ rw apart (agrees.known t)
      ];
      each = λ k stream at. elim (eqb_tells (opened ls) k) [
        | inl w ↦
            let same : Some new ≡ Some stream = sym (push_last streams k new (sym w.1 ∙ sym count)) ∙ at in
            let this : new ≡ stream = ap (λ (o : Option Followed). unwrap_or o new) same in
            subst (λ (st : Followed). IsFollowedAs (opening s ls ∷ ls) more k st) this (subst (λ (j : ℕ). IsFollowedAs (opening s ls ∷ ls) more j new) w.1 (let one : eqb (opened ls) (opened ls) ≡ true = subst (λ (j : ℕ). eqb (opened ls) j ≡ true) (sym w.1) w.0 in record {
              opened = record {
                opening = s;
                first = rw one refl;
                turned = is.turned;
                ends = λ t found. elim (cases_Bool (same_ends (ends_of s) (ends_of t))) [
                  | inl same ↦ sym (same_ends_is (ends_of s) (ends_of t) same)
                  | inr apart ↦
                      let was : number_of newest (ends_of t) ≡ Some (opened ls) = sym (updates (ends_of t) ∙ rw apart refl) ∙ found in
                      absurd (omega (arith, number_below ls newest streams t (opened ls) agrees was))
                ];
              };
              zero = rw one (subst (λ (w : WayState). IsReachOf (own_step w s) (ways_of new).zero) (sym (way_new ls newest streams false agrees)) is.zero);
              one = rw one (subst (λ (w : WayState). IsReachOf (other_step w s) (ways_of new).one) (sym (way_new ls newest streams true agrees)) is.one);
            }))
        | inr w ↦
            let inside : k < length (streams ++ new ∷ []) = slice_get_within (streams ++ new ∷ []) k stream at in
            let apart : opened ls ≡ k → ⊥ = λ e. false≢true (sym w.0 ∙ eq-eqb (opened ls) k e) in
            let low : k < length streams = elim (cases_lt k (length streams)) [
              | inl less ↦ less
              | inr more ↦ absurd (apart (omega (arith, length-append streams (new ∷ []), inside, count, more)))
            ] in
            let was = agrees.each k stream (sym (push_before streams k new low) ∙ at) in
            record {
              opened = record {
                opening = was.opened.opening;
                first = rw w.0 was.opened.first;
                turned = was.opened.turned;
                ends = λ t found. elim (cases_Bool (same_ends (ends_of s) (ends_of t))) [
                  | inl same ↦
                      let some : Some (length streams) ≡ Some k = sym (updates (ends_of t) ∙ rw same refl) ∙ found in
                      let this : length streams ≡ k = ap (λ (o : Option ℕ). unwrap_or o 0) some in
                      absurd (omega (arith, this, low))
                  | inr other ↦
                      let before : number_of newest (ends_of t) ≡ Some k = sym (updates (ends_of t) ∙ rw other refl) ∙ found in
                      was.opened.ends t before
                ];
              };
              zero = rw w.0 was.zero;
              one = rw w.0 was.one;
            }
      ];
    })

-- what is kept whatever was taken
sound_stepped : (n number : ℕ) (side : Bool) (s : Segment) (old new : Followed) (taken : Taken) → IsSoundFollowed n old → IsFollowedOn number side s old new taken → IsSoundFollowed (n + 1) new
sound_stepped n number side s old new taken sound stepped = record {
  zero = stepped.ways.zero.near;
  one = stepped.ways.one.near;
  zero_room = omega (arith, stepped.ways.zero.far, sound.zero_room);
  one_room = omega (arith, stepped.ways.one.far, sound.one_room);
}

sound_later : (n : ℕ) (stream : Followed) → IsSoundFollowed n stream → IsSoundFollowed (n + 1) stream
sound_later n stream sound = record {
  zero = sound.zero;
  one = sound.one;
  zero_room = omega (arith, sound.zero_room);
  one_room = omega (arith, sound.one_room);
}

sound_first : (n : ℕ) (stream : Followed) → IsSoundFollowed 1 stream → IsSoundFollowed (n + 1) stream
sound_first n stream sound = record {
  zero = sound.zero;
  one = sound.one;
  zero_room = omega (arith, sound.zero_room);
  one_room = omega (arith, sound.one_room);
}

sound_next : (n : ℕ) (newest : Newest) (streams : List Followed) (s : Segment) (number : ℕ) (old new : Followed) (taken : Taken) → ArePlacesSound newest streams n
    → slice_get streams number ≡ Some old → IsFollowedOn number (side_followed old s) s old new taken → ArePlacesSound newest (slice_set streams number new) (n + 1)
sound_next n newest streams s number old new taken sound there stepped =
    let count = sound.count in
    let size = length-set streams number new in
    record {
      count = omega (arith, size, count);
      within = λ ends k e. let low = sound.within ends k e in omega (arith, size, low);
      each = λ k stream at. elim (eqb_tells number k) [
        | inl w ↦
            let same : Some new ≡ Some stream = set_same streams number new stream (subst (λ (j : ℕ). slice_get (slice_set streams number new) j ≡ Some stream) (sym w.1) at) in
            subst (IsSoundFollowed (n + 1)) (ap (λ (o : Option Followed). unwrap_or o new) same) (sound_stepped n number (side_followed old s) s old new taken (sound.each number old there) stepped)
        | inr w ↦
            let was : slice_get streams k ≡ Some stream = sym (set_other streams number k new (λ e. false≢true (sym w.0 ∙ eq-eqb number k e))) ∙ at in
            sound_later n stream (sound.each k stream was)
      ];
    }

sound_new : (n : ℕ) (newest more : Newest) (streams : List Followed) (s : Segment) (new : Followed) (taken : Taken) → ArePlacesSound newest streams n → IsFollowedFrom (length streams) s new taken
    → ((ends : Ends) → number_of more ends ≡ cond (same_ends (ends_of s) ends) (Some (length streams)) (number_of newest ends))
    → ArePlacesSound more (streams ++ new ∷ []) (n + 1)
sound_new n newest more streams s new taken sound is updates =
    let count = sound.count in
    let size = length-append streams (new ∷ []) in
    record {
      count = omega (arith, size, count);
      within = λ ends k e. elim (cases_Bool (same_ends (ends_of s) ends)) [
        | inl same ↦
            let k_is : Some (length streams) ≡ Some k = sym (updates ends ∙ rw same refl) ∙ e in
            let this : length streams ≡ k = ap (λ (o : Option ℕ). unwrap_or o 0) k_is in
            omega (arith, size, this)
        | inr apart ↦
            let before : number_of newest ends ≡ Some k = sym (updates ends ∙ rw apart refl) ∙ e in
            let low = sound.within ends k before in
            omega (arith, size, low)
      ];
      each = λ k stream at. elim (cases_lt k (length streams)) [
        | inl low ↦ sound_later n stream (sound.each k stream (sym (push_before streams k new low) ∙ at))
        | inr high ↦
            let inside : k < length (streams ++ new ∷ []) = slice_get_within (streams ++ new ∷ []) k stream at in
            let last : k ≡ length streams = omega (arith, size, inside, high) in
            let same : Some new ≡ Some stream = sym (push_last streams k new last) ∙ at in
            subst (IsSoundFollowed (n + 1)) (ap (λ (o : Option Followed). unwrap_or o new) same) (sound_first n new is.sound)
      ];
    }

-- the numbers of streams after a segment
abbrev pub HasFollowed : List Followed → ℕ → Segment → Taken → List Followed → Type 0
HasFollowed streams number s taken after =
    (old : Followed) → slice_get streams number ≡ Some old → (new : Followed) × (after ≡ slice_set streams number new) × IsFollowedOn number (side_followed old s) s old new taken

abbrev pub HasStarted : List Followed → Newest → Segment → Taken → List Followed → Newest → Type 0
HasStarted streams newest s taken after more =
    (new : Followed) × (after ≡ streams ++ new ∷ []) × IsFollowedFrom (length streams) s new taken
    × ((ends : Ends) → number_of more ends ≡ cond (same_ends (ends_of s) ends) (Some (length streams)) (number_of newest ends))

pub has_started : {E : Type 0} (streams : List Followed) (newest : Newest) (s : Segment) (after : List Followed) (more : Newest) (r : Result Taken E)
    → IfOk r (λ taken. (new : Followed) × (after ≡ streams ++ new ∷ []) × IsFollowedFrom (length streams) s new taken)
    → IfOk r (λ _. (ends : Ends) → number_of more ends ≡ cond (same_ends (ends_of s) ends) (Some (length streams)) (number_of newest ends))
    → IfOk r (λ taken. HasStarted streams newest s taken after more)
has_started streams newest s after more (Ok taken) opened updates = (opened.0, opened.1, opened.2, updates)
has_started streams newest s after more (Err e) opened updates = tt

abbrev AtPlace : List Followed → ℕ → Type 0
AtPlace streams number = (old : Followed) × (slice_get streams number ≡ Some old)

at_place : (streams : List Followed) (number : ℕ) → number < length streams → AtPlace streams number
at_place streams number low = elim (slice_get streams number) as (λ (o : Option Followed). slice_get streams number ≡ o → AtPlace streams number) [
  | None ↦ λ none. absurd (is_there streams number low none)
  | Some old ↦ λ there. (old, there)
] refl

pub place_here : (streams : List Followed) (number : ℕ) (here : Followed) → number < length streams → here ≡ get_or streams number here → slice_get streams number ≡ Some here
place_here streams number here low is =
    let at = at_place streams number low in
    let same : get_or streams number here ≡ at.0 = get_or_from_slice_get streams number at.0 here at.1 in
    at.1 ∙ ap Some (sym (is ∙ same))

abbrev IsPlacedOn : List Followed → ℕ → Segment → Taken → Followed → Option Followed → Type 0
IsPlacedOn streams number s taken new at =
    (old : Followed) → at ≡ Some old → (x : Followed) × (slice_set streams number new ≡ slice_set streams number x) × IsFollowedOn number (side_followed old s) s old x taken

placed_at : (streams : List Followed) (number : ℕ) (side : Bool) (s : Segment) (here new : Followed) (taken : Taken) → side ≡ side_followed here s
    → IsFollowedOn number side s here new taken → IsPlacedOn streams number s taken new (Some here)
placed_at streams number side s here new taken side_is is old e =
    let same : here ≡ old = ap (λ (o : Option Followed). unwrap_or o here) e in
    (new, refl, subst (λ (st : Followed). IsFollowedOn number (side_followed st s) s st new taken) same (subst (λ (b : Bool). IsFollowedOn number b s here new taken) side_is is))

pub has_followed : {E : Type 0} (streams : List Followed) (number : ℕ) (side : Bool) (s : Segment) (here new : Followed) (r : Result Taken E) → slice_get streams number ≡ Some here → side ≡ side_followed here s
    → IfOk r (λ taken. IsFollowedOn number side s here new taken) → IfOk r (λ taken. HasFollowed streams number s taken (slice_set streams number new))
has_followed streams number side s here new (Ok taken) there side_is is =
    subst (λ (o : Option Followed). IsPlacedOn streams number s taken new o) (sym there) (placed_at streams number side s here new taken side_is is)
has_followed streams number side s here new (Err e) there side_is is = tt

pub sound_followed : (n : ℕ) (newest : Newest) (streams after : List Followed) (s : Segment) (number : ℕ) (taken : Taken) → number < length streams
    → HasFollowed streams number s taken after → ArePlacesSound newest streams n → ArePlacesSound newest after (n + 1)
sound_followed n newest streams after s number taken low followed sound =
    let at = at_place streams number low in
    let f = followed at.0 at.1 in
    subst (λ (xs : List Followed). ArePlacesSound newest xs (n + 1)) (sym f.1) (sound_next n newest streams s number at.0 f.0 taken sound at.1 f.2)

pub told_followed : (ls : List Label) (newest : Newest) (streams after : List Followed) (s : Segment) (number : ℕ) (taken : Taken) → number < length streams
    → HasFollowed streams number s taken after → place_in newest streams s ≡ Some number → AgreesInPlaces ls newest streams → taken ≡ told_at (label_of s ls) ls
told_followed ls newest streams after s number taken low followed current agrees =
    let at = at_place streams number low in
    let f = followed at.0 at.1 in
    told_next ls newest streams s number at.0 f.0 taken agrees current at.1 f.2

pub agrees_followed : (ls : List Label) (newest : Newest) (streams after : List Followed) (s : Segment) (number : ℕ) (taken : Taken) → number < length streams
    → HasFollowed streams number s taken after → place_in newest streams s ≡ Some number → AgreesInPlaces ls newest streams → AgreesInPlaces (label_of s ls ∷ ls) newest after
agrees_followed ls newest streams after s number taken low followed current agrees =
    let at = at_place streams number low in
    let f = followed at.0 at.1 in
    subst (λ (xs : List Followed). AgreesInPlaces (label_of s ls ∷ ls) newest xs) (sym f.1) (agrees_next ls newest streams s number at.0 f.0 taken agrees current at.1 f.2)

pub sound_started : (n : ℕ) (newest more : Newest) (streams after : List Followed) (s : Segment) (taken : Taken) → HasStarted streams newest s taken after more
    → ArePlacesSound newest streams n → ArePlacesSound more after (n + 1)
sound_started n newest more streams after s taken f sound =
    subst (λ (xs : List Followed). ArePlacesSound more xs (n + 1)) (sym f.1) (sound_new n newest more streams s f.0 taken sound f.2 f.3)

pub told_started : (ls : List Label) (newest more : Newest) (streams after : List Followed) (s : Segment) (taken : Taken) → HasStarted streams newest s taken after more
    → place_in newest streams s ≡ None → AgreesInPlaces ls newest streams → taken ≡ told_at (label_of s ls) ls
told_started ls newest more streams after s taken f current agrees = told_new ls newest streams s f.0 taken agrees current f.2

pub agrees_started : (ls : List Label) (newest more : Newest) (streams after : List Followed) (s : Segment) (taken : Taken) → HasStarted streams newest s taken after more
    → place_in newest streams s ≡ None → AgreesInPlaces ls newest streams → AgreesInPlaces (label_of s ls ∷ ls) more after
agrees_started ls newest more streams after s taken f current agrees =
    subst (λ (xs : List Followed). AgreesInPlaces (label_of s ls ∷ ls) more xs) (sym f.1) (agrees_new ls newest more streams s f.0 taken agrees current f.2 f.3)

pub room_of : (n : ℕ) (streams : List Followed) (number : ℕ) (here : Followed) → number < length streams → here ≡ get_or streams number here
    → ((old : Followed) → slice_get streams number ≡ Some old → IsSoundFollowed n old) → IsSoundFollowed n here
room_of n streams number here low is sound = sound here (place_here streams number here low is)

pub has_room : (n end : ℕ) → end ≤ 2 ^ 25 * n → n < 2 ^ 32 → end < 2 ^ 60
has_room n end far few = omega (arith, far, few)

-- a stream that is opened
pub opened_from : (number : ℕ) (s : Segment) (old new : WaysState) (stream : Followed) (taken : Taken) → old.zero ≡ begun None → old.one ≡ begun None → AreSteppedOn number false s old new taken
    → stream.turned ≡ is_turned s → ways_of stream ≡ new → IsFollowedFrom number s stream taken
opened_from number s old new stream taken own other is turned kept =
    let own_is : IsReachOf nothing old.zero = subst (IsReachOf nothing) (sym own) begun_is in
    let other_is : IsReachOf nothing old.one = subst (IsReachOf nothing) (sym other) begun_is in
    let own_end : old.zero.end ≡ 0 = ap (λ (r : ReachState). r.end) own in
    let other_end : old.one.end ≡ 0 = ap (λ (r : ReachState). r.end) other in
    let sound : AreSoundWays 1 new = record {
      zero = is.zero.near;
      one = is.one.near;
      zero_room = omega (arith, is.zero.far, own_end);
      one_room = omega (arith, is.one.far, other_end);
    } in
    record {
      turned = turned;
      zero = subst (λ (w : WaysState). IsReachOf (own_step nothing s) w.zero) (sym kept) (is.zero.step nothing nothing_is own_is);
      one = subst (λ (w : WaysState). IsReachOf (other_step nothing s) w.one) (sym kept) (is.one.step nothing nothing_is other_is);
      told_is = is.told_is nothing nothing nothing_is nothing_is own_is other_is;
      sound = subst (AreSoundWays 1) (sym kept) sound;
    }
