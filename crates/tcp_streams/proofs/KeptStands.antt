-- What the streams stand for after one segment more, where bytes may have been let go.
use Rattle.std.proofs.Common.{◌≡◌, ℕ, ◌+◌, ◌-◌, ◌<◌, Bool, true, false, cond, List, [], ◌∷◌, ◌++◌, length, Option, None, Some, unwrap_or, is_some, slice_get, slice_set, option_map, eqb, refl, sym, ap, ◌∙◌, subst, inl, inr, arith, length-append}
use Rattle.std.proofs.lemmas.Bool.{false≢true, cases_Bool, cases_lt, eq-eqb}
use Rattle.std.proofs.lemmas.Bool.Decides.{eqb_tells}
use Rattle.std.proofs.lemmas.Option.{slice_get_within}
use Rattle.std.proofs.Math.ListN.{length-set}
use Rattle.pk_base.specs.declared.heads.Endpoint.{Endpoint}
use Rattle.tcp_streams.specs.declared.ends.Ends.{Ends}
use Rattle.tcp_streams.specs.declared.newest.Newest.{Newest}
use Rattle.tcp_streams.specs.declared.segment.Segment.{Segment}
use Rattle.tcp_streams.specs.declared.segment.Taken.{Taken}
use Rattle.tcp_streams.specs.declared.stream.Stream.{Stream}
use Rattle.tcp_streams.specs.Ways.{WayState, Sided, nothing, way_after, way_step, same_side, stretches, IsWay}
use Rattle.tcp_streams.specs.States.{state_of}
use Rattle.tcp_streams.specs.Conversations.{same_ends, ends_of, number_of}
use Rattle.tcp_streams.specs.Labels.{Label, labels, latest, opened, sided_of, way_of, side_from, side_in, restarts, opening, goes_on, label_on, label_of, told, told_at}
use Rattle.tcp_streams.specs.Stands.{IsSound, IsSoundStream, origin_in, IsStepped, IsOpened, current_on, current_at, current_in}
use Rattle.tcp_streams.specs.LetGo.{AgreesKept, IsKeptOf, IsStreamKept, StandsFrom}
use Rattle.tcp_streams.specs.Parts.{LiesInOne, IsPart}
use Rattle.tcp_streams.specs.Standing.{StandsFor, stream_count, way_for, way_in, way_kept}
use Rattle.range_bytes.specs.Held.{bytes_at}
use Rattle.tcp_streams.specs.declared.streams.Streams.{Streams}
use Rattle.tcp_streams.proofs.PartLemmas.{after_held, bytes_in_are, held_at, step_held}
use Rattle.tcp_streams.proofs.WayLemmas.{after_is, nothing_is}
use Rattle.tcp_streams.proofs.KeptLemmas.{bytes_kept, kept_whole, parts_kept, step_kept, told_kept}
use Rattle.tcp_streams.proofs.StandsLemmas.{set_same, set_other, push_last, push_before, is_there, same_ends_is, latest_below, below_more, none_new}
use Rattle.tcp_streams.proofs.TakeLemmas.{Followed, Started, at_stream}

stepped_kept : (own : Bool) (w v next : WayState) (s : Segment) → IsWay w → IsWay v → IsKeptOf w v → next ≡ way_step own v s → IsKeptOf (way_step own w s) next
stepped_kept own w v next s way_w way kept is = subst (IsKeptOf (way_step own w s)) (sym is) (step_kept own w v s way_w way kept)

opened_kept : (own : Bool) (w next : WayState) (s : Segment) → w ≡ nothing → next ≡ way_step own nothing s → IsKeptOf (way_step own w s) next
opened_kept own w next s none is =
    subst (λ (v : WayState). IsKeptOf (way_step own v s) next) (sym none) (kept_whole (way_step own nothing s) next (step_held own nothing s nothing_is tt) is)

-- the stream that a segment goes on with
origin_is_kept : (ls : List Label) (number : ℕ) (stream : Stream) (s : Segment) → IsStreamKept ls number stream → origin_in stream s ≡ (way_of number (side_in number s ls) ls).origin
origin_is_kept ls number stream s is =
    let side : side_in number s ls ≡ side_from stream.first s = ap (λ (o : Option Endpoint). side_from (unwrap_or o s.from) s) is.first in
    let here : origin_in stream s ≡ (way_of number (side_from stream.first s) ls).origin = elim (cases_Bool (side_from stream.first s)) [
      | inl t ↦ rw t (is.one.origin)
      | inr f ↦ rw f (is.zero.origin)
    ] in
    here ∙ sym (ap (λ (b : Bool). (way_of number b ls).origin) side)

pub current_is_kept : (ls : List Label) (newest : Newest) (streams : List Stream) (s : Segment) → AgreesKept ls newest streams → current_in newest streams s ≡ goes_on (latest s ls) s ls
current_is_kept ls newest streams s agrees =
    elim (latest s ls) as (λ (o : Option Label). latest s ls ≡ o → current_in newest streams s ≡ goes_on o s ls) [
      | None ↦ λ e. ap (λ (o : Option ℕ). current_at o streams s) (agrees.known s ∙ ap (option_map (λ (l : Label). l.stream)) e)
      | Some l ↦ λ e.
          let found : number_of newest (ends_of s) ≡ Some l.stream = agrees.known s ∙ ap (option_map (λ (l : Label). l.stream)) e in
          let low : l.stream < opened ls = latest_below (opened ls) s ls l agrees.below e in
          ap (λ (o : Option ℕ). current_at o streams s) found
          ∙ elim (slice_get streams l.stream) as (λ (o : Option Stream). slice_get streams l.stream ≡ o → current_on o l.stream s ≡ goes_on (Some l) s ls) [
            | None ↦ λ none. absurd (is_there streams l.stream (omega (arith, low, agrees.count)) none)
            | Some stream ↦ λ there. ap (λ (o : Option ℕ). cond (restarts o s) None (Some l.stream)) (origin_is_kept ls l.stream stream s (agrees.each l.stream stream there))
          ] refl
    ] refl

current_found_kept : (o : Option ℕ) (streams : List Stream) (s : Segment) (number : ℕ) → current_at o streams s ≡ Some number → o ≡ Some number
current_found_kept None streams s number = λ e. absurd (false≢true (ap is_some e))
current_found_kept (Some k) streams s number = elim (slice_get streams k) as (λ (o : Option Stream). current_on o k s ≡ Some number → Some k ≡ Some number) [
  | None ↦ λ e. absurd (false≢true (ap is_some e))
  | Some stream ↦ elim (cases_Bool (restarts (origin_in stream s) s)) [
    | inl t ↦ rw t (λ e. absurd (false≢true (ap is_some e)))
    | inr f ↦ rw f (λ e. e)
  ]
]

-- a segment of a stream that is there
abbrev pub next_kept : ℕ → Stream → Segment → Label
next_kept number old s = record { segment = s; stream = number; side = side_from old.first s; opens = false }

abbrev label_kept_by : ℕ → Segment → Option Endpoint → Label
label_kept_by number s o = record { segment = s; stream = number; side = side_from (unwrap_or o s.from) s; opens = false }

label_next_kept : (ls : List Label) (newest : Newest) (streams : List Stream) (s : Segment) (number : ℕ) (old : Stream) → AgreesKept ls newest streams
    → current_in newest streams s ≡ Some number → slice_get streams number ≡ Some old → label_of s ls ≡ next_kept number old s
label_next_kept ls newest streams s number old agrees current there =
    ap (λ (o : Option ℕ). label_on o s ls) (sym (current_is_kept ls newest streams s agrees) ∙ current)
    ∙ ap (label_kept_by number s) (agrees.each number old there).first

pub told_next_kept : (n : ℕ) (ls : List Label) (newest : Newest) (streams : List Stream) (s : Segment) (number : ℕ) (old new : Stream) (taken : Taken) → IsSoundStream n old → AgreesKept ls newest streams
    → current_in newest streams s ≡ Some number → slice_get streams number ≡ Some old → IsStepped number (side_from old.first s) s old new taken → taken ≡ told_at (label_of s ls) ls
told_next_kept n ls newest streams s number old new taken sound agrees current there stepped =
    let is = agrees.each number old there in
    let label = ap (λ (l : Label). told_at l ls) (label_next_kept ls newest streams s number old agrees current there) in
    let step : cond (side_from old.first s) (told number true (state_of old.one) (state_of old.zero) s) (told number false (state_of old.zero) (state_of old.one) s)
    ≡ told_at (next_kept number old s) ls = elim (cases_Bool (side_from old.first s)) [
      | inl t ↦ rw t (told_kept number true (way_of number true ls) (state_of old.one) (way_of number false ls) (state_of old.zero) s (after_is true (sided_of number ls)) sound.one is.one is.zero)
      | inr f ↦ rw f (told_kept number false (way_of number false ls) (state_of old.zero) (way_of number true ls) (state_of old.one) s (after_is false (sided_of number ls)) sound.zero is.zero is.one)
    ] in
    stepped.told_is ∙ step ∙ sym label

pub agrees_next_kept : (n : ℕ) (ls : List Label) (newest : Newest) (streams : List Stream) (s : Segment) (number : ℕ) (old new : Stream) (taken : Taken) → IsSoundStream n old → AgreesKept ls newest streams
    → current_in newest streams s ≡ Some number → slice_get streams number ≡ Some old → IsStepped number (side_from old.first s) s old new taken
    → AgreesKept (label_of s ls ∷ ls) newest (slice_set streams number new)
agrees_next_kept n ls newest streams s number old new taken sound agrees current there stepped =
    let is = agrees.each number old there in
    let l = next_kept number old s in
    let within : number < length streams = slice_get_within streams number old there in
    subst (λ (m : Label). AgreesKept (m ∷ ls) newest (slice_set streams number new)) (sym (label_next_kept ls newest streams s number old agrees current there)) (record {
      count = length-set streams number new ∙ agrees.count;
      below = (omega (arith, within, agrees.count), agrees.below);
      known = λ t. elim (cases_Bool (same_ends (ends_of s) (ends_of t))) [
        | inl same ↦ rw same (ap (number_of newest) (sym (same_ends_is (ends_of s) (ends_of t) same)) ∙ current_found_kept (number_of newest (ends_of s)) streams s number current)
        | inr apart ↦ rw apart (agrees.known t)
      ];
      each = λ k stream at. elim (eqb_tells number k) [
        | inl w ↦
            let same : Some new ≡ Some stream = set_same streams number new stream (subst (λ (j : ℕ). slice_get (slice_set streams number new) j ≡ Some stream) (sym w.1) at) in
            let this : new ≡ stream = ap (λ (o : Option Stream). unwrap_or o new) same in
            subst (λ (st : Stream). IsStreamKept (l ∷ ls) k st) this (subst (λ (j : ℕ). IsStreamKept (l ∷ ls) j new) w.1 (let one : eqb number number ≡ true = subst (λ (j : ℕ). eqb number j ≡ true) (sym w.1) w.0 in record {
              first = is.first ∙ ap Some (sym stepped.first);
              zero = rw one (stepped_kept (same_side false (side_from old.first s)) (way_of number false ls) (state_of old.zero) (state_of new.zero) s (after_is false (sided_of number ls)) sound.zero is.zero stepped.zero);
              one = rw one (stepped_kept (same_side true (side_from old.first s)) (way_of number true ls) (state_of old.one) (state_of new.one) s (after_is true (sided_of number ls)) sound.one is.one stepped.one);
            }))
        | inr w ↦
            let there : slice_get streams k ≡ Some stream = sym (set_other streams number k new (λ e. false≢true (sym w.0 ∙ eq-eqb number k e))) ∙ at in
            let was = agrees.each k stream there in
            record { first = was.first; zero = rw w.0 was.zero; one = rw w.0 was.one }
      ];
    })

-- a segment that opens a stream
label_new_kept : (ls : List Label) (newest : Newest) (streams : List Stream) (s : Segment) → AgreesKept ls newest streams → current_in newest streams s ≡ None → label_of s ls ≡ opening s ls
label_new_kept ls newest streams s agrees current = ap (λ (o : Option ℕ). label_on o s ls) (sym (current_is_kept ls newest streams s agrees) ∙ current)

way_new_kept : (ls : List Label) (newest : Newest) (streams : List Stream) (side : Bool) → AgreesKept ls newest streams → way_of (opened ls) side ls ≡ nothing
way_new_kept ls newest streams side agrees = ap (λ (ss : List Sided). way_after side ss) (none_new (opened ls) ls agrees.below)

pub told_new_kept : (ls : List Label) (newest : Newest) (streams : List Stream) (s : Segment) (new : Stream) (taken : Taken) → AgreesKept ls newest streams
    → current_in newest streams s ≡ None → IsOpened (length streams) s new taken → taken ≡ told_at (label_of s ls) ls
told_new_kept ls newest streams s new taken agrees current is =
    is.told_is
    ∙ ap (λ (k : ℕ). told k false nothing nothing s) agrees.count
    ∙ ap (λ (w : WayState). told (opened ls) false w nothing s) (sym (way_new_kept ls newest streams false agrees))
    ∙ ap (λ (w : WayState). told (opened ls) false (way_of (opened ls) false ls) w s) (sym (way_new_kept ls newest streams true agrees))
    ∙ sym (ap (λ (l : Label). told_at l ls) (label_new_kept ls newest streams s agrees current))

pub agrees_new_kept : (ls : List Label) (newest more : Newest) (streams : List Stream) (s : Segment) (new : Stream) (taken : Taken) → AgreesKept ls newest streams
    → current_in newest streams s ≡ None → IsOpened (length streams) s new taken
    → ((ends : Ends) → number_of more ends ≡ cond (same_ends (ends_of s) ends) (Some (length streams)) (number_of newest ends))
    → AgreesKept (label_of s ls ∷ ls) more (streams ++ new ∷ [])
agrees_new_kept ls newest more streams s new taken agrees current is updates =
    let count : length streams ≡ opened ls = agrees.count in
    subst (λ (m : Label). AgreesKept (m ∷ ls) more (streams ++ new ∷ [])) (sym (label_new_kept ls newest streams s agrees current)) (record {
      count = omega (arith, length-append streams (new ∷ []), count);
      below = (omega arith, below_more (opened ls) (opened ls + 1) ls (omega arith) agrees.below);
      known = λ t. updates (ends_of t) ∙ elim (cases_Bool (same_ends (ends_of s) (ends_of t))) [
        | inl same ↦ rw same (ap Some count)
        | inr apart ↦ rw apart (agrees.known t)
      ];
      each = λ k stream at. elim (eqb_tells (opened ls) k) [
        | inl w ↦
            let same : Some new ≡ Some stream = sym (push_last streams k new (sym w.1 ∙ sym count)) ∙ at in
            let this : new ≡ stream = ap (λ (o : Option Stream). unwrap_or o new) same in
            subst (λ (st : Stream). IsStreamKept (opening s ls ∷ ls) k st) this (subst (λ (j : ℕ). IsStreamKept (opening s ls ∷ ls) j new) w.1 (let one : eqb (opened ls) (opened ls) ≡ true = subst (λ (j : ℕ). eqb (opened ls) j ≡ true) (sym w.1) w.0 in record {
              first = rw one (ap Some (sym is.first));
              zero = rw one (opened_kept true (way_of (opened ls) false ls) (state_of new.zero) s (way_new_kept ls newest streams false agrees) is.zero);
              one = rw one (opened_kept false (way_of (opened ls) true ls) (state_of new.one) s (way_new_kept ls newest streams true agrees) is.one);
            }))
        | inr w ↦
            let inside : k < length (streams ++ new ∷ []) = slice_get_within (streams ++ new ∷ []) k stream at in
            let apart : opened ls ≡ k → ⊥ = λ e. false≢true (sym w.0 ∙ eq-eqb (opened ls) k e) in
            let low : k < length streams = elim (cases_lt k (length streams)) [
              | inl less ↦ less
              | inr more ↦ absurd (apart (omega (arith, length-append streams (new ∷ []), inside, count, more)))
            ] in
            let was = agrees.each k stream (sym (push_before streams k new low) ∙ at) in
            record { first = rw w.0 was.first; zero = rw w.0 was.zero; one = rw w.0 was.one }
      ];
    })

pub told_followed_kept : (n : ℕ) (ls : List Label) (newest : Newest) (streams after : List Stream) (s : Segment) (number : ℕ) (taken : Taken) → number < length streams
    → Followed streams number s taken after → current_in newest streams s ≡ Some number → IsSound newest streams n → AgreesKept ls newest streams → taken ≡ told_at (label_of s ls) ls
told_followed_kept n ls newest streams after s number taken low followed current sound agrees =
    let at = at_stream streams number low in
    let f = followed at.0 at.1 in
    told_next_kept n ls newest streams s number at.0 f.0 taken (sound.each number at.0 at.1) agrees current at.1 f.2

pub agrees_followed_kept : (n : ℕ) (ls : List Label) (newest : Newest) (streams after : List Stream) (s : Segment) (number : ℕ) (taken : Taken) → number < length streams
    → Followed streams number s taken after → current_in newest streams s ≡ Some number → IsSound newest streams n → AgreesKept ls newest streams → AgreesKept (label_of s ls ∷ ls) newest after
agrees_followed_kept n ls newest streams after s number taken low followed current sound agrees =
    let at = at_stream streams number low in
    let f = followed at.0 at.1 in
    subst (λ (xs : List Stream). AgreesKept (label_of s ls ∷ ls) newest xs) (sym f.1) (agrees_next_kept n ls newest streams s number at.0 f.0 taken (sound.each number at.0 at.1) agrees current at.1 f.2)

pub told_started_kept : (ls : List Label) (newest more : Newest) (streams after : List Stream) (s : Segment) (taken : Taken) → Started streams newest s taken after more
    → current_in newest streams s ≡ None → AgreesKept ls newest streams → taken ≡ told_at (label_of s ls) ls
told_started_kept ls newest more streams after s taken f current agrees = told_new_kept ls newest streams s f.0 taken agrees current f.2

pub agrees_started_kept : (ls : List Label) (newest more : Newest) (streams after : List Stream) (s : Segment) (taken : Taken) → Started streams newest s taken after more
    → current_in newest streams s ≡ None → AgreesKept ls newest streams → AgreesKept (label_of s ls ∷ ls) more after
agrees_started_kept ls newest more streams after s taken f current agrees =
    subst (λ (xs : List Stream). AgreesKept (label_of s ls ∷ ls) more xs) (sym f.1) (agrees_new_kept ls newest more streams s f.0 taken agrees current f.2 f.3)

-- ---- all streams

way_whole : (number : ℕ) (side : Bool) (ls : List Label) (v : WayState) → v ≡ way_of number side ls → IsKeptOf (way_of number side ls) v
way_whole number side ls v is = kept_whole (way_of number side ls) v (after_held side (sided_of number ls)) is

-- streams of which nothing was let go
pub stands_whole : (past : List Segment) (streams : Streams) → StandsFor past streams → StandsFrom past streams
unfolding StandsFor StandsFrom
stands_whole past streams stands =
    let agrees = stands.agrees in
    record {
      fresh = stands.fresh;
      taken = stands.taken;
      agrees = record {
        count = agrees.count;
        below = agrees.below;
        known = agrees.known;
        each = λ number stream there.
            let is = agrees.each number stream there in
            record {
              first = is.first;
              zero = way_whole number false (labels past) (state_of stream.zero) is.zero;
              one = way_whole number true (labels past) (state_of stream.one) is.one;
            };
      };
    }

pub kept_way : (past : List Segment) (streams : Streams) (stream side : ℕ) → StandsFrom past streams → stream < stream_count streams → IsKeptOf (way_for past stream side) (way_in streams stream side)
unfolding StandsFrom
kept_way past streams stream side stands low =
    let at = at_stream streams.kept.streams.items stream low in
    let is = stands.agrees.each stream at.0 at.1 in
    subst (λ (o : Option Stream). IsKeptOf (way_for past stream side) (way_kept o (eqb side 1))) (sym at.1) (elim (cases_Bool (eqb side 1)) [
      | inl one ↦ rw one is.one
      | inr zero ↦ rw zero is.zero
    ])

-- a part of what is kept
pub part_kept : (w v : WayState) (from to : ℕ) (bytes : List ℕ) → IsWay v → IsKeptOf w v → LiesInOne (stretches v) from to → IsPart (stretches v) from to bytes
    → bytes ≡ bytes_at w.held from (to - from)
part_kept w v from to bytes way kept lies part =
    let held = held_at v.held (stretches v) lies.0 lies.1 (parts_kept w v way kept) lies.2 in
    let inside = lies.3 in
    let low = inside.low in
    let high = inside.high in
    let order = inside.order in
    part lies.0 lies.1 lies.2 inside ∙ bytes_in_are v.held lies.1 from to held inside
    ∙ bytes_kept w v from (to - from) kept (λ q a b. held.run q (omega (arith, low, a)) (omega (arith, high, b, order)))
