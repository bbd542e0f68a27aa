-- The messages that the trees of frames show of a direction of a stream, one frame behind the other.
use Rattle.std.proofs.Common.{◌≡◌, ◌==◌, ℕ, Bool, true, false, ◌&&◌, if◌then◌else◌, List, [], ◌∷◌, ◌++◌, map, Option, Some, None, option_map, unwrap_or, refl, sym, ap, ◌∙◌, subst, inl, inr, arith, append-nil}
use Rattle.std.specs.Prelude.{◌⊎◌}
use Rattle.std.proofs.lemmas.Bool.{cases_Bool, cond-false, cond-true, false≢true}
use Rattle.std.proofs.lemmas.Bool.Decides.{eqb_tells}
use Rattle.std.proofs.lemmas.List.{map-append}
use Rattle.std.proofs.lemmas.Option.{none-some}
use Rattle.range_bytes.specs.Held.{Held, put_run}
use Rattle.capture_read.specs.declared.frame.Frame.{Frame}
use Rattle.pk_fields.specs.declared.rules.PortRule.{PortRule}
use Rattle.pk_tree.specs.Trees.{TreeShown}
use Rattle.tcp_streams.specs.Conversations.{ends_of, same_ends}
use Rattle.tcp_streams.specs.Labels.{Label, label_of, labels, latest, sided_of, way_of}
use Rattle.tcp_streams.specs.Numbers.{ahead, first_number, place, taken_bytes}
use Rattle.tcp_streams.specs.Stands.{AllBelow}
use Rattle.tcp_streams.specs.Ways.{Sided, WayState, front_for, origin_for, other_step, own_step, same_side as is_own, start_for, way_after, way_step}
use Rattle.tcp_streams.specs.declared.segment.Segment.{Segment}
use Rattle.tcp_streams.proofs.Keyed.{known, label_cases, same_number}
use Rattle.tcp_streams.proofs.PassedGaps.{with_own}
use Rattle.tcp_streams.proofs.Places.{put_stays}
use Rattle.stream_messages.specs.declared.placed.Placed.{Placed}
use Rattle.pk_fields.specs.declared.apps.App.{App}
use Rattle.app_layers.specs.declared.streamed.StreamApp.{StreamApp}
use Rattle.stream_messages.specs.declared.framer.Framer.{Framer}
use Rattle.stream_messages.specs.Sides.{Brought, Noted, asked_in, front_end, noted, same_side, shown_in}
use Rattle.stream_messages.specs.Tellings.{end_of}
use Rattle.tcp_messages.specs.Brought.{brought, brought_by, way_with}
use Rattle.tcp_messages.specs.Shown.{messages_at}
use Rattle.tcp_messages.proofs.Growing.{each_once}
use Rattle.tcp_messages.proofs.InHeld.{AreIn, shown_in_held}
use Rattle.tcp_messages.proofs.Matching.{label_segment}
use Rattle.app_layers.specs.MessageLayers.{app_of_segment}
use Rattle.app_layers.proofs.StreamApps.{apps_of_ends}
use Rattle.dissect.specs.MessageLaws.{MessageShown, MessagesInTrees, frame_segment, is_of, label_in, labels_before, segment_messages, segments_before, app_of_stream, trees_show, tree_messages, whole_messages}
use Rattle.dissect.specs.Segments.{segments_of}
use Rattle.dissect.specs.Trees.{events_of, tree_at}
use Rattle.dissect.proofs.FramesTold.{frames_bring, frames_show, with_newest}
use Rattle.dissect.proofs.HeldBytes.{bytes_stay}
use Rattle.dissect.proofs.MessagesFit.{all_held, message_held, shown_held}
use Rattle.dissect.proofs.StretchBytes.{stretches_held}

-- ---- the application of a stream

abbrev AllAre : (Segment → Option StreamApp) → ℕ → Option StreamApp → List Label → Type 0
AllAre app_of number app [] = Unit {0}
AllAre app_of number app (l ∷ ls) = (l.stream ≡ number → app_of l.segment ≡ app) × AllAre app_of number app ls

abbrev AreOfEnds : (Segment → Option StreamApp) → Type 0
AreOfEnds app_of = (s t : Segment) → same_ends (ends_of s) (ends_of t) ≡ true → app_of s ≡ app_of t

none_have : (app_of : Segment → Option StreamApp) (number : ℕ) (app : Option StreamApp) (ls : List Label) → AllBelow number ls → AllAre app_of number app ls
none_have app_of number app [] below = tt
none_have app_of number app (l ∷ ls) below = (λ same. absurd (omega (arith, below.0, same)), none_have app_of number app ls below.1)

none_brought : (number : ℕ) (ls : List Label) → AllBelow number ls → brought number ls ≡ []
none_brought number [] below = refl
none_brought number (l ∷ ls) below = elim (eqb_tells l.stream number) [
  | inl same ↦ absurd (omega (arith, below.0, same.1))
  | inr other ↦ rw other.0 (none_brought number ls below.1)
]

latest_has : (app_of : Segment → Option StreamApp) (number : ℕ) (app : Option StreamApp) (s : Segment) (found : Label) (ls : List Label) → AreOfEnds app_of → found.stream ≡ number
    → latest s ls ≡ Some found → AllAre app_of number app ls → app_of s ≡ app
latest_has app_of number app s found [] of_ends at = λ e all. absurd (none-some found e)
latest_has app_of number app s found (l ∷ ls) of_ends at = elim (cases_Bool (same_ends (ends_of l.segment) (ends_of s))) [
  | inl same ↦ rw same (λ e all.
      let is : l.stream ≡ number = ap (λ (o : Option Label). (unwrap_or o l).stream) e ∙ at in
      sym (of_ends l.segment s same) ∙ all.0 is)
  | inr other ↦ rw other (λ e all. latest_has app_of number app s found ls of_ends at e all.1)
]

-- what holds of a label that comes next
pub record IsNext (rules : List PortRule) (s : Segment) (ls : List Label) (l : Label) : Type 0 where
  pub segment : l.segment ≡ s
  pub known : AllBelow l.stream ls ⊎ (app_of_segment rules s ≡ app_of_stream rules l.stream ls)

next_is : (rules : List PortRule) (s : Segment) (past : List Segment) → ((number : ℕ) → AllAre (app_of_segment rules) number (app_of_stream rules number (labels past)) (labels past))
    → IsNext rules s (labels past) (label_of s (labels past))
next_is rules s past all =
    let ls : List Label = labels past in
    record {
      segment = label_segment s ls;
      known = elim (label_cases s ls) [
        | inl opens ↦ inl (subst (λ (l : Label). AllBelow l.stream ls) (sym opens) (known s past).below)
        | inr follows ↦
            inr (subst (λ (l : Label). app_of_segment rules s ≡ app_of_stream rules l.stream ls) (sym follows.goes)
            (latest_has (app_of_segment rules) follows.last.stream (app_of_stream rules follows.last.stream ls) s follows.last ls (apps_of_ends rules) refl follows.is_last (all follows.last.stream)))
      ];
    }

have_next : (rules : List PortRule) (s : Segment) (ls : List Label) (l : Label) (number : ℕ) → IsNext rules s ls l → AllAre (app_of_segment rules) number (app_of_stream rules number ls) ls
    → AllAre (app_of_segment rules) number (app_of_stream rules number (l ∷ ls)) (l ∷ ls)
have_next rules s ls l number next all = elim (eqb_tells l.stream number) [
  | inl same ↦
      subst (λ (a : Option StreamApp). AllAre (app_of_segment rules) number a (l ∷ ls)) (sym (cond-true _ _ _ same.0))
      (λ _. refl, by same.1 next.known)
  | inr other ↦
      subst (λ (a : Option StreamApp). AllAre (app_of_segment rules) number a (l ∷ ls)) (sym (cond-false _ _ _ other.0))
      (λ here. absurd (other.1 here), all)
]
  where
    by : l.stream ≡ number → AllBelow l.stream ls ⊎ (app_of_segment rules s ≡ app_of_stream rules l.stream ls) → AllAre (app_of_segment rules) number (app_of_segment rules l.segment) ls
    by same (inl below) = none_have (app_of_segment rules) number (app_of_segment rules l.segment) ls (subst (λ (n : ℕ). AllBelow n ls) same below)
    by same (inr is) =
        subst (λ (a : Option StreamApp). AllAre (app_of_segment rules) number a ls)
        (ap (λ (n : ℕ). app_of_stream rules n ls) (sym same) ∙ sym is ∙ ap (app_of_segment rules) (sym next.segment)) all

pub stream_has : (rules : List PortRule) (past : List Segment) (number : ℕ) → AllAre (app_of_segment rules) number (app_of_stream rules number (labels past)) (labels past)
stream_has rules [] number = tt
stream_has rules (s ∷ past) number =
    have_next rules s (labels past) (label_of s (labels past)) number (next_is rules s past (stream_has rules past)) (stream_has rules past number)

-- ---- bytes that are held stay

all_stay : (app : App) (held : Held) (p : ℕ) (bytes : List ℕ) (frame : ℕ) (ms : List Placed) → AreIn held ms → map (message_held app (put_run held p bytes frame)) ms ≡ map (message_held app held) ms
all_stay app held p bytes frame [] all = refl
all_stay app held p bytes frame (m ∷ ms) all =
    ap (λ (xs : List ℕ). record { app = app; bytes = xs } ∷ map (message_held app (put_run held p bytes frame)) ms) (bytes_stay held p bytes frame m.at (end_of m.told) all.0)
    ∙ ap (λ (rest : List MessageShown). message_held app held m ∷ rest) (all_stay app held p bytes frame ms all.1)

own_stays : (app : App) (w : WayState) (s : Segment) (ms : List Placed) → AreIn w.held ms → map (message_held app (own_step w s).held) ms ≡ map (message_held app w.held) ms
unfolding own_step
own_stays app w s ms all =
    let u = ahead (origin_for w s) (front_for w) (first_number s) in
    all_stay app w.held (place (start_for w) (front_for w) u) (taken_bytes (start_for w) (front_for w) u s.payload) s.frame ms all

abbrev shown_so_far : Framer → ℕ → Bool → List Label → List Placed
shown_so_far framer stream side ls = shown_in side (noted framer (brought stream ls))

in_append : (held : Held) (ms ns : List Placed) → AreIn held ms → AreIn held ns → AreIn held (ms ++ ns)
in_append held [] ns before after = after
in_append held (m ∷ ms) ns before after = (before.0, in_append held ms ns before.1 after)

in_stays : (held : Held) (p : ℕ) (bytes : List ℕ) (frame : ℕ) (ms : List Placed) → AreIn held ms → AreIn (put_run held p bytes frame) ms
in_stays held p bytes frame [] all = tt
in_stays held p bytes frame (m ∷ ms) all = (λ q low high. put_stays held p bytes frame q (all.0 q low high), in_stays held p bytes frame ms all.1)

own_in : (w : WayState) (s : Segment) (ms : List Placed) → AreIn w.held ms → AreIn (own_step w s).held ms
unfolding own_step
own_in w s ms all =
    let u = ahead (origin_for w s) (front_for w) (first_number s) in
    in_stays w.held (place (start_for w) (front_for w) u) (taken_bytes (start_for w) (front_for w) u s.payload) s.frame ms all

-- ---- a label more: of another stream, of the other direction, or of this one

abbrev IsAway : ℕ → Label → Type 0
IsAway stream l = (l.stream == stream) ≡ false

away_brought : (stream : ℕ) (l : Label) (ls : List Label) → IsAway stream l → brought stream (l ∷ ls) ≡ brought stream ls
away_brought stream l ls away = cond-false _ _ _ away

away_way : (stream : ℕ) (side : Bool) (l : Label) (ls : List Label) → IsAway stream l → way_of stream side (l ∷ ls) ≡ way_of stream side ls
away_way stream side l ls away = ap (way_after side) (cond-false _ _ _ away)

own_side : (side : Bool) → same_side side side ≡ true
own_side true = refl
own_side false = refl

side_is : (side from : Bool) → same_side side from ≡ true → from ≡ side
side_is true true same = refl
side_is true false same = absurd (false≢true same)
side_is false true same = absurd (false≢true same)
side_is false false same = refl

not_own : (side from : Bool) → same_side side from ≡ false → is_own side from ≡ false
not_own true from other = other
not_own false true other = refl
not_own false false other = other

abbrev IsHere : ℕ → Label → Type 0
IsHere stream l = (l.stream == stream) ≡ true

here_brought : (stream : ℕ) (l : Label) (ls : List Label) → IsHere stream l → brought stream (l ∷ ls) ≡ brought_by l ls ∷ brought stream ls
here_brought stream l ls here = cond-true _ _ _ here

-- of the other direction
other_shown : (framer : Framer) (stream : ℕ) (side : Bool) (l : Label) (ls : List Label) → IsHere stream l → same_side side l.side ≡ false → shown_so_far framer stream side (l ∷ ls) ≡ shown_so_far framer stream side ls
other_shown framer stream side l ls here other =
    ap (λ (bs : List Brought). shown_in side (noted framer bs)) (here_brought stream l ls here) ∙ cond-false _ _ _ other

other_kept : (w : WayState) (s : Segment) → (other_step w s).held ≡ w.held
unfolding other_step
other_kept w s = refl

other_held : (stream : ℕ) (side : Bool) (l : Label) (ls : List Label) → IsHere stream l → same_side side l.side ≡ false → (way_of stream side (l ∷ ls)).held ≡ (way_of stream side ls).held
other_held stream side l ls here other =
    let first : sided_of stream (l ∷ ls) ≡ record { segment = l.segment; side = l.side } ∷ sided_of stream ls = cond-true _ _ _ here in
    ap (λ (ss : List Sided). (way_after side ss).held) first
    ∙ ap (λ (own : Bool). (way_step own (way_of stream side ls) l.segment).held) (not_own side l.side other)
    ∙ other_kept (way_of stream side ls) l.segment

-- of this one
own_shown : (framer : Framer) (l : Label) (ls : List Label) → shown_so_far framer l.stream l.side (l ∷ ls) ≡ shown_so_far framer l.stream l.side ls ++ messages_at framer l ls
own_shown framer l ls =
    ap (λ (bs : List Brought). shown_in l.side (noted framer bs)) (here_brought l.stream l ls (same_number l.stream)) ∙ cond-true _ _ _ (own_side l.side)

-- all that is shown is held
abbrev AreAllIn : Framer → ℕ → Bool → List Label → Type 0
AreAllIn framer stream side ls = AreIn (way_of stream side ls).held (shown_so_far framer stream side ls)

in_as : (held old : Held) (ms ns : List Placed) → held ≡ old → ms ≡ ns → AreIn old ns → AreIn held ms
in_as held old ms ns same are all = subst (λ (h : Held). AreIn h ms) (sym same) (subst (AreIn old) (sym are) all)

own_all_in : (framer : Framer) (l : Label) (ls : List Label) → AreAllIn framer l.stream l.side ls → AreAllIn framer l.stream l.side (l ∷ ls)
own_all_in framer l ls all =
    let w : WayState = way_of l.stream l.side ls in
    let ns : List Noted = noted framer (brought l.stream ls) in
    in_as (way_of l.stream l.side (l ∷ ls)).held (own_step w l.segment).held _ _ (ap (λ (v : WayState). v.held) (with_own l ls)) (own_shown framer l ls)
    (in_append (own_step w l.segment).held (shown_so_far framer l.stream l.side ls) (messages_at framer l ls) (own_in w l.segment _ all)
    (shown_in_held framer (asked_in l.side ns) l.side (sided_of l.stream ls) l.segment (front_end l.side ns)))

all_in_next : (framer : Framer) (stream : ℕ) (side : Bool) (l : Label) (ls : List Label) → AreAllIn framer stream side ls → AreAllIn framer stream side (l ∷ ls)
all_in_next framer stream side l ls all = elim (eqb_tells l.stream stream) [
  | inr away ↦
      in_as _ _ _ _ (ap (λ (v : WayState). v.held) (away_way stream side l ls away.0)) (ap (λ (bs : List Brought). shown_in side (noted framer bs)) (away_brought stream l ls away.0)) all
  | inl here ↦ elim (cases_Bool (same_side side l.side)) [
    | inr other ↦ in_as _ _ _ _ (other_held stream side l ls here.0 other) (other_shown framer stream side l ls here.0 other) all
    | inl own ↦
        subst (λ (n : ℕ). AreAllIn framer n side (l ∷ ls)) here.1
        (subst (λ (b : Bool). AreAllIn framer l.stream b (l ∷ ls)) (side_is side l.side own)
        (own_all_in framer l ls
        (subst (λ (n : ℕ). AreAllIn framer n l.side ls) (sym here.1) (subst (λ (b : Bool). AreAllIn framer stream b ls) (sym (side_is side l.side own)) all))))
  ]
]

all_in : (framer : Framer) (stream : ℕ) (side : Bool) (ls : List Label) → AreAllIn framer stream side ls
all_in framer stream side [] = tt
all_in framer stream side (l ∷ ls) = all_in_next framer stream side l ls (all_in framer stream side ls)

-- ---- the messages that were shown

abbrev told_by : Option StreamApp → ℕ → Bool → List Label → List MessageShown
told_by None stream side ls = []
told_by (Some app) stream side ls = map (message_held app.app (way_of stream side ls).held) (shown_so_far app.framer stream side ls)

whole_told : (app : Option StreamApp) (stream : ℕ) (side : Bool) (past : List Segment) → whole_messages app stream side (labels past) ≡ told_by app stream side (labels past)
whole_told None stream side past = refl
whole_told (Some app) stream side past =
    let ls : List Label = labels past in
    stretches_held app.app app.framer (asked_in side (noted app.framer (brought stream ls))) stream side ls
    ∙ ap (map (message_held app.app (way_of stream side ls).held)) (sym (each_once app.framer past stream side))

away_told : (app : Option StreamApp) (stream : ℕ) (side : Bool) (l : Label) (ls : List Label) → IsAway stream l → told_by app stream side (l ∷ ls) ≡ told_by app stream side ls
away_told None stream side l ls away = refl
away_told (Some app) stream side l ls away =
    ap (λ (w : WayState). map (message_held app.app w.held) (shown_so_far app.framer stream side (l ∷ ls))) (away_way stream side l ls away)
    ∙ ap (λ (bs : List Brought). map (message_held app.app (way_of stream side ls).held) (shown_in side (noted app.framer bs))) (away_brought stream l ls away)

other_told : (app : Option StreamApp) (stream : ℕ) (side : Bool) (l : Label) (ls : List Label) → IsHere stream l → same_side side l.side ≡ false → told_by app stream side (l ∷ ls) ≡ told_by app stream side ls
other_told None stream side l ls here other = refl
other_told (Some app) stream side l ls here other =
    ap (λ (h : Held). map (message_held app.app h) (shown_so_far app.framer stream side (l ∷ ls))) (other_held stream side l ls here other)
    ∙ ap (map (message_held app.app (way_of stream side ls).held)) (other_shown app.framer stream side l ls here other)

own_told : (app : Option StreamApp) (l : Label) (ls : List Label) → told_by app l.stream l.side (l ∷ ls) ≡ told_by app l.stream l.side ls ++ all_held app (way_with l ls).held l ls
own_told None l ls = refl
own_told (Some app) l ls =
    let w : WayState = way_of l.stream l.side ls in
    let old : List Placed = shown_so_far app.framer l.stream l.side ls in
    ap (λ (v : WayState). map (message_held app.app v.held) (shown_so_far app.framer l.stream l.side (l ∷ ls))) (with_own l ls)
    ∙ ap (map (message_held app.app (own_step w l.segment).held)) (own_shown app.framer l ls)
    ∙ map-append (message_held app.app (own_step w l.segment).held) old (messages_at app.framer l ls)
    ∙ ap (λ (xs : List MessageShown). xs ++ map (message_held app.app (own_step w l.segment).held) (messages_at app.framer l ls)) (own_stays app.app w l.segment old (all_in app.framer l.stream l.side ls))

-- ---- a frame more

none_told : (app : Option StreamApp) (stream : ℕ) (side : Bool) (ls : List Label) → brought stream ls ≡ [] → told_by app stream side ls ≡ []
none_told None stream side ls none = refl
none_told (Some app) stream side ls none = ap (λ (bs : List Brought). map (message_held app.app (way_of stream side ls).held) (shown_in side (noted app.framer bs))) none

-- what was shown of a label's stream, by the application of its segment
known_told : (rules : List PortRule) (s : Segment) (ls : List Label) (l : Label) (side : Bool) → IsNext rules s ls l
    → told_by (app_of_stream rules l.stream ls) l.stream side ls ≡ told_by (app_of_segment rules l.segment) l.stream side ls
known_told rules s ls l side next = by next.known
  where
    by : AllBelow l.stream ls ⊎ (app_of_segment rules s ≡ app_of_stream rules l.stream ls) → told_by (app_of_stream rules l.stream ls) l.stream side ls ≡ told_by (app_of_segment rules l.segment) l.stream side ls
    by (inl below) =
        let none : brought l.stream ls ≡ [] = none_brought l.stream ls below in
        none_told (app_of_stream rules l.stream ls) l.stream side ls none ∙ sym (none_told (app_of_segment rules l.segment) l.stream side ls none)
    by (inr is) = ap (λ (a : Option StreamApp). told_by a l.stream side ls) (sym is ∙ ap (app_of_segment rules) (sym next.segment))

here_app : (rules : List PortRule) (stream : ℕ) (l : Label) (ls : List Label) → IsHere stream l → app_of_stream rules stream (l ∷ ls) ≡ app_of_segment rules l.segment
here_app rules stream l ls here = cond-true _ _ _ here

abbrev all_told : List PortRule → ℕ → Bool → List Label → List MessageShown
all_told rules stream side ls = told_by (app_of_stream rules stream ls) stream side ls

abbrev of_label : List PortRule → Label → List Label → List MessageShown
of_label rules l ls = all_held (app_of_segment rules l.segment) (way_with l ls).held l ls

label_away : (rules : List PortRule) (stream : ℕ) (side : Bool) (l : Label) (ls : List Label) → IsAway stream l → all_told rules stream side (l ∷ ls) ≡ all_told rules stream side ls
label_away rules stream side l ls away =
    ap (λ (a : Option StreamApp). told_by a stream side (l ∷ ls)) (cond-false _ _ _ away) ∙ away_told (app_of_stream rules stream ls) stream side l ls away

label_other : (rules : List PortRule) (s : Segment) (side : Bool) (l : Label) (ls : List Label) → IsNext rules s ls l → same_side side l.side ≡ false → all_told rules l.stream side (l ∷ ls) ≡ all_told rules l.stream side ls
label_other rules s side l ls next other =
    ap (λ (a : Option StreamApp). told_by a l.stream side (l ∷ ls)) (here_app rules l.stream l ls (same_number l.stream))
    ∙ other_told (app_of_segment rules l.segment) l.stream side l ls (same_number l.stream) other
    ∙ sym (known_told rules s ls l side next)

label_own : (rules : List PortRule) (s : Segment) (l : Label) (ls : List Label) → IsNext rules s ls l → all_told rules l.stream l.side (l ∷ ls) ≡ all_told rules l.stream l.side ls ++ of_label rules l ls
label_own rules s l ls next =
    ap (λ (a : Option StreamApp). told_by a l.stream l.side (l ∷ ls)) (here_app rules l.stream l ls (same_number l.stream))
    ∙ own_told (app_of_segment rules l.segment) l ls
    ∙ ap (λ (xs : List MessageShown). xs ++ of_label rules l ls) (sym (known_told rules s ls l l.side next))

and_true : (a b : Bool) → a ≡ true → (a && b) ≡ b
and_true true b is = refl
and_true false b is = absurd (false≢true is)

and_false : (a b : Bool) → a ≡ false → (a && b) ≡ false
and_false true b is = absurd (false≢true (sym is))
and_false false b is = refl

skipped : (b : Bool) (old new : List MessageShown) → b ≡ false → old ++ (if b then new else []) ≡ old
skipped b old new is = ap (λ (xs : List MessageShown). old ++ xs) (cond-false _ _ _ is) ∙ append-nil old

label_next : (rules : List PortRule) (s : Segment) (stream : ℕ) (side : Bool) (l : Label) (ls : List Label) → IsNext rules s ls l
    → all_told rules stream side ls ++ (if is_of stream side (Some l) then of_label rules l ls else []) ≡ all_told rules stream side (l ∷ ls)
label_next rules s stream side l ls next = elim (eqb_tells l.stream stream) [
  | inr away ↦
      skipped (l.stream == stream && same_side side l.side) (all_told rules stream side ls) (of_label rules l ls) (and_false (l.stream == stream) (same_side side l.side) away.0)
      ∙ sym (label_away rules stream side l ls away.0)
  | inl here ↦ elim (cases_Bool (same_side side l.side)) [
    | inr other ↦
        skipped (l.stream == stream && same_side side l.side) (all_told rules stream side ls) (of_label rules l ls) (and_true (l.stream == stream) (same_side side l.side) here.0 ∙ other)
        ∙ sym (subst (λ (n : ℕ). all_told rules n side (l ∷ ls) ≡ all_told rules n side ls) here.1 (label_other rules s side l ls next other))
    | inl own ↦
        ap (λ (xs : List MessageShown). all_told rules stream side ls ++ xs) (cond-true _ _ _ (and_true (l.stream == stream) (same_side side l.side) here.0 ∙ own))
        ∙ sym (subst (λ (n : ℕ). all_told rules n side (l ∷ ls) ≡ all_told rules n side ls ++ of_label rules l ls) here.1
        (subst (λ (b : Bool). all_told rules l.stream b (l ∷ ls) ≡ all_told rules l.stream b ls ++ of_label rules l ls) (side_is side l.side own) (label_own rules s l ls next)))
  ]
]

-- what a segment's frame shows
segment_label : (rules : List PortRule) (past : List Segment) (s : Segment) → segment_messages rules past (Some s) ≡ of_label rules (label_of s (labels past)) (labels past)
segment_label rules past s =
    shown_held (app_of_segment rules s) past s
    ∙ ap (λ (t : Segment). all_held (app_of_segment rules t) (way_with (label_of s (labels past)) (labels past)).held (label_of s (labels past)) (labels past)) (sym (label_segment s (labels past)))

segment_next : (rules : List PortRule) (past : List Segment) (stream : ℕ) (side : Bool) (newest : Option Segment)
    → all_told rules stream side (labels past)
    ++ (if is_of stream side (option_map (λ (s : Segment). label_of s (labels past)) newest) then segment_messages rules past newest else [])
    ≡ all_told rules stream side (labels (with_newest newest past))
segment_next rules past stream side None = append-nil (all_told rules stream side (labels past))
segment_next rules past stream side (Some s) =
    let ls : List Label = labels past in
    ap (λ (xs : List MessageShown). all_told rules stream side ls ++ (if is_of stream side (Some (label_of s ls)) then xs else [])) (segment_label rules past s)
    ∙ label_next rules s stream side (label_of s ls) ls (next_is rules s past (stream_has rules past))

frame_next : (rules : List PortRule) (past : List Frame) (frame : Frame) (stream : ℕ) (side : Bool) (before : List MessageShown) → before ≡ all_told rules stream side (labels_before past)
    → before ++ (if is_of stream side (label_in past frame) then tree_messages (tree_at rules past frame) else []) ≡ all_told rules stream side (labels_before (frame ∷ past))
frame_next rules past frame stream side before is =
    let old : List MessageShown = all_told rules stream side (labels_before past) in
    let own : Bool = is_of stream side (label_in past frame) in
    ap (λ (xs : List MessageShown). xs ++ (if own then tree_messages (tree_at rules past frame) else [])) is
    ∙ ap (λ (xs : List MessageShown). old ++ (if own then xs else [])) (frames_show rules past frame)
    ∙ segment_next rules (segments_before past) stream side (frame_segment past frame)
    ∙ ap (λ (ss : List Segment). all_told rules stream side (labels ss)) (sym (frames_bring past frame))

trees_told : (rules : List PortRule) (past : List Frame) (stream : ℕ) (side : Bool) → trees_show (tree_at rules) stream side past ≡ all_told rules stream side (labels_before past)
unfolding segments_of events_of
trees_told rules [] stream side = refl
trees_told rules (frame ∷ past) stream side = frame_next rules past frame stream side (trees_show (tree_at rules) stream side past) (trees_told rules past stream side)

pub joined : MessagesInTrees
joined rules past stream side =
    trees_told rules past stream side
    ∙ sym (whole_told (app_of_stream rules stream (labels_before past)) stream side (segments_before past))

-- trees that show the same messages
pub same_trees : (tree other : List Frame → Frame → TreeShown) (stream : ℕ) (side : Bool) (past : List Frame) → ((earlier : List Frame) (frame : Frame) → tree_messages (tree earlier frame) ≡ tree_messages (other earlier frame))
    → trees_show tree stream side past ≡ trees_show other stream side past
same_trees tree other stream side [] same = refl
same_trees tree other stream side (frame ∷ past) same =
    let own : Bool = is_of stream side (label_in past frame) in
    ap (λ (xs : List MessageShown). xs ++ (if own then tree_messages (tree past frame) else [])) (same_trees tree other stream side past same)
    ∙ ap (λ (xs : List MessageShown). trees_show other stream side past ++ (if own then xs else [])) (same past frame)
