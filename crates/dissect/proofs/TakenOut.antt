-- A capture from which other conversations' frames were taken out.
use Rattle.std.proofs.Common.{◌≡◌, ℕ, Bool, List, [], ◌∷◌, ◌++◌, map, refl, sym, ◌∙◌, ap, inl, inr}
use Rattle.std.proofs.lemmas.Bool.{cases_Bool}
use Rattle.std.proofs.lemmas.List.{map-append}
use Rattle.pk_base.specs.declared.heads.FragmentHead.{FragmentHead}
use Rattle.ip_join.specs.Keys.{same_key}
use Rattle.ip_join.specs.Renumbered.{renumbered as fragment_renumbered}
use Rattle.ip_join.specs.Stands.{of_key}
use Rattle.ip_join.specs.declared.fragment.Fragment.{Fragment}
use Rattle.tcp_streams.specs.Conversations.{ends_of, same_ends}
use Rattle.tcp_streams.specs.Isolation.{between}
use Rattle.tcp_streams.specs.declared.segment.Segment.{Segment}
use Rattle.tcp_messages.specs.Renumbered.{renumbered as segment_renumbered}
use Rattle.capture_read.specs.declared.frame.Frame.{Frame}
use Rattle.dissect.specs.Events.{Event, NewFrame, Piece, Udp, Tcp}
use Rattle.dissect.specs.Fragments.{fragment_from, fragments_of}
use Rattle.dissect.specs.Isolation.{brought}
use Rattle.dissect.specs.Numbering.{ConversationsStay, DatagramsStay, FragmentsStay, HaveSameConversations, HaveSameFragments, OthersTakenOut, event_renumbered, events_staying, frame_renumbered, staying}
use Rattle.dissect.specs.Segments.{segment_from, segments_of}
use Rattle.dissect.specs.Trees.{events_of}
use Rattle.dissect.proofs.ButNumbers.{brings_the_same, trees_but_numbers}
use Rattle.dissect.proofs.FramesAside.{frame_stands}

-- ---- by other numbers

fragments_renumbered : (r : ℕ → ℕ) (es : List Event) → fragments_of (map (event_renumbered r) es) ≡ map (fragment_renumbered r) (fragments_of es)
unfolding fragments_of
fragments_renumbered r [] = refl
fragments_renumbered r (NewFrame ∷ es) = fragments_renumbered r es
fragments_renumbered r (Piece frame head bytes ∷ es) = ap (λ (fs : List Fragment). fragment_from (r frame) head bytes ∷ fs) (fragments_renumbered r es)
fragments_renumbered r (Udp frame packet head bytes ∷ es) = fragments_renumbered r es
fragments_renumbered r (Tcp frame packet head bytes ∷ es) = fragments_renumbered r es

segments_renumbered : (r : ℕ → ℕ) (es : List Event) → segments_of (map (event_renumbered r) es) ≡ map (segment_renumbered r) (segments_of es)
unfolding segments_of
segments_renumbered r [] = refl
segments_renumbered r (NewFrame ∷ es) = segments_renumbered r es
segments_renumbered r (Piece frame head bytes ∷ es) = segments_renumbered r es
segments_renumbered r (Udp frame packet head bytes ∷ es) = segments_renumbered r es
segments_renumbered r (Tcp frame packet head bytes ∷ es) = ap (λ (ss : List Segment). segment_from (r frame) packet head bytes ∷ ss) (segments_renumbered r es)

of_key_renumbered : (r : ℕ → ℕ) (head : FragmentHead) (fs : List Fragment) → of_key head (map (fragment_renumbered r) fs) ≡ map (fragment_renumbered r) (of_key head fs)
of_key_renumbered r head [] = refl
of_key_renumbered r head (f ∷ fs) = elim (cases_Bool (same_key f.head head)) [
  | inl mine ↦ rw mine (ap (λ (gs : List Fragment). fragment_renumbered r f ∷ gs) (of_key_renumbered r head fs))
  | inr other ↦ rw other (of_key_renumbered r head fs)
]

between_renumbered : (r : ℕ → ℕ) (s : Segment) (past : List Segment) → between s (map (segment_renumbered r) past) ≡ map (segment_renumbered r) (between s past)
between_renumbered r s [] = refl
between_renumbered r s (t ∷ past) = elim (cases_Bool (same_ends (ends_of t) (ends_of s))) [
  | inl mine ↦ rw mine (ap (λ (ts : List Segment). segment_renumbered r t ∷ ts) (between_renumbered r s past))
  | inr other ↦ rw other (between_renumbered r s past)
]

-- ---- what stays of events

fragments_there : (r : ℕ → ℕ) (own all stayed others : List Event) → others ≡ map (event_renumbered r) stayed → FragmentsStay own all stayed → HaveSameFragments r own all others
fragments_there r [] all stayed others is stay = tt
fragments_there r (NewFrame ∷ own) all stayed others is stay = fragments_there r own all stayed others is stay
fragments_there r (Piece frame head bytes ∷ own) all stayed others is stay = (
  ap (λ (es : List Event). of_key head (fragments_of es)) is ∙ ap (of_key head) (fragments_renumbered r stayed) ∙ of_key_renumbered r head (fragments_of stayed) ∙ ap (map (fragment_renumbered r)) stay.0,
  fragments_there r own all stayed others is stay.1,
)
fragments_there r (Udp frame packet head bytes ∷ own) all stayed others is stay = fragments_there r own all stayed others is stay
fragments_there r (Tcp frame packet head bytes ∷ own) all stayed others is stay = fragments_there r own all stayed others is stay

conversations_there : (r : ℕ → ℕ) (own all stayed others : List Event) → others ≡ map (event_renumbered r) stayed → ConversationsStay r own all stayed → HaveSameConversations r own all others
conversations_there r [] all stayed others is stay = tt
conversations_there r (NewFrame ∷ own) all stayed others is stay = conversations_there r own all stayed others is stay
conversations_there r (Piece frame head bytes ∷ own) all stayed others is stay = conversations_there r own all stayed others is stay
conversations_there r (Udp frame packet head bytes ∷ own) all stayed others is stay = conversations_there r own all stayed others is stay
conversations_there r (Tcp frame packet head bytes ∷ own) all stayed others is stay =
    let s : Segment = segment_from frame packet head bytes in (
      record {
        order = stay.0.order;
        segments = ap (λ (es : List Event). between s (segments_of es)) is ∙ ap (between s) (segments_renumbered r stayed) ∙ between_renumbered r s (segments_of stayed) ∙ ap (map (segment_renumbered r)) stay.0.segments;
      },
      conversations_there r own all stayed others is stay.1,
    )

-- the events of the frames that stay, by their numbers
events_of_staying : (r : ℕ → ℕ) (stays : Frame → Bool) (past : List Frame) → DatagramsStay stays past → events_of (staying stays r past) ≡ map (event_renumbered r) (events_staying stays past)
unfolding events_of
events_of_staying r stays [] stay = refl
events_of_staying r stays (frame ∷ past) stay = elim (cases_Bool (stays frame)) [
  | inl here ↦
      let before : events_of (staying stays r past) ≡ map (event_renumbered r) (events_staying stays past) = events_of_staying r stays past stay.1 in
      rw here
      (frame_stands (staying stays r past) (frame_renumbered r frame)
      ∙ ap (λ (own : List Event). own ++ (NewFrame ∷ events_of (staying stays r past)))
      (brings_the_same r past (staying stays r past) frame (fragments_there r (brought past frame) (events_of past) (events_staying stays past) (events_of (staying stays r past)) before (stay.0 here)))
      ∙ ap (λ (es : List Event). map (event_renumbered r) (brought past frame) ++ (NewFrame ∷ es)) before
      ∙ sym (map-append (event_renumbered r) (brought past frame) (NewFrame ∷ events_staying stays past)))
  | inr gone ↦ rw gone (events_of_staying r stays past stay.1)
]

pub others_taken_out : OthersTakenOut
others_taken_out rules r stays past frame datagrams fragments conversations =
    let is : events_of (staying stays r past) ≡ map (event_renumbered r) (events_staying stays past) = events_of_staying r stays past datagrams in
    trees_but_numbers rules r past (staying stays r past) frame
    (fragments_there r (brought past frame) (events_of past) (events_staying stays past) (events_of (staying stays r past)) is fragments)
    (conversations_there r (brought past frame) (events_of past) (events_staying stays past) (events_of (staying stays r past)) is conversations)
