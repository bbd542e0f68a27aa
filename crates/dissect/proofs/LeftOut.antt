-- Events of other datagrams and conversations change nothing of how a frame is read.
use Rattle.std.proofs.Common.{◌≡◌, List, [], ◌∷◌, ◌++◌, refl, sym, ap, ◌∙◌, inl, inr}
use Rattle.std.proofs.lemmas.Bool.{cases_Bool}
use Rattle.std.proofs.lemmas.List.Elements.{filter-append}
use Rattle.pk_base.specs.declared.heads.FragmentHead.{FragmentHead}
use Rattle.ip_join.specs.Keys.{same_key}
use Rattle.ip_join.specs.Stands.{of_key}
use Rattle.ip_join.specs.declared.fragment.Fragment.{Fragment}
use Rattle.tcp_streams.specs.declared.segment.Segment.{Segment}
use Rattle.tcp_streams.specs.Conversations.{ends_of, same_ends}
use Rattle.tcp_streams.specs.Isolation.{between}
use Rattle.dissect.specs.Events.{Event, NewFrame, Piece, Udp, Tcp}
use Rattle.dissect.specs.Fragments.{fragment_from, fragments_of}
use Rattle.dissect.specs.Isolation.{AreAlikeFor, HaveSameNumbers, OthersLeftOut, OthersPutIn, ShareNothing, newest_events}
use Rattle.dissect.specs.Segments.{segment_from, segments_of}
use Rattle.dissect.specs.Trees.{walk_of}
use Rattle.dissect.proofs.Isolating.{IsSame, walk_same}

fragments_joined : (xs ys : List Event) → fragments_of (xs ++ ys) ≡ fragments_of xs ++ fragments_of ys
unfolding fragments_of
fragments_joined [] ys = refl
fragments_joined (NewFrame ∷ xs) ys = fragments_joined xs ys
fragments_joined (Piece frame head bytes ∷ xs) ys = ap (λ (fs : List Fragment). fragment_from frame head bytes ∷ fs) (fragments_joined xs ys)
fragments_joined (Udp frame packet head bytes ∷ xs) ys = fragments_joined xs ys
fragments_joined (Tcp frame packet head bytes ∷ xs) ys = fragments_joined xs ys

segments_joined : (xs ys : List Event) → segments_of (xs ++ ys) ≡ segments_of xs ++ segments_of ys
unfolding segments_of
segments_joined [] ys = refl
segments_joined (NewFrame ∷ xs) ys = segments_joined xs ys
segments_joined (Piece frame head bytes ∷ xs) ys = segments_joined xs ys
segments_joined (Udp frame packet head bytes ∷ xs) ys = segments_joined xs ys
segments_joined (Tcp frame packet head bytes ∷ xs) ys = ap (λ (ss : List Segment). segment_from frame packet head bytes ∷ ss) (segments_joined xs ys)

between_joined : (s : Segment) (xs ys : List Segment) → between s (xs ++ ys) ≡ between s xs ++ between s ys
between_joined s [] ys = refl
between_joined s (t ∷ xs) ys = elim (cases_Bool (same_ends (ends_of t) (ends_of s))) [
  | inl mine ↦ rw mine (ap (λ (ts : List Segment). t ∷ ts) (between_joined s xs ys))
  | inr other ↦ rw other (between_joined s xs ys)
]

abbrev pub pieces : FragmentHead → List Event → List Fragment
pieces head es = of_key head (fragments_of es)

abbrev pub mine : Segment → List Event → List Segment
mine s es = between s (segments_of es)

pub pieces_joined : (head : FragmentHead) (xs ys : List Event) → pieces head (xs ++ ys) ≡ pieces head xs ++ pieces head ys
pieces_joined head xs ys =
    ap (of_key head) (fragments_joined xs ys) ∙ filter-append (λ (g : Fragment). same_key g.head head) (fragments_of xs) (fragments_of ys)

pub mine_joined : (s : Segment) (xs ys : List Event) → mine s (xs ++ ys) ≡ mine s xs ++ mine s ys
mine_joined s xs ys = ap (between s) (segments_joined xs ys) ∙ between_joined s (segments_of xs) (segments_of ys)

pieces_stay : (head : FragmentHead) (later theirs earlier : List Event) → pieces head theirs ≡ [] → pieces head (later ++ (theirs ++ earlier)) ≡ pieces head (later ++ earlier)
pieces_stay head later theirs earlier none =
    pieces_joined head later (theirs ++ earlier)
    ∙ ap (λ (fs : List Fragment). pieces head later ++ fs) (pieces_joined head theirs earlier ∙ ap (λ (fs : List Fragment). fs ++ pieces head earlier) none)
    ∙ sym (pieces_joined head later earlier)

mine_stay : (s : Segment) (later theirs earlier : List Event) → mine s theirs ≡ [] → mine s (later ++ (theirs ++ earlier)) ≡ mine s (later ++ earlier)
mine_stay s later theirs earlier none =
    mine_joined s later (theirs ++ earlier)
    ∙ ap (λ (ss : List Segment). mine s later ++ ss) (mine_joined s theirs earlier ∙ ap (λ (ss : List Segment). ss ++ mine s earlier) none)
    ∙ sym (mine_joined s later earlier)

alike_without : (own later theirs earlier : List Event) → ShareNothing own theirs → HaveSameNumbers own (later ++ (theirs ++ earlier)) (later ++ earlier)
    → AreAlikeFor own (later ++ (theirs ++ earlier)) (later ++ earlier)
alike_without [] later theirs earlier none same = tt
alike_without (NewFrame ∷ own) later theirs earlier none same = alike_without own later theirs earlier none same
alike_without (Piece frame head bytes ∷ own) later theirs earlier none same =
    (pieces_stay head later theirs earlier none.0, alike_without own later theirs earlier none.1 same)
alike_without (Udp frame packet head bytes ∷ own) later theirs earlier none same = (same.0, alike_without own later theirs earlier none same.1)
alike_without (Tcp frame packet head bytes ∷ own) later theirs earlier none same = (
  record { segments = mine_stay (segment_from frame packet head bytes) later theirs earlier none.0; number = same.0 },
  alike_without own later theirs earlier none.1 same.1,
)

pub others_left_out : OthersLeftOut
others_left_out rules times later theirs earlier frame none same =
    let es : List Event = later ++ (theirs ++ earlier) in
    let is : IsSame rules es (later ++ earlier) (walk_of rules times es frame) (walk_of rules times (later ++ earlier) frame) =
    walk_same rules rules times es (later ++ earlier) frame (alike_without (newest_events (walk_of rules times es frame).events) later theirs earlier none same) in
    record { tree = is.tree; brings = is.own }

alike_turned : (own es others : List Event) → AreAlikeFor own es others → AreAlikeFor own others es
alike_turned [] es others alike = tt
alike_turned (NewFrame ∷ own) es others alike = alike_turned own es others alike
alike_turned (Piece frame head bytes ∷ own) es others alike = (sym alike.0, alike_turned own es others alike.1)
alike_turned (Udp frame packet head bytes ∷ own) es others alike = (sym alike.0, alike_turned own es others alike.1)
alike_turned (Tcp frame packet head bytes ∷ own) es others alike =
    (record { segments = sym alike.0.segments; number = sym alike.0.number }, alike_turned own es others alike.1)

pub others_put_in : OthersPutIn
others_put_in rules times later theirs earlier frame none same =
    let es : List Event = later ++ earlier in
    let others : List Event = later ++ (theirs ++ earlier) in
    let own : List Event = newest_events (walk_of rules times es frame).events in
    let is : IsSame rules es others (walk_of rules times es frame) (walk_of rules times others frame) =
    walk_same rules rules times es others frame (alike_turned own others es (alike_without own later theirs earlier none same)) in
    record { tree = sym is.tree; brings = sym is.own }
