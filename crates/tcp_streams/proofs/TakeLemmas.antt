-- A segment that goes on with a stream, and one that opens a stream.
use Rattle.std.proofs.Common.{◌≡◌, ℕ, ◌+◌, ◌<◌, Bool, true, false, unwrap_or, Result, Ok, Err, IfOk, List, [], ◌∷◌, ◌++◌, length, Option, None, Some, slice_get, slice_set, get_or, cond, refl, sym, ap, ◌∙◌, subst}
use Rattle.std.proofs.lemmas.Option.{get_or_from_slice_get}
use Rattle.tcp_streams.specs.declared.ends.Ends.{Ends}
use Rattle.tcp_streams.specs.declared.newest.Newest.{Newest}
use Rattle.tcp_streams.specs.declared.segment.Segment.{Segment}
use Rattle.tcp_streams.specs.declared.segment.Taken.{Taken}
use Rattle.tcp_streams.specs.declared.stream.Stream.{Stream}
use Rattle.tcp_streams.specs.Ways.{way_step, same_side}
use Rattle.tcp_streams.specs.States.{state_of}
use Rattle.tcp_streams.specs.Conversations.{same_ends, ends_of, number_of}
use Rattle.tcp_streams.specs.Labels.{Label, side_from, told, label_of, told_at}
use Rattle.tcp_streams.specs.Stands.{Agrees, IsSound, IsStepped, IsOpened, current_in}
use Rattle.tcp_streams.proofs.StandsLemmas.{is_there, told_next, agrees_next, told_new, agrees_new, sound_next, sound_new}

abbrev pub Followed : List Stream → ℕ → Segment → Taken → List Stream → Type 0
Followed streams number s taken after =
    (old : Stream) → slice_get streams number ≡ Some old → (new : Stream) × (after ≡ slice_set streams number new) × IsStepped number (side_from old.first s) s old new taken

abbrev pub Started : List Stream → Newest → Segment → Taken → List Stream → Newest → Type 0
Started streams newest s taken after more =
    (new : Stream) × (after ≡ streams ++ new ∷ []) × IsOpened (length streams) s new taken
    × ((ends : Ends) → number_of more ends ≡ cond (same_ends (ends_of s) ends) (Some (length streams)) (number_of newest ends))

pub started : {E : Type 0} (streams : List Stream) (newest : Newest) (s : Segment) (after : List Stream) (more : Newest) (r : Result Taken E)
    → IfOk r (λ taken. (new : Stream) × (after ≡ streams ++ new ∷ []) × IsOpened (length streams) s new taken)
    → IfOk r (λ _. (ends : Ends) → number_of more ends ≡ cond (same_ends (ends_of s) ends) (Some (length streams)) (number_of newest ends))
    → IfOk r (λ taken. Started streams newest s taken after more)
started streams newest s after more (Ok taken) opened updates = (opened.0, opened.1, opened.2, updates)
started streams newest s after more (Err e) opened updates = tt

-- the stream by a number that is there
abbrev pub AtStream : List Stream → ℕ → Type 0
AtStream streams number = (old : Stream) × (slice_get streams number ≡ Some old)

pub at_stream : (streams : List Stream) (number : ℕ) → number < length streams → AtStream streams number
at_stream streams number low = elim (slice_get streams number) as (λ (o : Option Stream). slice_get streams number ≡ o → AtStream streams number) [
  | None ↦ λ none. absurd (is_there streams number low none)
  | Some old ↦ λ there. (old, there)
] refl

pub at_here : (streams : List Stream) (number : ℕ) (here : Stream) → number < length streams → here ≡ get_or streams number here → slice_get streams number ≡ Some here
at_here streams number here low is =
    let at = at_stream streams number low in
    let same : get_or streams number here ≡ at.0 = get_or_from_slice_get streams number at.0 here at.1 in
    at.1 ∙ ap Some (sym (is ∙ same))

abbrev IsFollowed : List Stream → ℕ → Segment → Taken → Stream → Option Stream → Type 0
IsFollowed streams number s taken new at =
    (old : Stream) → at ≡ Some old → (x : Stream) × (slice_set streams number new ≡ slice_set streams number x) × IsStepped number (side_from old.first s) s old x taken

stepped_at : (streams : List Stream) (number : ℕ) (side : Bool) (s : Segment) (here new : Stream) (taken : Taken) → side ≡ side_from here.first s
    → taken ≡ cond side (told number true (state_of here.one) (state_of here.zero) s) (told number false (state_of here.zero) (state_of here.one) s)
    → new.first ≡ here.first → state_of new.zero ≡ way_step (same_side false side) (state_of here.zero) s
    → state_of new.one ≡ way_step (same_side true side) (state_of here.one) s → IsFollowed streams number s taken new (Some here)
stepped_at streams number side s here new taken side_is told_is first zero one old e =
    let is : IsStepped number side s here new taken = record { first = first; zero = zero; one = one; told_is = told_is } in
    let same : here ≡ old = ap (λ (o : Option Stream). unwrap_or o here) e in
    (new, refl, subst (λ (st : Stream). IsStepped number (side_from st.first s) s st new taken) same (subst (λ (b : Bool). IsStepped number b s here new taken) side_is is))

pub followed : {E : Type 0} (streams : List Stream) (number : ℕ) (side : Bool) (s : Segment) (here new : Stream) (r : Result Taken E) → slice_get streams number ≡ Some here → side ≡ side_from here.first s
    → IfOk r (λ taken. taken ≡ cond side (told number true (state_of here.one) (state_of here.zero) s) (told number false (state_of here.zero) (state_of here.one) s))
    → IfOk r (λ _. new.first ≡ here.first) → IfOk r (λ _. state_of new.zero ≡ way_step (same_side false side) (state_of here.zero) s)
    → IfOk r (λ _. state_of new.one ≡ way_step (same_side true side) (state_of here.one) s) → IfOk r (λ taken. Followed streams number s taken (slice_set streams number new))
followed streams number side s here new (Ok taken) there side_is told_is first zero one =
    subst (λ (o : Option Stream). IsFollowed streams number s taken new o) (sym there) (stepped_at streams number side s here new taken side_is told_is first zero one)
followed streams number side s here new (Err e) there side_is told_is first zero one = tt

pub sound_followed : (n : ℕ) (newest : Newest) (streams after : List Stream) (s : Segment) (number : ℕ) (taken : Taken) → number < length streams
    → Followed streams number s taken after → IsSound newest streams n → IsSound newest after (n + 1)
sound_followed n newest streams after s number taken low followed sound =
    let at = at_stream streams number low in
    let f = followed at.0 at.1 in
    subst (λ (xs : List Stream). IsSound newest xs (n + 1)) (sym f.1) (sound_next n newest streams s number at.0 f.0 taken sound at.1 f.2)

pub told_followed : (ls : List Label) (newest : Newest) (streams after : List Stream) (s : Segment) (number : ℕ) (taken : Taken) → number < length streams
    → Followed streams number s taken after → current_in newest streams s ≡ Some number → Agrees ls newest streams → taken ≡ told_at (label_of s ls) ls
told_followed ls newest streams after s number taken low followed current agrees =
    let at = at_stream streams number low in
    let f = followed at.0 at.1 in
    told_next ls newest streams s number at.0 f.0 taken agrees current at.1 f.2

pub agrees_followed : (ls : List Label) (newest : Newest) (streams after : List Stream) (s : Segment) (number : ℕ) (taken : Taken) → number < length streams
    → Followed streams number s taken after → current_in newest streams s ≡ Some number → Agrees ls newest streams → Agrees (label_of s ls ∷ ls) newest after
agrees_followed ls newest streams after s number taken low followed current agrees =
    let at = at_stream streams number low in
    let f = followed at.0 at.1 in
    subst (λ (xs : List Stream). Agrees (label_of s ls ∷ ls) newest xs) (sym f.1) (agrees_next ls newest streams s number at.0 f.0 taken agrees current at.1 f.2)

pub sound_started : (n : ℕ) (newest more : Newest) (streams after : List Stream) (s : Segment) (taken : Taken) → Started streams newest s taken after more
    → IsSound newest streams n → IsSound more after (n + 1)
sound_started n newest more streams after s taken f sound =
    subst (λ (xs : List Stream). IsSound more xs (n + 1)) (sym f.1) (sound_new n newest more streams s f.0 taken sound f.2 f.3)

pub told_started : (ls : List Label) (newest more : Newest) (streams after : List Stream) (s : Segment) (taken : Taken) → Started streams newest s taken after more
    → current_in newest streams s ≡ None → Agrees ls newest streams → taken ≡ told_at (label_of s ls) ls
told_started ls newest more streams after s taken f current agrees = told_new ls newest streams s f.0 taken agrees current f.2

pub agrees_started : (ls : List Label) (newest more : Newest) (streams after : List Stream) (s : Segment) (taken : Taken) → Started streams newest s taken after more
    → current_in newest streams s ≡ None → Agrees ls newest streams → Agrees (label_of s ls ∷ ls) more after
agrees_started ls newest more streams after s taken f current agrees =
    subst (λ (xs : List Stream). Agrees (label_of s ls ∷ ls) more xs) (sym f.1) (agrees_new ls newest more streams s f.0 taken agrees current f.2 f.3)
