-- A conversation's streams depend on its own segments alone.
use Rattle.std.proofs.Common.{◌≡◌, ℕ, ◌+◌, ◌%◌, ◌^◌, Bool, true, false, cond, not, ◌&&◌, List, [], ◌∷◌, length, Option, None, Some, unwrap_or, is_some, option_map, eqb, refl, sym, ap, ◌∙◌, subst, inl, inr}
use Rattle.std.proofs.lemmas.Bool.{false≢true, cases_Bool}
use Rattle.tcp_streams.specs.declared.segment.Segment.{Segment}
use Rattle.tcp_streams.specs.declared.ends.End.{End}
use Rattle.tcp_streams.specs.declared.ends.Ends.{Ends}
use Rattle.tcp_streams.specs.Numbers.{position_ahead}
use Rattle.tcp_streams.specs.Ways.{WayState, Sided}
use Rattle.tcp_streams.specs.Conversations.{end_of_endpoint, same_bool, same_end, same_ends, ends_between, ends_of}
use Rattle.tcp_streams.specs.Labels.{Label, latest, opened, opener, sided_of, way_of, side_in, restarts, opening, following, goes_on, label_on, label_of, labels, number_in, ack_in, told, told_at}
use Rattle.tcp_streams.specs.Isolation.{IsSameButFrame, AreSameSided, IsSameWay, AreSameSegments, between, HaveSameBetween, streams_of, AreSameStreams, IsSameTaken, IsIsolated}
use Rattle.tcp_streams.proofs.StandsLemmas.{none_new, same_ends_is}
use Rattle.tcp_streams.proofs.FramesAside.{end_same, lost_same, front_same, origin_same, ahead_same, own_same, frames_aside}
use Rattle.tcp_streams.proofs.Keyed.{AllLow, Falling, first_of, Known, known, Apart, low_apart, mine_apart, label_cases, latest_key, latest_keyed, same_number}

-- keys
bool_self : (b : Bool) → same_bool b b ≡ true
bool_self true = refl
bool_self false = refl

end_self : (a : End) → same_end a a ≡ true
end_self a = rw (bool_self a.six, same_number a.address, same_number a.port) refl

ends_self : (a : Ends) → same_ends a a ≡ true
ends_self a = rw (end_self a.lesser, end_self a.greater) refl

ends_same : (s t : Segment) → IsSameButFrame s t → ends_of s ≡ ends_of t
ends_same s t same = λ i. ends_between (end_of_endpoint (same.from i)) (end_of_endpoint (same.to i))

-- a stream by its numbers in two lists of labels
record IsRun (ls ms : List Label) (j k : ℕ) : Type 0 where
  segments : AreSameSided (sided_of j ls) (sided_of k ms)
  opened_by : opener j ls ≡ opener k ms

abbrev AreRuns : List Label → List Label → List ℕ → List ℕ → Type 0
AreRuns ls ms [] [] = Unit {0}
AreRuns ls ms (j ∷ js) (k ∷ ks) = IsRun ls ms j k × AreRuns ls ms js ks
AreRuns ls ms [] (k ∷ ks) = ⊥
AreRuns ls ms (j ∷ js) [] = ⊥

and_none : (b : Bool) → b && false ≡ false
and_none true = refl
and_none false = refl

sided_stays : (l : Label) (ls : List Label) (j : ℕ) → eqb l.stream j ≡ false → sided_of j (l ∷ ls) ≡ sided_of j ls
sided_stays l ls j apart = rw apart refl

opener_stays : (l : Label) (ls : List Label) (j : ℕ) → eqb l.stream j ≡ false → opener j (l ∷ ls) ≡ opener j ls
opener_stays l ls j apart = ap (λ (b : Bool). cond b (Some l.segment.from) (opener j ls)) (ap (λ (b : Bool). l.opens && b) apart ∙ and_none l.opens)

runs_left : (l : Label) (ls ms : List Label) (js ks : List ℕ) → Apart l.stream js → AreRuns ls ms js ks → AreRuns (l ∷ ls) ms js ks
runs_left l ls ms [] [] apart runs = tt
runs_left l ls ms (j ∷ js) (k ∷ ks) apart runs = (
  record {
    segments = subst (λ (ss : List Sided). AreSameSided ss (sided_of k ms)) (sym (sided_stays l ls j apart.0)) runs.0.segments;
    opened_by = opener_stays l ls j apart.0 ∙ runs.0.opened_by;
  },
  runs_left l ls ms js ks apart.1 runs.1,
)
runs_left l ls ms [] (k ∷ ks) apart runs = absurd runs
runs_left l ls ms (j ∷ js) [] apart runs = absurd runs

runs_right : (m : Label) (ls ms : List Label) (js ks : List ℕ) → Apart m.stream ks → AreRuns ls ms js ks → AreRuns ls (m ∷ ms) js ks
runs_right m ls ms [] [] apart runs = tt
runs_right m ls ms (j ∷ js) (k ∷ ks) apart runs = (
  record {
    segments = subst (λ (ss : List Sided). AreSameSided (sided_of j ls) ss) (sym (sided_stays m ms k apart.0)) runs.0.segments;
    opened_by = runs.0.opened_by ∙ sym (opener_stays m ms k apart.0);
  },
  runs_right m ls ms js ks apart.1 runs.1,
)
runs_right m ls ms [] (k ∷ ks) apart runs = absurd runs
runs_right m ls ms (j ∷ js) [] apart runs = absurd runs

abbrev Matched : Segment → List Label → List Label → Type 0
Matched s ls ms = AreRuns ls ms (streams_of s ls) (streams_of s ms)

-- a segment of another conversation
left_opens : (s t : Segment) (ls ms : List Label) → Known s ls → same_ends (ends_of t) (ends_of s) ≡ false → Matched s ls ms → Matched s (opening t ls ∷ ls) ms
left_opens s t ls ms known apart runs = rw apart (runs_left (opening t ls) ls ms (streams_of s ls) (streams_of s ms) (low_apart (opened ls) (streams_of s ls) known.low) runs)

right_opens : (s t : Segment) (ls ms : List Label) → Known s ms → same_ends (ends_of t) (ends_of s) ≡ false → Matched s ls ms → Matched s ls (opening t ms ∷ ms)
right_opens s t ls ms known apart runs = rw apart (runs_right (opening t ms) ls ms (streams_of s ls) (streams_of s ms) (low_apart (opened ms) (streams_of s ms) known.low) runs)

left_other : (s t : Segment) (ls ms : List Label) → Known s ls → same_ends (ends_of t) (ends_of s) ≡ false → Matched s ls ms → Matched s (label_of t ls ∷ ls) ms
left_other s t ls ms known apart runs = elim (label_cases t ls) [
  | inl opens ↦ subst (λ (l : Label). Matched s (l ∷ ls) ms) (sym opens) (left_opens s t ls ms known apart runs)
  | inr follows ↦ subst (λ (l : Label). Matched s (l ∷ ls) ms) (sym follows.goes)
      (runs_left (following follows.last.stream t ls) ls ms (streams_of s ls) (streams_of s ms)
      (mine_apart s t ls follows.last.stream (streams_of s ls) (latest_keyed t ls ls follows.last known.keyed follows.is_last) apart (ends_self (ends_of t)) known.mine) runs)
]

right_other : (s t : Segment) (ls ms : List Label) → Known s ms → same_ends (ends_of t) (ends_of s) ≡ false → Matched s ls ms → Matched s ls (label_of t ms ∷ ms)
right_other s t ls ms known apart runs = elim (label_cases t ms) [
  | inl opens ↦ subst (λ (l : Label). Matched s ls (l ∷ ms)) (sym opens) (right_opens s t ls ms known apart runs)
  | inr follows ↦ subst (λ (l : Label). Matched s ls (l ∷ ms)) (sym follows.goes)
      (runs_right (following follows.last.stream t ms) ls ms (streams_of s ls) (streams_of s ms)
      (mine_apart s t ms follows.last.stream (streams_of s ms) (latest_keyed t ms ms follows.last known.keyed follows.is_last) apart (ends_self (ends_of t)) known.mine) runs)
]

-- whether a segment opens a stream
abbrev restarts_at : ℕ → Segment → List Label → Bool
restarts_at n t ls = restarts (way_of n (side_in n t ls) ls).origin t

some_number : (j k : ℕ) → Some j ≡ Some k → j ≡ k
some_number j k e = ap (λ (o : Option ℕ). unwrap_or o j) e

label_at : (t : Segment) (ls : List Label) (j : ℕ) → option_map (λ (l : Label). l.stream) (latest t ls) ≡ Some j → label_of t ls ≡ label_on (cond (restarts_at j t ls) None (Some j)) t ls
label_at t ls j = elim (latest t ls) as (λ (o : Option Label). option_map (λ (l : Label). l.stream) o ≡ Some j → label_on (goes_on o t ls) t ls ≡ label_on (cond (restarts_at j t ls) None (Some j)) t ls) [
  | None ↦ λ e. absurd (false≢true (ap is_some e))
  | Some l ↦ λ e. ap (λ (n : ℕ). label_on (cond (restarts_at n t ls) None (Some n)) t ls) (some_number l.stream j e)
]

label_first : (t : Segment) (ls : List Label) → option_map (λ (l : Label). l.stream) (latest t ls) ≡ None → label_of t ls ≡ opening t ls
label_first t ls = elim (latest t ls) as (λ (o : Option Label). option_map (λ (l : Label). l.stream) o ≡ None → label_on (goes_on o t ls) t ls ≡ opening t ls) [
  | None ↦ λ e. refl
  | Some l ↦ λ e. absurd (false≢true (sym (ap is_some e)))
]

side_same : (t u : Segment) (ls ms : List Label) (j k : ℕ) → IsRun ls ms j k → IsSameButFrame t u → side_in j t ls ≡ side_in k u ms
side_same t u ls ms j k run same =
    λ i. not (same_end (end_of_endpoint (same.from i)) (end_of_endpoint (unwrap_or (run.opened_by i) (same.from i))))

restarts_same : (o : Option ℕ) (t u : Segment) → IsSameButFrame t u → restarts o t ≡ restarts o u
restarts_same None t u same = refl
restarts_same (Some origin) t u same = λ i. same.syn i && (not (same.acked i) && not (eqb origin ((same.seq i + 1) % 2 ^ 32)))

run_way : (ls ms : List Label) (j k : ℕ) (side : Bool) → IsRun ls ms j k → IsSameWay (sided_of j ls) (sided_of k ms) (way_of j side ls) (way_of k side ms)
run_way ls ms j k side run = frames_aside side (sided_of j ls) (sided_of k ms) run.segments

decide_same : (t u : Segment) (ls ms : List Label) (j k : ℕ) → IsRun ls ms j k → IsSameButFrame t u → restarts_at j t ls ≡ restarts_at k u ms
decide_same t u ls ms j k run same =
    ap (λ (o : Option ℕ). restarts o t) ((run_way ls ms j k (side_in j t ls) run).origin ∙ ap (λ (b : Bool). (way_of k b ms).origin) (side_same t u ls ms j k run same))
    ∙ restarts_same (way_of k (side_in k u ms) ms).origin t u same

-- a segment of the conversation, in both lists
both_open : (s t u : Segment) (ls ms : List Label) → Known s ls → Known s ms → same_ends (ends_of t) (ends_of s) ≡ true → same_ends (ends_of u) (ends_of s) ≡ true → IsSameButFrame t u
    → Matched s ls ms → Matched s (opening t ls ∷ ls) (opening u ms ∷ ms)
both_open s t u ls ms lk mk tk uk same runs =
    let l = opening t ls in
    let m = opening u ms in
    let first : sided_of (opened ls) (l ∷ ls) ≡ record { segment = t; side = false } ∷ [] =
    rw (same_number (opened ls)) (ap (λ (ss : List Sided). record { segment = t; side = false } ∷ ss) (none_new (opened ls) ls lk.below)) in
    let second : sided_of (opened ms) (m ∷ ms) ≡ record { segment = u; side = false } ∷ [] =
    rw (same_number (opened ms)) (ap (λ (ss : List Sided). record { segment = u; side = false } ∷ ss) (none_new (opened ms) ms mk.below)) in
    let run : IsRun (l ∷ ls) (m ∷ ms) (opened ls) (opened ms) = record {
      segments = subst (λ (ss : List Sided). AreSameSided ss (sided_of (opened ms) (m ∷ ms))) (sym first)
          (subst (λ (ss : List Sided). AreSameSided (record { segment = t; side = false } ∷ []) ss) (sym second) (record { segment = same; side = refl }, tt));
      opened_by = rw (same_number (opened ls), same_number (opened ms)) (ap Some same.from);
    } in
    rw (tk, uk) (
      run,
      runs_right m (l ∷ ls) ms (streams_of s ls) (streams_of s ms) (low_apart (opened ms) (streams_of s ms) mk.low)
          (runs_left l ls ms (streams_of s ls) (streams_of s ms) (low_apart (opened ls) (streams_of s ls) lk.low) runs),
    )

grown : (t u : Segment) (ls ms : List Label) (j k : ℕ) → IsRun ls ms j k → IsSameButFrame t u → IsRun (following j t ls ∷ ls) (following k u ms ∷ ms) j k
grown t u ls ms j k run same = record {
  segments = rw (same_number j, same_number k) (record { segment = same; side = side_same t u ls ms j k run same }, run.segments);
  opened_by = run.opened_by;
}

both_follow : (t u : Segment) (ls ms : List Label) (j k : ℕ) (js ks : List ℕ) → IsSameButFrame t u → AllLow j js → AllLow k ks → AreRuns ls ms (j ∷ js) (k ∷ ks)
    → AreRuns (following j t ls ∷ ls) (following k u ms ∷ ms) (j ∷ js) (k ∷ ks)
both_follow t u ls ms j k js ks same left right runs = (
  grown t u ls ms j k runs.0 same,
  runs_right (following k u ms) (following j t ls ∷ ls) ms js ks (low_apart k ks right) (runs_left (following j t ls) ls ms js ks (low_apart j js left) runs.1),
)

key_same : (s t : Segment) → same_ends (ends_of t) (ends_of s) ≡ true → ends_of t ≡ ends_of s
key_same s t same = same_ends_is (ends_of t) (ends_of s) same

head_for : (s t : Segment) (ls : List Label) (js : List ℕ) → Known s ls → same_ends (ends_of t) (ends_of s) ≡ true → streams_of s ls ≡ js
    → option_map (λ (l : Label). l.stream) (latest t ls) ≡ first_of js
head_for s t ls js lk tk is = ap (option_map (λ (l : Label). l.stream)) (latest_key s t ls (key_same s t tk)) ∙ lk.head ∙ ap first_of is

labels_both : (s : Segment) (ls ms : List Label) (l l' m m' : Label) → l ≡ l' → m ≡ m' → Matched s (l' ∷ ls) (m' ∷ ms) → Matched s (l ∷ ls) (m ∷ ms)
labels_both s ls ms l l' m m' left right runs =
    subst (λ (x : Label). Matched s (x ∷ ls) (m ∷ ms)) (sym left) (subst (λ (x : Label). Matched s (l' ∷ ls) (x ∷ ms)) (sym right) runs)

step_lists : (s t u : Segment) (ls ms : List Label) (js ks : List ℕ) → Known s ls → Known s ms → same_ends (ends_of t) (ends_of s) ≡ true → same_ends (ends_of u) (ends_of s) ≡ true
    → IsSameButFrame t u → Matched s ls ms → streams_of s ls ≡ js → streams_of s ms ≡ ks → AreRuns ls ms js ks → Falling js → Falling ks
    → Matched s (label_of t ls ∷ ls) (label_of u ms ∷ ms)
step_lists s t u ls ms [] [] lk mk tk uk same runs e f here left right =
    labels_both s ls ms (label_of t ls) (opening t ls) (label_of u ms) (opening u ms) (label_first t ls (head_for s t ls [] lk tk e)) (label_first u ms (head_for s u ms [] mk uk f))
    (both_open s t u ls ms lk mk tk uk same runs)
step_lists s t u ls ms (j ∷ js) (k ∷ ks) lk mk tk uk same runs e f here left right =
    let decide = decide_same t u ls ms j k here.0 same in
    let first = label_at t ls j (head_for s t ls (j ∷ js) lk tk e) in
    let second = label_at u ms k (head_for s u ms (k ∷ ks) mk uk f) in
    elim (cases_Bool (restarts_at j t ls)) [
      | inl opens ↦ labels_both s ls ms (label_of t ls) (opening t ls) (label_of u ms) (opening u ms)
          (first ∙ ap (λ (b : Bool). label_on (cond b None (Some j)) t ls) opens) (second ∙ ap (λ (b : Bool). label_on (cond b None (Some k)) u ms) (sym decide ∙ opens))
          (both_open s t u ls ms lk mk tk uk same runs)
      | inr goes ↦ labels_both s ls ms (label_of t ls) (following j t ls) (label_of u ms) (following k u ms)
          (first ∙ ap (λ (b : Bool). label_on (cond b None (Some j)) t ls) goes) (second ∙ ap (λ (b : Bool). label_on (cond b None (Some k)) u ms) (sym decide ∙ goes))
          (subst (λ (xs : List ℕ). AreRuns (following j t ls ∷ ls) (following k u ms ∷ ms) xs (streams_of s ms)) (sym e)
          (subst (λ (xs : List ℕ). AreRuns (following j t ls ∷ ls) (following k u ms ∷ ms) (j ∷ js) xs) (sym f)
          (both_follow t u ls ms j k js ks same left.0 right.0 here)))
    ]
step_lists s t u ls ms [] (k ∷ ks) lk mk tk uk same runs e f here left right = absurd here
step_lists s t u ls ms (j ∷ js) [] lk mk tk uk same runs e f here left right = absurd here

both_step : (s t u : Segment) (ls ms : List Label) → Known s ls → Known s ms → same_ends (ends_of t) (ends_of s) ≡ true → same_ends (ends_of u) (ends_of s) ≡ true
    → IsSameButFrame t u → Matched s ls ms → Matched s (label_of t ls ∷ ls) (label_of u ms ∷ ms)
both_step s t u ls ms lk mk tk uk same runs =
    step_lists s t u ls ms (streams_of s ls) (streams_of s ms) lk mk tk uk same runs refl refl runs lk.falling mk.falling

-- two lists with the same segments of the conversation
abbrev MatchedAfter : Segment → List Segment → List Segment → Type 0
MatchedAfter s past ys = HaveSameBetween s past ys → Matched s (labels past) (labels ys)

none_matched : (s : Segment) (ys : List Segment) → MatchedAfter s [] ys
none_matched s [] = λ same. tt
none_matched s (u ∷ ys) = elim (cases_Bool (same_ends (ends_of u) (ends_of s))) [
  | inl mine ↦ rw mine (λ same. absurd same)
  | inr other ↦ rw other (λ same. right_other s u [] (labels ys) (known s ys) other (none_matched s ys same))
]

mine_matched : (s t : Segment) (past : List Segment) → same_ends (ends_of t) (ends_of s) ≡ true → ((ys : List Segment) → MatchedAfter s past ys) → (ys : List Segment)
    → AreSameSegments (t ∷ between s past) (between s ys) → Matched s (labels (t ∷ past)) (labels ys)
mine_matched s t past tk before [] = λ same. absurd same
mine_matched s t past tk before (u ∷ ys) = elim (cases_Bool (same_ends (ends_of u) (ends_of s))) [
  | inl mine ↦ rw mine (λ same. both_step s t u (labels past) (labels ys) (known s past) (known s ys) tk mine same.0 (before ys same.1))
  | inr other ↦ rw other (λ same. right_other s u (labels (t ∷ past)) (labels ys) (known s ys) other (mine_matched s t past tk before ys same))
]

matched : (s : Segment) (past ys : List Segment) → MatchedAfter s past ys
matched s [] ys = none_matched s ys
matched s (t ∷ past) ys = elim (cases_Bool (same_ends (ends_of t) (ends_of s))) [
  | inl mine ↦ rw mine (mine_matched s t past mine (matched s past) ys)
  | inr other ↦ rw other (λ same. left_other s t (labels past) (labels ys) (known s past) other (matched s past ys same))
]

streams_same : (ls ms : List Label) (js ks : List ℕ) → AreRuns ls ms js ks → AreSameStreams ls ms js ks
streams_same ls ms [] [] runs = tt
streams_same ls ms (j ∷ js) (k ∷ ks) runs =
    (record { segments = runs.0.segments; way = λ side. run_way ls ms j k side runs.0 }, streams_same ls ms js ks runs.1)
streams_same ls ms [] (k ∷ ks) runs = absurd runs
streams_same ls ms (j ∷ js) [] runs = absurd runs

-- what the next segment is told to be
ack_same : (o : Option ℕ) (s t : Segment) → IsSameButFrame s t → ack_in o s ≡ ack_in o t
ack_same None s t same = refl
ack_same (Some origin) s t same = λ i. cond (same.acked i) (Some (number_in origin (same.ack i))) None

told_same : (j k : ℕ) (side : Bool) (ls ms other_ls other_ms : List Sided) (own other own' other' : WayState) (s t : Segment) → IsSameWay ls ms own own' → IsSameWay other_ls other_ms other other'
    → IsSameButFrame s t → IsSameTaken (told j side own other s) (told k side own' other' t)
unfolding told
told_same j k side ls ms other_ls other_ms own other own' other' s t way other_way same = record {
  side = refl;
  seq = λ i. number_in (origin_same ls ms own own' s t way same i) (same.seq i);
  ack = ap (λ (o : Option ℕ). ack_in o s) other_way.origin ∙ ack_same other'.origin s t same;
  position = λ i. position_ahead (front_same ls ms own own' way i) (ahead_same ls ms own own' s t way same i);
  front_before = end_same ls ms own own' way;
  front_after =
      let after = own_same (record { segment = s; side = true }) (record { segment = t; side = true }) ls ms own own' way same in
      λ i. after.start i + length (after.front i);
  lost = lost_same ls ms own own' way;
}

told_side : (j k : ℕ) (a b : Bool) (ls ms : List Label) (s t : Segment) → IsRun ls ms j k → a ≡ b → IsSameButFrame s t
    → IsSameTaken (told j a (way_of j a ls) (way_of j (not a) ls) s) (told k b (way_of k b ms) (way_of k (not b) ms) t)
told_side j k a b ls ms s t run sides same =
    subst (λ (x : Bool). IsSameTaken (told j a (way_of j a ls) (way_of j (not a) ls) s) (told k x (way_of k x ms) (way_of k (not x) ms) t)) sides
    (told_same j k a (sided_of j ls) (sided_of k ms) (sided_of j ls) (sided_of k ms) (way_of j a ls) (way_of j (not a) ls) (way_of k a ms) (way_of k (not a) ms) s t
    (run_way ls ms j k a run) (run_way ls ms j k (not a) run) same)

told_labels : (ls ms : List Label) (l l' m m' : Label) → l ≡ l' → m ≡ m' → IsSameTaken (told_at l' ls) (told_at m' ms) → IsSameTaken (told_at l ls) (told_at m ms)
told_labels ls ms l l' m m' left right same =
    subst (λ (x : Label). IsSameTaken (told_at x ls) (told_at m ms)) (sym left) (subst (λ (x : Label). IsSameTaken (told_at l' ls) (told_at x ms)) (sym right) same)

told_opens : (s t : Segment) (ls ms : List Label) → Known s ls → Known s ms → IsSameButFrame s t → IsSameTaken (told_at (opening s ls) ls) (told_at (opening t ms) ms)
told_opens s t ls ms lk mk same =
    let first : (side : Bool) → IsSameWay (sided_of (opened ls) ls) (sided_of (opened ms) ms) (way_of (opened ls) side ls) (way_of (opened ms) side ms) = λ side.
    frames_aside side (sided_of (opened ls) ls) (sided_of (opened ms) ms)
    (subst (λ (ss : List Sided). AreSameSided ss (sided_of (opened ms) ms)) (sym (none_new (opened ls) ls lk.below))
    (subst (λ (ss : List Sided). AreSameSided [] ss) (sym (none_new (opened ms) ms mk.below)) tt)) in
    told_same (opened ls) (opened ms) false (sided_of (opened ls) ls) (sided_of (opened ms) ms) (sided_of (opened ls) ls) (sided_of (opened ms) ms)
    (way_of (opened ls) false ls) (way_of (opened ls) true ls) (way_of (opened ms) false ms) (way_of (opened ms) true ms) s t (first false) (first true) same

told_lists : (s t : Segment) (ls ms : List Label) (js ks : List ℕ) → Known s ls → Known s ms → same_ends (ends_of t) (ends_of s) ≡ true → IsSameButFrame s t
    → streams_of s ls ≡ js → streams_of s ms ≡ ks → AreRuns ls ms js ks → IsSameTaken (told_at (label_of s ls) ls) (told_at (label_of t ms) ms)
told_lists s t ls ms [] [] lk mk tk same e f here =
    told_labels ls ms (label_of s ls) (opening s ls) (label_of t ms) (opening t ms) (label_first s ls (head_for s s ls [] lk (ends_self (ends_of s)) e))
    (label_first t ms (head_for s t ms [] mk tk f)) (told_opens s t ls ms lk mk same)
told_lists s t ls ms (j ∷ js) (k ∷ ks) lk mk tk same e f here =
    let decide = decide_same s t ls ms j k here.0 same in
    let first = label_at s ls j (head_for s s ls (j ∷ js) lk (ends_self (ends_of s)) e) in
    let second = label_at t ms k (head_for s t ms (k ∷ ks) mk tk f) in
    elim (cases_Bool (restarts_at j s ls)) [
      | inl opens ↦ told_labels ls ms (label_of s ls) (opening s ls) (label_of t ms) (opening t ms)
          (first ∙ ap (λ (b : Bool). label_on (cond b None (Some j)) s ls) opens) (second ∙ ap (λ (b : Bool). label_on (cond b None (Some k)) t ms) (sym decide ∙ opens))
          (told_opens s t ls ms lk mk same)
      | inr goes ↦ told_labels ls ms (label_of s ls) (following j s ls) (label_of t ms) (following k t ms)
          (first ∙ ap (λ (b : Bool). label_on (cond b None (Some j)) s ls) goes) (second ∙ ap (λ (b : Bool). label_on (cond b None (Some k)) t ms) (sym decide ∙ goes))
          (told_side j k (side_in j s ls) (side_in k t ms) ls ms s t here.0 (side_same s t ls ms j k here.0 same) same)
    ]
told_lists s t ls ms [] (k ∷ ks) lk mk tk same e f here = absurd here
told_lists s t ls ms (j ∷ js) [] lk mk tk same e f here = absurd here

pub is_isolated : (s : Segment) (past ys : List Segment) → HaveSameBetween s past ys → IsIsolated s past ys
is_isolated s past ys same =
    let ls = labels past in
    let ms = labels ys in
    let runs = matched s past ys same in
    record {
      streams = streams_same ls ms (streams_of s ls) (streams_of s ms) runs;
      told = λ t alike. told_lists s t ls ms (streams_of s ls) (streams_of s ms) (known s past) (known s ys)
          (subst (λ (e : Ends). same_ends e (ends_of s) ≡ true) (ends_same s t alike) (ends_self (ends_of s))) alike refl refl runs;
    }
