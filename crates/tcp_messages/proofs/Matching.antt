-- The streams of a conversation, in all segments and in its own alone, whose frames may have other numbers.
use Rattle.std.proofs.Common.{◌≡◌, ℕ, Bool, true, false, cond, not, ◌&&◌, List, [], ◌∷◌, Option, None, Some, unwrap_or, is_some, option_map, map, drop, eqb, refl, sym, ap, ◌∙◌, subst, inl, inr}
use Rattle.std.proofs.lemmas.Bool.{false≢true, cases_Bool}
use Rattle.tcp_streams.specs.declared.segment.Segment.{Segment}
use Rattle.tcp_streams.specs.declared.ends.End.{End}
use Rattle.tcp_streams.specs.declared.ends.Ends.{Ends}
use Rattle.tcp_streams.specs.Ways.{Sided, way_after}
use Rattle.tcp_streams.specs.Conversations.{end_of_endpoint, same_bool, same_end, same_ends, ends_of}
use Rattle.tcp_streams.specs.Labels.{Label, latest, opened, opener, sided_of, way_of, side_in, restarts, opening, following, goes_on, label_on, label_of, labels}
use Rattle.tcp_streams.specs.Isolation.{IsSameButFrame, AreSameSided, between, streams_of}
use Rattle.tcp_streams.proofs.StandsLemmas.{none_new, same_ends_is}
use Rattle.tcp_streams.proofs.FramesAside.{frames_aside}
use Rattle.tcp_streams.proofs.Keyed.{AllLow, Falling, first_of, Known, known, Apart, low_apart, mine_apart, label_cases, latest_key, latest_keyed, same_number}
use Rattle.tcp_messages.specs.Renumbered.{renumbered}

-- keys
bool_self : (b : Bool) → same_bool b b ≡ true
bool_self true = refl
bool_self false = refl

end_self : (a : End) → same_end a a ≡ true
end_self a = rw (bool_self a.six, same_number a.address, same_number a.port) refl

pub ends_self : (a : Ends) → same_ends a a ≡ true
ends_self a = rw (end_self a.lesser, end_self a.greater) refl

-- a stream's segments with other frames
abbrev pub side_renumbered : (ℕ → ℕ) → Sided → Sided
side_renumbered r l = record { segment = renumbered r l.segment; side = l.side }

abbrev pub sides_renumbered : (ℕ → ℕ) → List Sided → List Sided
sides_renumbered r ls = map (side_renumbered r) ls

pub same_but : (r : ℕ → ℕ) (s : Segment) → IsSameButFrame s (renumbered r s)
same_but r s = record { from = refl; to = refl; seq = refl; ack = refl; syn = refl; acked = refl; payload = refl }

pub same_sided : (r : ℕ → ℕ) (ls : List Sided) → AreSameSided ls (sides_renumbered r ls)
same_sided r [] = tt
same_sided r (l ∷ ls) = (record { segment = same_but r l.segment; side = refl }, same_sided r ls)

-- a stream by its numbers in two lists of labels
record IsRun (r : ℕ → ℕ) (ls ms : List Label) (j k : ℕ) : Type 0 where
  segments : sides_renumbered r (sided_of j ls) ≡ sided_of k ms
  opened_by : opener j ls ≡ opener k ms

abbrev AreRuns : (ℕ → ℕ) → List Label → List Label → List ℕ → List ℕ → Type 0
AreRuns r ls ms [] [] = Unit {0}
AreRuns r ls ms (j ∷ js) (k ∷ ks) = IsRun r ls ms j k × AreRuns r ls ms js ks
AreRuns r ls ms [] (k ∷ ks) = ⊥
AreRuns r ls ms (j ∷ js) [] = ⊥

and_none : (b : Bool) → b && false ≡ false
and_none true = refl
and_none false = refl

sided_stays : (l : Label) (ls : List Label) (j : ℕ) → eqb l.stream j ≡ false → sided_of j (l ∷ ls) ≡ sided_of j ls
sided_stays l ls j apart = rw apart refl

opener_stays : (l : Label) (ls : List Label) (j : ℕ) → eqb l.stream j ≡ false → opener j (l ∷ ls) ≡ opener j ls
opener_stays l ls j apart = ap (λ (b : Bool). cond b (Some l.segment.from) (opener j ls)) (ap (λ (b : Bool). l.opens && b) apart ∙ and_none l.opens)

runs_left : (r : ℕ → ℕ) (l : Label) (ls ms : List Label) (js ks : List ℕ) → Apart l.stream js → AreRuns r ls ms js ks → AreRuns r (l ∷ ls) ms js ks
runs_left r l ls ms [] [] apart runs = tt
runs_left r l ls ms (j ∷ js) (k ∷ ks) apart runs = (
  record {
    segments = ap (sides_renumbered r) (sided_stays l ls j apart.0) ∙ runs.0.segments;
    opened_by = opener_stays l ls j apart.0 ∙ runs.0.opened_by;
  },
  runs_left r l ls ms js ks apart.1 runs.1,
)
runs_left r l ls ms [] (k ∷ ks) apart runs = absurd runs
runs_left r l ls ms (j ∷ js) [] apart runs = absurd runs

runs_right : (r : ℕ → ℕ) (m : Label) (ls ms : List Label) (js ks : List ℕ) → Apart m.stream ks → AreRuns r ls ms js ks → AreRuns r ls (m ∷ ms) js ks
runs_right r m ls ms [] [] apart runs = tt
runs_right r m ls ms (j ∷ js) (k ∷ ks) apart runs = (
  record {
    segments = runs.0.segments ∙ sym (sided_stays m ms k apart.0);
    opened_by = runs.0.opened_by ∙ sym (opener_stays m ms k apart.0);
  },
  runs_right r m ls ms js ks apart.1 runs.1,
)
runs_right r m ls ms [] (k ∷ ks) apart runs = absurd runs
runs_right r m ls ms (j ∷ js) [] apart runs = absurd runs

abbrev Matched : (ℕ → ℕ) → Segment → List Label → List Label → Type 0
Matched r s ls ms = AreRuns r ls ms (streams_of s ls) (streams_of s ms)

-- a segment of another conversation
left_opens : (r : ℕ → ℕ) (s t : Segment) (ls ms : List Label) → Known s ls → same_ends (ends_of t) (ends_of s) ≡ false → Matched r s ls ms → Matched r s (opening t ls ∷ ls) ms
left_opens r s t ls ms known apart runs = rw apart (runs_left r (opening t ls) ls ms (streams_of s ls) (streams_of s ms) (low_apart (opened ls) (streams_of s ls) known.low) runs)

left_other : (r : ℕ → ℕ) (s t : Segment) (ls ms : List Label) → Known s ls → same_ends (ends_of t) (ends_of s) ≡ false → Matched r s ls ms → Matched r s (label_of t ls ∷ ls) ms
left_other r s t ls ms known apart runs = elim (label_cases t ls) [
  | inl opens ↦ subst (λ (l : Label). Matched r s (l ∷ ls) ms) (sym opens) (left_opens r s t ls ms known apart runs)
  | inr follows ↦ subst (λ (l : Label). Matched r s (l ∷ ls) ms) (sym follows.goes)
      (runs_left r (following follows.last.stream t ls) ls ms (streams_of s ls) (streams_of s ms)
      (mine_apart s t ls follows.last.stream (streams_of s ls) (latest_keyed t ls ls follows.last known.keyed follows.is_last) apart (ends_self (ends_of t)) known.mine) runs)
]

-- whether a segment opens a stream
abbrev restarts_at : ℕ → Segment → List Label → Bool
restarts_at n t ls = restarts (way_of n (side_in n t ls) ls).origin t

some_number : (j k : ℕ) → Some j ≡ Some k → j ≡ k
some_number j k e = ap (λ (o : Option ℕ). unwrap_or o j) e

label_at : (t : Segment) (ls : List Label) (j : ℕ) → option_map (λ (l : Label). l.stream) (latest t ls) ≡ Some j → label_of t ls ≡ label_on (cond (restarts_at j t ls) None (Some j)) t ls
label_at t ls j = elim (latest t ls) as (λ (o : Option Label). option_map (λ (l : Label). l.stream) o ≡ Some j → label_on (goes_on o t ls) t ls ≡ label_on (cond (restarts_at j t ls) None (Some j)) t ls) [
  | None ↦ λ e. absurd (false≢true (ap is_some e))
  | Some l ↦ λ e. ap (λ (n : ℕ). label_on (cond (restarts_at n t ls) None (Some n)) t ls) (some_number l.stream j e)
]

label_first : (t : Segment) (ls : List Label) → option_map (λ (l : Label). l.stream) (latest t ls) ≡ None → label_of t ls ≡ opening t ls
label_first t ls = elim (latest t ls) as (λ (o : Option Label). option_map (λ (l : Label). l.stream) o ≡ None → label_on (goes_on o t ls) t ls ≡ opening t ls) [
  | None ↦ λ e. refl
  | Some l ↦ λ e. absurd (false≢true (sym (ap is_some e)))
]

side_same : (r : ℕ → ℕ) (t : Segment) (ls ms : List Label) (j k : ℕ) → IsRun r ls ms j k → side_in j t ls ≡ side_in k (renumbered r t) ms
side_same r t ls ms j k run = λ i. not (same_end (end_of_endpoint t.from) (end_of_endpoint (unwrap_or (run.opened_by i) t.from)))

restarts_same : (r : ℕ → ℕ) (o : Option ℕ) (t : Segment) → restarts o t ≡ restarts o (renumbered r t)
restarts_same r None t = refl
restarts_same r (Some origin) t = refl

run_origin : (r : ℕ → ℕ) (ls ms : List Label) (j k : ℕ) (side : Bool) → IsRun r ls ms j k → (way_of j side ls).origin ≡ (way_of k side ms).origin
run_origin r ls ms j k side run =
    (frames_aside side (sided_of j ls) (sides_renumbered r (sided_of j ls)) (same_sided r (sided_of j ls))).origin
    ∙ ap (λ (ss : List Sided). (way_after side ss).origin) run.segments

decide_same : (r : ℕ → ℕ) (t : Segment) (ls ms : List Label) (j k : ℕ) → IsRun r ls ms j k → restarts_at j t ls ≡ restarts_at k (renumbered r t) ms
decide_same r t ls ms j k run =
    ap (λ (o : Option ℕ). restarts o t) (run_origin r ls ms j k (side_in j t ls) run ∙ ap (λ (b : Bool). (way_of k b ms).origin) (side_same r t ls ms j k run))
    ∙ restarts_same r (way_of k (side_in k (renumbered r t) ms) ms).origin t

-- a segment of the conversation, in both lists
both_open : (r : ℕ → ℕ) (s t : Segment) (ls ms : List Label) → Known s ls → Known s ms → same_ends (ends_of t) (ends_of s) ≡ true → Matched r s ls ms
    → Matched r s (opening t ls ∷ ls) (opening (renumbered r t) ms ∷ ms)
both_open r s t ls ms lk mk tk runs =
    let l = opening t ls in
    let m = opening (renumbered r t) ms in
    let first : sided_of (opened ls) (l ∷ ls) ≡ record { segment = t; side = false } ∷ [] =
    rw (same_number (opened ls)) (ap (λ (ss : List Sided). record { segment = t; side = false } ∷ ss) (none_new (opened ls) ls lk.below)) in
    let second : sided_of (opened ms) (m ∷ ms) ≡ record { segment = renumbered r t; side = false } ∷ [] =
    rw (same_number (opened ms)) (ap (λ (ss : List Sided). record { segment = renumbered r t; side = false } ∷ ss) (none_new (opened ms) ms mk.below)) in
    let run : IsRun r (l ∷ ls) (m ∷ ms) (opened ls) (opened ms) = record {
      segments = ap (sides_renumbered r) first ∙ sym second;
      opened_by = rw (same_number (opened ls), same_number (opened ms)) refl;
    } in
    rw tk (
      run,
      runs_right r m (l ∷ ls) ms (streams_of s ls) (streams_of s ms) (low_apart (opened ms) (streams_of s ms) mk.low)
          (runs_left r l ls ms (streams_of s ls) (streams_of s ms) (low_apart (opened ls) (streams_of s ls) lk.low) runs),
    )

grown : (r : ℕ → ℕ) (t : Segment) (ls ms : List Label) (j k : ℕ) → IsRun r ls ms j k → IsRun r (following j t ls ∷ ls) (following k (renumbered r t) ms ∷ ms) j k
grown r t ls ms j k run = record {
  segments = rw (same_number j, same_number k) (λ i. record { segment = renumbered r t; side = side_same r t ls ms j k run i } ∷ run.segments i);
  opened_by = run.opened_by;
}

both_follow : (r : ℕ → ℕ) (t : Segment) (ls ms : List Label) (j k : ℕ) (js ks : List ℕ) → AllLow j js → AllLow k ks → AreRuns r ls ms (j ∷ js) (k ∷ ks)
    → AreRuns r (following j t ls ∷ ls) (following k (renumbered r t) ms ∷ ms) (j ∷ js) (k ∷ ks)
both_follow r t ls ms j k js ks left right runs = (
  grown r t ls ms j k runs.0,
  runs_right r (following k (renumbered r t) ms) (following j t ls ∷ ls) ms js ks (low_apart k ks right) (runs_left r (following j t ls) ls ms js ks (low_apart j js left) runs.1),
)

head_for : (s t : Segment) (ls : List Label) (js : List ℕ) → Known s ls → same_ends (ends_of t) (ends_of s) ≡ true → streams_of s ls ≡ js
    → option_map (λ (l : Label). l.stream) (latest t ls) ≡ first_of js
head_for s t ls js lk tk is = ap (option_map (λ (l : Label). l.stream)) (latest_key s t ls (same_ends_is (ends_of t) (ends_of s) tk)) ∙ lk.head ∙ ap first_of is

labels_both : (r : ℕ → ℕ) (s : Segment) (ls ms : List Label) (l l' m m' : Label) → l ≡ l' → m ≡ m' → Matched r s (l' ∷ ls) (m' ∷ ms) → Matched r s (l ∷ ls) (m ∷ ms)
labels_both r s ls ms l l' m m' left right runs =
    subst (λ (x : Label). Matched r s (x ∷ ls) (m ∷ ms)) (sym left) (subst (λ (x : Label). Matched r s (l' ∷ ls) (x ∷ ms)) (sym right) runs)

step_lists : (r : ℕ → ℕ) (s t : Segment) (ls ms : List Label) (js ks : List ℕ) → Known s ls → Known s ms → same_ends (ends_of t) (ends_of s) ≡ true
    → Matched r s ls ms → streams_of s ls ≡ js → streams_of s ms ≡ ks → AreRuns r ls ms js ks → Falling js → Falling ks
    → Matched r s (label_of t ls ∷ ls) (label_of (renumbered r t) ms ∷ ms)
step_lists r s t ls ms [] [] lk mk tk runs e f here left right =
    let u = renumbered r t in
    labels_both r s ls ms (label_of t ls) (opening t ls) (label_of u ms) (opening u ms) (label_first t ls (head_for s t ls [] lk tk e)) (label_first u ms (head_for s u ms [] mk tk f))
    (both_open r s t ls ms lk mk tk runs)
step_lists r s t ls ms (j ∷ js) (k ∷ ks) lk mk tk runs e f here left right =
    let u = renumbered r t in
    let decide = decide_same r t ls ms j k here.0 in
    let first = label_at t ls j (head_for s t ls (j ∷ js) lk tk e) in
    let second = label_at u ms k (head_for s u ms (k ∷ ks) mk tk f) in
    elim (cases_Bool (restarts_at j t ls)) [
      | inl opens ↦ labels_both r s ls ms (label_of t ls) (opening t ls) (label_of u ms) (opening u ms)
          (first ∙ ap (λ (b : Bool). label_on (cond b None (Some j)) t ls) opens) (second ∙ ap (λ (b : Bool). label_on (cond b None (Some k)) u ms) (sym decide ∙ opens))
          (both_open r s t ls ms lk mk tk runs)
      | inr goes ↦ labels_both r s ls ms (label_of t ls) (following j t ls) (label_of u ms) (following k u ms)
          (first ∙ ap (λ (b : Bool). label_on (cond b None (Some j)) t ls) goes) (second ∙ ap (λ (b : Bool). label_on (cond b None (Some k)) u ms) (sym decide ∙ goes))
          (subst (λ (xs : List ℕ). AreRuns r (following j t ls ∷ ls) (following k u ms ∷ ms) xs (streams_of s ms)) (sym e)
          (subst (λ (xs : List ℕ). AreRuns r (following j t ls ∷ ls) (following k u ms ∷ ms) (j ∷ js) xs) (sym f)
          (both_follow r t ls ms j k js ks left.0 right.0 here)))
    ]
step_lists r s t ls ms [] (k ∷ ks) lk mk tk runs e f here left right = absurd here
step_lists r s t ls ms (j ∷ js) [] lk mk tk runs e f here left right = absurd here

both_step : (r : ℕ → ℕ) (s t : Segment) (ls ms : List Label) → Known s ls → Known s ms → same_ends (ends_of t) (ends_of s) ≡ true → Matched r s ls ms
    → Matched r s (label_of t ls ∷ ls) (label_of (renumbered r t) ms ∷ ms)
both_step r s t ls ms lk mk tk runs = step_lists r s t ls ms (streams_of s ls) (streams_of s ms) lk mk tk runs refl refl runs lk.falling mk.falling

-- the conversation of a segment alone
abbrev pub alone : (ℕ → ℕ) → Segment → List Segment → List Segment
alone r s past = map (renumbered r) (between s past)

matched : (r : ℕ → ℕ) (s : Segment) (past : List Segment) → Matched r s (labels past) (labels (alone r s past))
matched r s [] = tt
matched r s (t ∷ past) = elim (cases_Bool (same_ends (ends_of t) (ends_of s))) [
  | inl mine ↦ rw mine (both_step r s t (labels past) (labels (alone r s past)) (known s past) (known s (alone r s past)) mine (matched r s past))
  | inr other ↦ rw other (left_other r s t (labels past) (labels (alone r s past)) (known s past) other (matched r s past))
]

-- ---- the newest segment's stream

pub label_segment : (s : Segment) (ls : List Label) → (label_of s ls).segment ≡ s
label_segment s ls = elim (label_cases s ls) [
  | inl opens ↦ ap (λ (l : Label). l.segment) opens
  | inr follows ↦ ap (λ (l : Label). l.segment) follows.goes
]

head_is : (s t : Segment) (past : List Segment) → same_ends (ends_of t) (ends_of s) ≡ true → first_of (streams_of s (labels (t ∷ past))) ≡ Some (label_of t (labels past)).stream
head_is s t past tk =
    let ls : List Label = labels past in
    let l : Label = label_of t ls in
    let own : same_ends (ends_of l.segment) (ends_of s) ≡ true = ap (λ (x : Segment). same_ends (ends_of x) (ends_of s)) (label_segment t ls) ∙ tk in
    let last : latest s (l ∷ ls) ≡ Some l = ap (λ (b : Bool). cond b (Some l) (latest s ls)) own in
    sym (known s (t ∷ past)).head ∙ ap (option_map (λ (x : Label). x.stream)) last

first_run : (r : ℕ → ℕ) (ls ms : List Label) (js ks : List ℕ) (j k : ℕ) → AreRuns r ls ms js ks → first_of js ≡ Some j → first_of ks ≡ Some k → IsRun r ls ms j k
first_run r ls ms (x ∷ js) (y ∷ ks) j k runs e f =
    subst (λ (n : ℕ). IsRun r ls ms n k) (some_number x j e) (subst (λ (n : ℕ). IsRun r ls ms x n) (some_number y k f) runs.0)
first_run r ls ms [] [] j k runs e f = absurd (false≢true (ap is_some e))
first_run r ls ms [] (y ∷ ks) j k runs e f = absurd runs
first_run r ls ms (x ∷ js) [] j k runs e f = absurd runs

own_sided : (l : Label) (ls : List Label) → sided_of l.stream (l ∷ ls) ≡ record { segment = l.segment; side = l.side } ∷ sided_of l.stream ls
own_sided l ls = rw (same_number l.stream) refl

abbrev first_side : List Sided → Bool
first_side [] = false
first_side (l ∷ ls) = l.side

-- its side, and the segments of its stream, in both lists
pub record IsAlone (r : ℕ → ℕ) (l m : Label) (ls ms : List Label) : Type 0 where
  pub side : l.side ≡ m.side
  pub segments : sides_renumbered r (sided_of l.stream ls) ≡ sided_of m.stream ms

pub is_alone : (r : ℕ → ℕ) (s : Segment) (past : List Segment) → IsAlone r (label_of s (labels past)) (label_of (renumbered r s) (labels (alone r s past))) (labels past) (labels (alone r s past))
is_alone r s past =
    let ls : List Label = labels past in
    let ms : List Label = labels (alone r s past) in
    let l : Label = label_of s ls in
    let m : Label = label_of (renumbered r s) ms in
    let self : same_ends (ends_of s) (ends_of s) ≡ true = ends_self (ends_of s) in
    let runs : Matched r s (l ∷ ls) (m ∷ ms) = both_step r s s ls ms (known s past) (known s (alone r s past)) self (matched r s past) in
    let run : IsRun r (l ∷ ls) (m ∷ ms) l.stream m.stream =
    first_run r (l ∷ ls) (m ∷ ms) (streams_of s (l ∷ ls)) (streams_of s (m ∷ ms)) l.stream m.stream runs (head_is s s past self) (head_is s (renumbered r s) (alone r s past) self) in
    let both : side_renumbered r (record { segment = l.segment; side = l.side }) ∷ sides_renumbered r (sided_of l.stream ls) ≡ record { segment = m.segment; side = m.side } ∷ sided_of m.stream ms =
    sym (ap (sides_renumbered r) (own_sided l ls)) ∙ run.segments ∙ own_sided m ms in
    record {
      side = ap first_side both;
      segments = ap (drop 1) both;
    }
