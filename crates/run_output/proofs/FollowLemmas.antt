-- What a stream's stretches are, for the report of a followed stream.
use Rattle.std.proofs.Common.{◌≡◌, ◌<◌, ◌≤◌, ◌+◌, ◌*◌, ◌^◌, ◌==◌, ℕ, suc, Bool, true, false, List, [], ◌∷◌, ◌++◌, length, decimal, codes, Option, None, Some, if◌then◌else◌, refl, sym, ap, ◌∙◌, subst, arith}
use Rattle.std.specs.Prelude.{nat_lt}
use Rattle.std.proofs.lemmas.Bool.{le-ltb, lt-ltb}
use Rattle.capture_read.specs.declared.frame.Frame.{Frame}
use Rattle.out_lines.specs.Follow.{AreApart as ApartLines, AreBehind, AreFollowed, HasEnd, follow_of, fronts_lines}
use Rattle.out_lines.specs.declared.follow.Fronts.{Fronts}
use Rattle.pk_base.specs.Limits.{file_limit}
use Rattle.pk_base.specs.declared.stretch.Stretch.{Stretch}
use Rattle.tcp_streams.proofs.Isolating.{is_isolated}
use Rattle.tcp_streams.proofs.Keyed.{AllLow, known}
use Rattle.tcp_streams.proofs.WayLemmas.{after_is, step_room}
use Rattle.tcp_streams.specs.Isolation.{AreSameStreams, IsSameStream, IsSameWay, streams_of}
use Rattle.tcp_streams.specs.Labels.{Label, labels, opened, sided_of}
use Rattle.tcp_streams.specs.Standing.{StandsFor, taken_so_far, way_for}
use Rattle.tcp_streams.specs.Ways.{AreApart, IsWay, Sided, WayState, end_of, same_side, stretches, way_after}
use Rattle.tcp_streams.specs.declared.segment.Segment.{Segment}
use Rattle.tcp_streams.specs.declared.streams.Streams.{Streams}
use Rattle.run_frames.specs.Job.{Job}
use Rattle.run_output.specs.ReportLaws.{AreSameReports, FollowsAlone, IsSameReport}
use Rattle.run_output.specs.Reports.{fronts_if, fronts_in, tcp_segments}

-- a direction's end is near its beginning
ends : (side : Bool) (ls : List Sided) → end_of (way_after side ls) ≤ 2 ^ 25 * length ls
ends side [] = omega arith
ends side (l ∷ ls) = omega (arith, step_room (same_side side l.side) (way_after side ls) l.segment (after_is side ls), ends side ls)

sided_few : (stream : ℕ) (ls : List Label) → length (sided_of stream ls) ≤ length ls
sided_few stream [] = omega arith
sided_few stream (l ∷ ls) = few_if (l.stream == stream) (record { segment = l.segment; side = l.side }) (sided_of stream ls) (length ls) (sided_few stream ls)
  where
    few_if : (here : Bool) (first : Sided) (others : List Sided) (n : ℕ) → length others ≤ n → length (if here then first ∷ others else others) ≤ suc n
    few_if true first others n few = omega (arith, few)
    few_if false first others n few = omega (arith, few)

labels_count : (past : List Segment) → length (labels past) ≡ length past
labels_count [] = refl
labels_count (s ∷ past) = ap suc (labels_count past)

-- stretches with gaps between them, before the last
apart_below : (low next : ℕ) (xs : List Stretch) → AreApart low xs next → low ≤ next
apart_below low next [] apart = apart
apart_below low next (x ∷ xs) apart = omega (arith, apart.0, apart_below (x.start + length x.bytes + 1) next xs apart.1)

behind : (end : ℕ) (xs : List Stretch) (last : Stretch) → AreApart (end + 1) xs last.start → HasEnd last → AreBehind end (xs ++ last ∷ [])
behind end [] last apart small = (omega (arith, apart), small, tt)
behind end (x ∷ xs) last apart small = (
  omega (arith, apart.0),
  omega (arith, apart_below (x.start + length x.bytes + 1) last.start xs apart.1, small),
  behind (x.start + length x.bytes) xs last apart.1 small,
)

lines_apart : (xs : List Stretch) (last : Stretch) → AreApart 0 xs last.start → HasEnd last → ApartLines (xs ++ last ∷ [])
lines_apart [] last apart small = (small, tt)
lines_apart (x ∷ xs) last apart small = (
  omega (arith, apart_below (x.start + length x.bytes + 1) last.start xs apart.1, small),
  behind (x.start + length x.bytes) xs last apart.1 small,
)

limit_small : (n m end : ℕ) → m ≤ n → n ≤ file_limit → end ≤ 2 ^ 25 * m → end ≤ 2 ^ 63
unfolding file_limit
limit_small n m end few most near = omega (arith, few, most, near)

side_apart : (past : List Segment) (stream side : ℕ) → length past ≤ file_limit → ApartLines (stretches (way_for past stream side))
side_apart past stream side most =
    let ls = sided_of stream (labels past) in
    let one = side == 1 in
    let way : IsWay (way_after one ls) = after_is one ls in
    lines_apart (way_after one ls).earlier (record { start = (way_after one ls).start; bytes = (way_after one ls).front }) way.apart
    (limit_small (length past) (length ls) (end_of (way_after one ls)) (omega (arith, sided_few stream (labels past), labels_count past)) most (ends one ls))

-- so a report can be made of streams that took few segments
count_taken : (past : List Segment) (streams : Streams) → StandsFor past streams → taken_so_far streams ≡ length past
unfolding StandsFor
count_taken past streams stands = stands.taken

pub are_followed : (past : List Segment) (streams : Streams) (stream : ℕ) (zero one : List Stretch) → StandsFor past streams → taken_so_far streams ≤ file_limit
    → zero ≡ stretches (way_for past stream 0) → one ≡ stretches (way_for past stream 1) → AreFollowed (record { zero = zero; one = one })
are_followed past streams stream zero one stands most zero_is one_is =
    let few : length past ≤ file_limit = omega (arith, most, count_taken past streams stands) in
    record {
      zero = subst ApartLines (sym zero_is) (side_apart past stream 0 few);
      one = subst ApartLines (sym one_is) (side_apart past stream 1 few);
    }

pub fronts_there : (past : List Segment) (stream count : ℕ) (zero one : List Stretch) → stream < count → count ≡ opened (labels past)
    → zero ≡ stretches (way_for past stream 0) → one ≡ stretches (way_for past stream 1) → Some (record { zero = zero; one = one }) ≡ fronts_in past stream
fronts_there past stream count zero one low count_is zero_is one_is =
    ap (λ (z : List Stretch). Some (record { zero = z; one = one })) zero_is
    ∙ ap (λ (o : List Stretch). Some (record { zero = stretches (way_for past stream 0); one = o })) one_is
    ∙ sym (ap (λ (b : Bool). fronts_if b past stream) (ap (nat_lt stream) (sym count_is) ∙ lt-ltb stream count low))

pub fronts_none : (past : List Segment) (stream count : ℕ) → count ≤ stream → count ≡ opened (labels past) → None ≡ fronts_in past stream
fronts_none past stream count high count_is = sym (ap (λ (b : Bool). fronts_if b past stream) (ap (nat_lt stream) (sym count_is) ∙ le-ltb stream count high))

-- a report rests on its conversation's segments alone
same_stretches : (ls ms : List Sided) (v w : WayState) → IsSameWay ls ms v w → stretches v ≡ stretches w
same_stretches ls ms v w same =
    ap (λ (xs : List Stretch). xs ++ record { start = v.start; bytes = v.front } ∷ []) same.earlier
    ∙ ap (λ (start : ℕ). w.earlier ++ record { start = start; bytes = v.front } ∷ []) same.start
    ∙ ap (λ (front : List ℕ). w.earlier ++ record { start = w.start; bytes = front } ∷ []) same.front

fronts_low : (past : List Segment) (stream : ℕ) → stream < opened (labels past) → fronts_in past stream ≡ fronts_if true past stream
fronts_low past stream low = ap (λ (b : Bool). fronts_if b past stream) (lt-ltb stream (opened (labels past)) low)

same_fronts : (past others : List Segment) (j k : ℕ) → j < opened (labels past) → k < opened (labels others) → IsSameStream (labels past) (labels others) j k
    → fronts_in past j ≡ fronts_in others k
same_fronts past others j k low also same =
    fronts_low past j low
    ∙ ap (λ (z : List Stretch). Some (record { zero = z; one = stretches (way_for past j 1) })) (same_stretches (sided_of j (labels past)) (sided_of k (labels others)) (way_for past j 0) (way_for others k 0) (same.way false))
    ∙ ap (λ (o : List Stretch). Some (record { zero = stretches (way_for others k 0); one = o })) (same_stretches (sided_of j (labels past)) (sided_of k (labels others)) (way_for past j 1) (way_for others k 1) (same.way true))
    ∙ sym (fronts_low others k also)

report_is : (past : List Segment) (stream : ℕ) → follow_of stream (fronts_in past stream) ≡ codes "follow tcp " ++ (decimal stream ++ fronts_lines (fronts_in past stream))
unfolding follow_of
report_is past stream = refl

same_report : (job : Job) (past others : List Frame) (j k : ℕ) → fronts_in (tcp_segments past) j ≡ fronts_in (tcp_segments others) k → IsSameReport job past others j k
same_report job past others j k same = record {
  lines = fronts_lines (fronts_in (tcp_segments past) j);
  one = report_is (tcp_segments past) j;
  other = report_is (tcp_segments others) k ∙ ap (λ (fronts : Option Fronts). codes "follow tcp " ++ (decimal k ++ fronts_lines fronts)) (sym same);
}

same_reports : (job : Job) (past others : List Frame) (js ks : List ℕ) → AllLow (opened (labels (tcp_segments past))) js → AllLow (opened (labels (tcp_segments others))) ks
    → AreSameStreams (labels (tcp_segments past)) (labels (tcp_segments others)) js ks → AreSameReports job past others js ks
same_reports job past others [] [] low also same = tt
same_reports job past others (j ∷ js) (k ∷ ks) low also same = (
  same_report job past others j k (same_fronts (tcp_segments past) (tcp_segments others) j k low.0 also.0 same.0),
  same_reports job past others js ks low.1 also.1 same.1,
)
same_reports job past others [] (k ∷ ks) low also same = absurd same
same_reports job past others (j ∷ js) [] low also same = absurd same

pub follows_alone : FollowsAlone
follows_alone job s past others same =
    same_reports job past others (streams_of s (labels (tcp_segments past))) (streams_of s (labels (tcp_segments others)))
    (known s (tcp_segments past)).low (known s (tcp_segments others)).low (is_isolated s (tcp_segments past) (tcp_segments others) same).streams
