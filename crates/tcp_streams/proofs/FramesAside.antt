-- What a direction is doesn't depend on the numbers of the frames.
use Rattle.std.proofs.Common.{◌≡◌, ℕ, zero, suc, ◌+◌, ◌-◌, ◌^◌, ◌%◌, max, Bool, true, false, cond, ◌&&◌, List, [], ◌∷◌, ◌++◌, length, Option, None, Some, is_some, unwrap_or, leb, ltb, refl, sym, ap, ◌∙◌, subst, inl, inr}
use Rattle.std.specs.Ordering.{nat_cmp}
use Rattle.std.specs.FinMap.{get, empty, get-empty}
use Rattle.std.specs.Option.{option_or}
use Rattle.std.proofs.lemmas.Bool.{cases_Bool}
use Rattle.pk_base.specs.declared.lost.Lost.{Lost}
use Rattle.range_bytes.specs.Held.{Held, Cell, put_run, run_cell, byte_of, bytes_at}
use Rattle.range_bytes.proofs.Runs.{get-put_run}
use Rattle.tcp_streams.specs.declared.segment.Segment.{Segment}
use Rattle.tcp_streams.specs.Numbers.{first_number, ahead, place, taken_bytes, window}
use Rattle.tcp_streams.specs.Gaps.{free_from, first_free, next_from, gaps_on, gaps, start_past, end_past, left_behind}
use Rattle.tcp_streams.specs.Ways.{WayState, Sided, end_of, lost_in, start_for, front_for, origin_for, held_after, own_step, other_step, acked_by, way_step, way_after, same_side}
use Rattle.tcp_streams.specs.Isolation.{IsSameButFrame, AreSameSided, IsSameCell, IsSameWay}

-- all that the definitions read of a map
record LookAlike (h k : Held) : Type 0 where
  there : (p : ℕ) → is_some (get h p) ≡ is_some (get k p)
  byte : (p : ℕ) → byte_of (get h p) ≡ byte_of (get k p)

cell_there : (ls ms : List Sided) (a b : Option Cell) → IsSameCell ls ms a b → is_some a ≡ is_some b
cell_there ls ms None None same = refl
cell_there ls ms (Some c) (Some d) same = refl
cell_there ls ms None (Some d) same = absurd same
cell_there ls ms (Some c) None same = absurd same

cell_byte : (ls ms : List Sided) (a b : Option Cell) → IsSameCell ls ms a b → byte_of a ≡ byte_of b
cell_byte ls ms None None same = refl
cell_byte ls ms (Some c) (Some d) same = same.0
cell_byte ls ms None (Some d) same = absurd same
cell_byte ls ms (Some c) None same = absurd same

alike : (ls ms : List Sided) (v w : WayState) → IsSameWay ls ms v w → LookAlike v.held w.held
alike ls ms v w same = record {
  there = λ p. cell_there ls ms (get v.held p) (get w.held p) (same.held p);
  byte = λ p. cell_byte ls ms (get v.held p) (get w.held p) (same.held p);
}

free_alike : (n : ℕ) (h k : Held) (from : ℕ) → LookAlike h k → free_from n h from ≡ free_from n k from
free_alike zero h k from look = refl
free_alike (suc n) h k from look = λ i. cond (look.there from i) (free_alike n h k (from + 1) look i) from

next_alike : (n : ℕ) (h k : Held) (from : ℕ) → LookAlike h k → next_from n h from ≡ next_from n k from
next_alike zero h k from look = refl
next_alike (suc n) h k from look = λ i. cond (look.there from i) (Some from) (next_alike n h k (from + 1) look i)

bytes_alike : (n : ℕ) (h k : Held) (from : ℕ) → LookAlike h k → bytes_at h from n ≡ bytes_at k from n
bytes_alike zero h k from look = refl
bytes_alike (suc n) h k from look = λ i. look.byte from i ∷ bytes_alike n h k (from + 1) look i

gaps_on_alike : (n : ℕ) (h k : Held) (acked front : ℕ) (o : Option ℕ) → LookAlike h k → ((next : ℕ) → gaps n h acked next ≡ gaps n k acked next)
    → gaps_on (gaps n h acked) h front o ≡ gaps_on (gaps n k acked) k front o
gaps_on_alike n h k acked front None look rest = refl
gaps_on_alike n h k acked front (Some next) look rest =
    ap (λ (gs : List Lost). record { from = front; to = next } ∷ gs) (rest (first_free h next) ∙ ap (gaps n k acked) (free_alike window h k next look))

gaps_alike : (n : ℕ) (h k : Held) (acked front : ℕ) → LookAlike h k → gaps n h acked front ≡ gaps n k acked front
gaps_alike zero h k acked front look = refl
gaps_alike (suc n) h k acked front look =
    gaps_on_alike n h k acked front (next_from (acked - front) h (front + 1)) look (λ next. gaps_alike n h k acked next look)
    ∙ ap (gaps_on (gaps n k acked) k front) (next_alike (acked - front) h k (front + 1) look)

end_alike : (h k : Held) (end : ℕ) (gs : List Lost) → LookAlike h k → end_past h end gs ≡ end_past k end gs
end_alike h k end [] look = refl
end_alike h k end (g ∷ gs) look = end_alike h k (first_free h g.to) gs look ∙ ap (λ (p : ℕ). end_past k p gs) (free_alike window h k g.to look)

left_alike : (h k : Held) (start : ℕ) (gs : List Lost) → LookAlike h k → left_behind h start gs ≡ left_behind k start gs
left_alike h k start [] look = refl
left_alike h k start (g ∷ gs) look = λ i. record { start = start; bytes = bytes_alike (g.from - start) h k start look i } ∷ left_alike h k g.to gs look i

-- one segment more
pair_more : (l m : Sided) (ls ms : List Sided) (a b : Option Cell) → IsSameCell ls ms a b → IsSameCell (l ∷ ls) (m ∷ ms) a b
pair_more l m ls ms None None same = tt
pair_more l m ls ms (Some c) (Some d) same = (same.0, inr same.1)
pair_more l m ls ms None (Some d) same = absurd same
pair_more l m ls ms (Some c) None same = absurd same

run_alike : (l m : Sided) (ls ms : List Sided) (at : ℕ) (bytes : List ℕ) (p : ℕ)
    → IsSameCell (l ∷ ls) (m ∷ ms) (run_cell at bytes l.segment.frame p) (run_cell at bytes m.segment.frame p)
run_alike l m ls ms at bytes p = elim (cases_Bool (leb at p && ltb p (at + length bytes))) [
  | inl t ↦ rw t (refl, inl (refl, refl))
  | inr f ↦ rw f tt
]

or_alike : (ls ms : List Sided) (a b c d : Option Cell) → IsSameCell ls ms a b → IsSameCell ls ms c d → IsSameCell ls ms (option_or a c) (option_or b d)
or_alike ls ms None None c d first second = second
or_alike ls ms (Some x) (Some y) c d first second = first
or_alike ls ms None (Some y) c d first second = absurd first
or_alike ls ms (Some x) None c d first second = absurd first

put_alike : (l m : Sided) (ls ms : List Sided) (h k : Held) (at : ℕ) (bytes : List ℕ) → ((p : ℕ) → IsSameCell ls ms (get h p) (get k p)) → (p : ℕ)
    → IsSameCell (l ∷ ls) (m ∷ ms) (get (put_run h at bytes l.segment.frame) p) (get (put_run k at bytes m.segment.frame) p)
put_alike l m ls ms h k at bytes same p =
    subst (λ (o : Option Cell). IsSameCell (l ∷ ls) (m ∷ ms) o (get (put_run k at bytes m.segment.frame) p)) (sym (get-put_run h at bytes l.segment.frame p))
    (subst (IsSameCell (l ∷ ls) (m ∷ ms) (option_or (get h p) (run_cell at bytes l.segment.frame p))) (sym (get-put_run k at bytes m.segment.frame p))
    (or_alike (l ∷ ls) (m ∷ ms) (get h p) (get k p) (run_cell at bytes l.segment.frame p) (run_cell at bytes m.segment.frame p)
    (pair_more l m ls ms (get h p) (get k p) (same p)) (run_alike l m ls ms at bytes p)))

pub first_same : (s t : Segment) → IsSameButFrame s t → first_number s ≡ first_number t
first_same s t same = λ i. (same.seq i + cond (same.syn i) 1 0) % 2 ^ 32

pub end_same : (ls ms : List Sided) (v w : WayState) → IsSameWay ls ms v w → end_of v ≡ end_of w
end_same ls ms v w same = λ i. same.start i + length (same.front i)

pub lost_same : (ls ms : List Sided) (v w : WayState) → IsSameWay ls ms v w → lost_in v ≡ lost_in w
lost_same ls ms v w same =
    gaps_alike (v.acked - end_of v) v.held w.held v.acked (end_of v) (alike ls ms v w same)
    ∙ (λ i. gaps (same.acked i - end_same ls ms v w same i) w.held (same.acked i) (end_same ls ms v w same i))

pub start_same : (ls ms : List Sided) (v w : WayState) → IsSameWay ls ms v w → start_for v ≡ start_for w
start_same ls ms v w same = λ i. start_past (same.start i) (lost_same ls ms v w same i)

pub front_same : (ls ms : List Sided) (v w : WayState) → IsSameWay ls ms v w → front_for v ≡ front_for w
front_same ls ms v w same =
    end_alike v.held w.held (end_of v) (lost_in v) (alike ls ms v w same) ∙ (λ i. end_past w.held (end_same ls ms v w same i) (lost_same ls ms v w same i))

pub origin_same : (ls ms : List Sided) (v w : WayState) (s t : Segment) → IsSameWay ls ms v w → IsSameButFrame s t → origin_for v s ≡ origin_for w t
origin_same ls ms v w s t way same = λ i. unwrap_or (way.origin i) (first_same s t same i)

pub ahead_same : (ls ms : List Sided) (v w : WayState) (s t : Segment) → IsSameWay ls ms v w → IsSameButFrame s t
    → ahead (origin_for v s) (front_for v) (first_number s) ≡ ahead (origin_for w t) (front_for w) (first_number t)
ahead_same ls ms v w s t way same =
    λ i. ahead (origin_same ls ms v w s t way same i) (front_same ls ms v w way i) (first_same s t same i)

own_held : (l m : Sided) (ls ms : List Sided) (v w : WayState) → IsSameWay ls ms v w → IsSameButFrame l.segment m.segment → (p : ℕ)
    → IsSameCell (l ∷ ls) (m ∷ ms) (get (held_after v l.segment) p) (get (held_after w m.segment) p)
own_held l m ls ms v w way same p =
    let s = l.segment in
    let t = m.segment in
    let u = ahead (origin_for v s) (front_for v) (first_number s) in
    let moved : put_run w.held (place (start_for v) (front_for v) u) (taken_bytes (start_for v) (front_for v) u s.payload) t.frame ≡ held_after w t = λ i.
    put_run w.held (place (start_same ls ms v w way i) (front_same ls ms v w way i) (ahead_same ls ms v w s t way same i))
    (taken_bytes (start_same ls ms v w way i) (front_same ls ms v w way i) (ahead_same ls ms v w s t way same i) (same.payload i)) t.frame in
    subst (λ (k : Held). IsSameCell (l ∷ ls) (m ∷ ms) (get (held_after v s) p) (get k p)) moved
    (put_alike l m ls ms v.held w.held (place (start_for v) (front_for v) u) (taken_bytes (start_for v) (front_for v) u s.payload) way.held p)

held_alike : (ls ms : List Sided) (h k : Held) → ((p : ℕ) → IsSameCell ls ms (get h p) (get k p)) → LookAlike h k
held_alike ls ms h k same = record {
  there = λ p. cell_there ls ms (get h p) (get k p) (same p);
  byte = λ p. cell_byte ls ms (get h p) (get k p) (same p);
}

pub own_same : (l m : Sided) (ls ms : List Sided) (v w : WayState) → IsSameWay ls ms v w → IsSameButFrame l.segment m.segment
    → IsSameWay (l ∷ ls) (m ∷ ms) (own_step v l.segment) (own_step w m.segment)
unfolding own_step
own_same l m ls ms v w way same =
    let s = l.segment in
    let t = m.segment in
    let h = held_after v s in
    let k = held_after w t in
    let held = own_held l m ls ms v w way same in
    let look = held_alike (l ∷ ls) (m ∷ ms) h k held in
    let start : start_for v ≡ start_for w = start_same ls ms v w way in
    let front : front_for v ≡ front_for w = front_same ls ms v w way in
    let last : first_free h (front_for v) ≡ first_free k (front_for w) = free_alike window h k (front_for v) look ∙ ap (first_free k) front in
    let left : left_behind v.held v.start (lost_in v) ≡ left_behind w.held w.start (lost_in w) =
    left_alike v.held w.held v.start (lost_in v) (alike ls ms v w way) ∙ (λ i. left_behind w.held (way.start i) (lost_same ls ms v w way i)) in
    record {
      origin = λ i. Some (origin_same ls ms v w s t way same i);
      held = held;
      earlier = λ i. way.earlier i ++ left i;
      start = start;
      front = bytes_alike (first_free h (front_for v) - start_for v) h k (start_for v) look ∙ (λ i. bytes_at k (start i) (last i - start i));
      acked = way.acked;
    }

acked_same : (ls ms : List Sided) (v w : WayState) (o : Option ℕ) (s t : Segment) → IsSameWay ls ms v w → IsSameButFrame s t → acked_by v o s ≡ acked_by w o t
acked_same ls ms v w None s t way same = way.acked
acked_same ls ms v w (Some origin) s t way same = λ i.
    cond (same.acked i) (max (way.acked i) (place 0 (end_same ls ms v w way i) (ahead origin (end_same ls ms v w way i) (same.ack i)))) (way.acked i)

other_same : (l m : Sided) (ls ms : List Sided) (v w : WayState) → IsSameWay ls ms v w → IsSameButFrame l.segment m.segment
    → IsSameWay (l ∷ ls) (m ∷ ms) (other_step v l.segment) (other_step w m.segment)
unfolding other_step
other_same l m ls ms v w way same = record {
  origin = way.origin;
  held = λ p. pair_more l m ls ms (get v.held p) (get w.held p) (way.held p);
  earlier = way.earlier;
  start = way.start;
  front = way.front;
  acked = ap (λ (o : Option ℕ). acked_by v o l.segment) way.origin ∙ acked_same ls ms v w w.origin l.segment m.segment way same;
}

step_same : (own : Bool) (l m : Sided) (ls ms : List Sided) (v w : WayState) → IsSameWay ls ms v w → IsSameButFrame l.segment m.segment
    → IsSameWay (l ∷ ls) (m ∷ ms) (way_step own v l.segment) (way_step own w m.segment)
step_same true l m ls ms v w way same = own_same l m ls ms v w way same
step_same false l m ls ms v w way same = other_same l m ls ms v w way same

none_same : (p : ℕ) → IsSameCell [] [] (get (empty {X = Cell} {R = nat_cmp}) p) (get (empty {X = Cell} {R = nat_cmp}) p)
none_same p = subst (λ (o : Option Cell). IsSameCell [] [] o o) (sym (get-empty nat_cmp p)) tt

pub frames_aside : (side : Bool) (ls ms : List Sided) → AreSameSided ls ms → IsSameWay ls ms (way_after side ls) (way_after side ms)
frames_aside side [] [] same = record { origin = refl; held = λ p. none_same p; earlier = refl; start = refl; front = refl; acked = refl }
frames_aside side (l ∷ ls) (m ∷ ms) same =
    subst (λ (b : Bool). IsSameWay (l ∷ ls) (m ∷ ms) (way_after side (l ∷ ls)) (way_step (same_side side b) (way_after side ms) m.segment)) same.0.side
    (step_same (same_side side l.side) l m ls ms (way_after side ls) (way_after side ms) (frames_aside side ls ms same.1) same.0.segment)
frames_aside side [] (m ∷ ms) same = absurd same
frames_aside side (l ∷ ls) [] same = absurd same
