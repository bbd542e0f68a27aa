-- What is left where bytes before a position are let go.
use Rattle.std.proofs.Common.{◌≡◌, ◌⊎◌, ℕ, zero, suc, ◌+◌, ◌-◌, ◌<◌, ◌≤◌, List, [], ◌∷◌, length, slice_index, Option, Some, None, is_some, refl, sym, ap, ◌∙◌, subst, inl, inr, arith, take, drop}
use Rattle.std.specs.List.{slice_get}
use Rattle.std.specs.Option.{option_or}
use Rattle.std.specs.FinMap.{get}
use Rattle.std.proofs.lemmas.Bool.{cases_eq, cases_lt}
use Rattle.std.proofs.lemmas.List.{length-take-le, length-drop, get_or-take, get_or-drop, drop-drop}
use Rattle.range_bytes.specs.declared.piece.Piece.{Piece}
use Rattle.range_bytes.specs.declared.in_order.InOrder.{InOrder}
use Rattle.range_bytes.specs.declared.in_order.Mark.{Mark}
use Rattle.range_bytes.specs.Held.{Cell, Held, run_cell}
use Rattle.range_bytes.specs.Pieces.{held_of}
use Rattle.range_bytes.specs.Joined.{cut, IsMarked, IsJoining, IsTakenOut}
use Rattle.range_bytes.specs.LetGo.{AreMarksPast, IsLetGo, IsShorter, IsTakenBelow}
use Rattle.range_bytes.proofs.Runs.{or_none, run_cell-in, run_cell-after, get-put_run, none_is_not_some}
use Rattle.range_bytes.proofs.PieceLemmas.{found, get-held_of, get-put_pieces, found_before}
use Rattle.range_bytes.proofs.Joining.{IsPastLast, joined_of, first_past, out_of, cut_apart}

-- ---- pieces that wait

pub record IsLettingGo (first : Held) (below from : ℕ) (now : Held) : Type 0 where
  pub gone : (q : ℕ) → q < from → get now q ≡ None
  pub same : (q : ℕ) → below ≤ q → get now q ≡ get first q
  pub begun : (below ≡ 0) ⊎ (get now (below - 1) ≡ None)

pub letting_first : (first : Held) (below : ℕ) → (below ≡ 0) ⊎ (get first (below - 1) ≡ None) → IsLettingGo first below 0 first
letting_first first below begun = record {
  gone = λ q less. absurd (omega (arith, less));
  same = λ q low. refl;
  begun = begun;
}

-- a piece that is taken out ends where nothing is held, or before
taken_end : (old new : Held) (at below : ℕ) (piece : Piece) → IsTakenOut old new at piece → at < below → (below ≡ 0) ⊎ (get old (below - 1) ≡ None) → piece.end ≤ below
taken_end old new at below piece out less (inl none) = absurd (omega (arith, less, none))
taken_end old new at below piece out less (inr free) = elim (cases_lt below piece.end) [
  | inr order ↦ order
  | inl past ↦
      let size : at + length piece.bytes ≡ piece.end = omega (arith, out.sized, out.start) in
      let there = run_cell-in at piece.bytes piece.frame (below - 1) (omega (arith, less)) (omega (arith, size, past, less)) in
      let nothing : get new (below - 1) ≡ None = out.gone (below - 1) (omega (arith, less)) (omega (arith, past)) in
      let held : get old (below - 1) ≡ Some (slice_index piece.bytes (below - 1 - at), piece.frame) =
      ap (λ (h : Held). get h (below - 1)) out.held ∙ get-put_run new at piece.bytes piece.frame (below - 1) ∙ rw nothing there in
      absurd (none_is_not_some (get old (below - 1)) (ap is_some held) free)
]

pub letting_more : (first now new : Held) (below from : ℕ) (piece : Piece) → IsLettingGo first below from now → IsTakenBelow now new from below piece → IsLettingGo first below piece.end new
letting_more first now new below from piece letting taken =
    let out = taken.out in
    let size : taken.at + length piece.bytes ≡ piece.end = omega (arith, out.sized, out.start) in
    let end : piece.end ≤ below = taken_end now new taken.at below piece out taken.high letting.begun in
    record {
      gone = λ q less. elim (cases_lt q taken.at) [
        | inl before ↦ out_of now new taken.at piece.bytes piece.frame q out.held (taken.none q before)
        | inr low ↦ out.gone q low less
      ];
      same = λ q low.
          sym (ap (λ (h : Held). get h q) out.held ∙ get-put_run new taken.at piece.bytes piece.frame q
          ∙ ap (option_or (get new q)) (run_cell-after taken.at piece.bytes piece.frame q (omega (arith, size, end, low))) ∙ or_none (get new q))
          ∙ letting.same q low;
      begun = elim letting.begun [
        | inl none ↦ inl none
        | inr free ↦ inr (out_of now new taken.at piece.bytes piece.frame (below - 1) out.held free)
      ];
    }

-- ---- the row

shorter_size : (start end to : ℕ) (bytes : List ℕ) → start ≤ to → to ≤ start + length bytes → end ≤ start + length bytes → to ≤ end → end ≤ to + length (drop (to - start) bytes)
shorter_size start end to bytes low high within order = omega (arith, low, high, within, order, length-drop (to - start) bytes)

drop_on : (start at to : ℕ) (bytes : List ℕ) → start ≤ at → at ≤ to → drop (to - at) (drop (at - start) bytes) ≡ drop (to - start) bytes
drop_on start at to bytes low high =
    let all : (at - start) + (to - at) ≡ to - start = omega (arith, low, high) in
    drop-drop (to - at) (at - start) bytes ∙ ap (λ (n : ℕ). drop n bytes) all

abbrev pub BeginsPast : List Mark → ℕ → ℕ → Type 0
BeginsPast marks place to = (mark : Mark) → slice_get marks place ≡ Some mark → to < mark.end

later_past : (first : Mark) (marks : List Mark) (i to : ℕ) → IsPastLast (first ∷ marks) (suc i) to → IsPastLast marks i to
later_past first marks i to past = λ last mark next there. past (suc last) mark (omega (arith, next)) there

pub shorter_marked : (start : ℕ) (bytes : List ℕ) (marks : List Mark) (i to : ℕ) → IsMarked start bytes marks → start ≤ to → to ≤ start + length bytes
    → i ≤ length marks → IsPastLast marks i to → BeginsPast marks i to → IsMarked to (drop (to - start) bytes) (drop i marks)
shorter_marked start bytes [] zero to marked low high within past behind = omega (arith, marked, length-drop (to - start) bytes)
shorter_marked start bytes [] (suc i) to marked low high within past behind = absurd (omega (arith, within))
shorter_marked start bytes (mark ∷ marks) zero to marked low high within past behind =
    let after : to < mark.end = behind mark refl in (
      after,
      shorter_size start mark.end to bytes low high marked.1 (omega (arith, after)),
      subst (λ (bs : List ℕ). IsMarked mark.end bs marks) (sym (drop_on start to mark.end bytes low (omega (arith, after)))) marked.2,
    )
shorter_marked start bytes (mark ∷ marks) (suc i) to marked low high within past behind =
    let before : mark.end ≤ to = first_past start bytes mark marks i to marked (omega (arith, within)) past in
    subst (λ (bs : List ℕ). IsMarked to bs (drop i marks)) (drop_on start mark.end to bytes (omega (arith, marked.0)) before)
    (shorter_marked mark.end (drop (mark.end - start) bytes) marks i to marked.2 before (shorter_size start to mark.end bytes (omega (arith, marked.0)) marked.1 high before)
    (omega (arith, within)) (later_past mark marks i to past) (λ m there. behind m there))

first_cell : (start end to : ℕ) (bytes : List ℕ) (frame q : ℕ) → start ≤ to → to < end → end ≤ start + length bytes → to ≤ q
    → run_cell to (take (end - to) (drop (to - start) bytes)) frame q ≡ run_cell start (take (end - start) bytes) frame q
first_cell start end to bytes frame q low some within past =
    let old : length (take (end - start) bytes) ≡ end - start = length-take-le (end - start) bytes (omega (arith, within)) in
    let rest : length (drop (to - start) bytes) ≡ length bytes - (to - start) = length-drop (to - start) bytes in
    let new : length (take (end - to) (drop (to - start) bytes)) ≡ end - to = length-take-le (end - to) (drop (to - start) bytes) (omega (arith, rest, within, low, some)) in
    elim (cases_lt q end) [
      | inl inside ↦
          let place : (to - start) + (q - to) ≡ q - start = omega (arith, low, past) in
          run_cell-in to (take (end - to) (drop (to - start) bytes)) frame q past (omega (arith, new, inside, some))
          ∙ ap (λ (b : ℕ). Some (b, frame)) (get_or-take (end - to) (drop (to - start) bytes) (q - to) 0 (omega (arith, inside, past))
          ∙ get_or-drop (to - start) bytes (q - to) 0 ∙ ap (slice_index bytes) place
          ∙ sym (get_or-take (end - start) bytes (q - start) 0 (omega (arith, inside, past, low))))
          ∙ sym (run_cell-in start (take (end - start) bytes) frame q (omega (arith, low, past)) (omega (arith, old, inside, low, some)))
      | inr behind ↦
          run_cell-after to (take (end - to) (drop (to - start) bytes)) frame q (omega (arith, new, behind, some))
          ∙ sym (run_cell-after start (take (end - start) bytes) frame q (omega (arith, old, behind, low, some)))
    ]

pub shorter_cells : (start : ℕ) (bytes : List ℕ) (marks : List Mark) (i to q : ℕ) → IsMarked start bytes marks → start ≤ to → to ≤ start + length bytes
    → i ≤ length marks → IsPastLast marks i to → BeginsPast marks i to → to ≤ q → found (cut to (drop (to - start) bytes) (drop i marks)) q ≡ found (cut start bytes marks) q
shorter_cells start bytes [] zero to q marked low high within past behind after = refl
shorter_cells start bytes [] (suc i) to q marked low high within past behind after = absurd (omega (arith, within))
shorter_cells start bytes (mark ∷ marks) zero to q marked low high within past behind after =
    let some : to < mark.end = behind mark refl in
    let others : found (cut mark.end (drop (mark.end - to) (drop (to - start) bytes)) marks) q ≡ found (cut mark.end (drop (mark.end - start) bytes) marks) q =
    ap (λ (bs : List ℕ). found (cut mark.end bs marks) q) (drop_on start to mark.end bytes low (omega (arith, some))) in
    ap (λ (o : Option Cell). option_or o (found (cut mark.end (drop (mark.end - to) (drop (to - start) bytes)) marks) q)) (first_cell start mark.end to bytes mark.frame q low some marked.1 after)
    ∙ ap (option_or (run_cell start (take (mark.end - start) bytes) mark.frame q)) others
shorter_cells start bytes (mark ∷ marks) (suc i) to q marked low high within past behind after =
    let before : mark.end ≤ to = first_past start bytes mark marks i to marked (omega (arith, within)) past in
    let size : length (take (mark.end - start) bytes) ≡ mark.end - start = length-take-le (mark.end - start) bytes (omega (arith, marked.1)) in
    let none : run_cell start (take (mark.end - start) bytes) mark.frame q ≡ None =
    run_cell-after start (take (mark.end - start) bytes) mark.frame q (omega (arith, size, marked.0, before, after)) in
    ap (λ (bs : List ℕ). found (cut to bs (drop i marks)) q) (sym (drop_on start mark.end to bytes (omega (arith, marked.0)) before))
    ∙ shorter_cells mark.end (drop (mark.end - start) bytes) marks i to q marked.2 before (shorter_size start to mark.end bytes (omega (arith, marked.0)) marked.1 high before)
    (omega (arith, within)) (later_past mark marks i to past) (λ m there. behind m there) after
    ∙ sym (ap (λ (o : Option Cell). option_or o (found (cut mark.end (drop (mark.end - start) bytes) marks) q)) none)

pub shorter_same : (row : InOrder) (to : ℕ) → row.start + length row.bytes.items ≡ row.end → IsMarked row.start row.bytes.items row.marks.items → IsShorter row row to
shorter_same row to end marked = record {
  low = omega arith;
  most = omega arith;
  high = omega (arith, end);
  end = refl;
  bytes = let none : row.start - row.start ≡ 0 = omega arith in ap (λ (n : ℕ). drop n row.bytes.items) (sym none);
  marked = marked;
  cells = λ q low. refl;
}

pub shorter_is : (row new : InOrder) (to : ℕ) → row.start + length row.bytes.items ≡ row.end → IsMarked row.start row.bytes.items row.marks.items → row.start ≤ to → to ≤ row.end
    → new.start ≡ to → new.end ≡ row.end → new.bytes.items ≡ drop (to - row.start) row.bytes.items → AreMarksPast row.marks.items to new.marks.items → IsShorter row new to
shorter_is row new to end marked low high start_is end_is bytes_is past =
    let bytes = drop (to - row.start) row.bytes.items in
    let marks = drop past.place row.marks.items in
    let within : to ≤ row.start + length row.bytes.items = omega (arith, end, high) in
    let same : cut new.start new.bytes.items new.marks.items ≡ cut to bytes marks =
    ap (λ (n : ℕ). cut n new.bytes.items new.marks.items) start_is ∙ ap (λ (bs : List ℕ). cut to bs new.marks.items) bytes_is ∙ ap (cut to bytes) past.is in
    record {
      low = omega (arith, low, start_is);
      most = omega (arith, low, start_is);
      high = omega (arith, high, start_is);
      end = end_is;
      bytes = bytes_is ∙ ap (λ (n : ℕ). drop (n - row.start) row.bytes.items) (sym start_is);
      marked = subst (λ (n : ℕ). IsMarked n new.bytes.items new.marks.items) (sym start_is) (subst (λ (bs : List ℕ). IsMarked to bs new.marks.items) (sym bytes_is)
          (subst (IsMarked to bytes) (sym past.is) (shorter_marked row.start row.bytes.items row.marks.items past.place to marked low within past.within past.before past.behind)));
      cells = λ q after.
          ap (λ (ps : List Piece). get (held_of ps) q) same ∙ get-held_of (cut to bytes marks) q
          ∙ shorter_cells row.start row.bytes.items row.marks.items past.place to q marked low within past.within past.before past.behind (omega (arith, after, start_is))
          ∙ sym (get-held_of (cut row.start row.bytes.items row.marks.items) q);
    }

-- ---- both

-- nothing that waits goes over the new start
pub begins_free : (rest : Held) (row new : InOrder) (to : ℕ) → IsJoining rest row.start row.end row.bytes.items row.marks.items → IsShorter row new to
    → (new.start ≡ 0) ⊎ (get rest (new.start - 1) ≡ None)
begins_free rest row new to joining shorter = elim (cases_eq new.start row.start) [
  | inl same ↦ subst (λ (n : ℕ). (n ≡ 0) ⊎ (get rest (n - 1) ≡ None)) (sym same) joining.begun
  | inr other ↦
      let past : row.start < new.start = elim (cases_lt row.start new.start) [ inl less ↦ less | inr more ↦ absurd (other (let low = shorter.low in omega arith)) ] in
      let high : new.start ≤ row.end = shorter.high in
      inr (joining.apart (new.start - 1) (omega arith) (omega arith))
]

pub record AreLeft (rest more : Held) (below : ℕ) : Type 0 where
  pub gone : (q : ℕ) → q < below → get more q ≡ None
  pub same : (q : ℕ) → below ≤ q → get more q ≡ get rest q

pub joining_left : (rest more : Held) (row new : InOrder) (to : ℕ) → IsJoining rest row.start row.end row.bytes.items row.marks.items → IsShorter row new to → AreLeft rest more new.start
    → IsJoining more new.start new.end new.bytes.items new.marks.items
joining_left rest more row new to joining shorter left =
    let low : row.start ≤ new.start = shorter.low in
    let high : new.start ≤ row.end = shorter.high in
    let at : row.start + length row.bytes.items ≡ row.end = joining.end_is in
    let size : length new.bytes.items ≡ length row.bytes.items - (new.start - row.start) = ap length shorter.bytes ∙ length-drop (new.start - row.start) row.bytes.items in
    let end : new.end ≡ row.end = shorter.end in
    record {
      end_is = omega arith;
      marked = shorter.marked;
      apart = λ q a b. left.same q a ∙ joining.apart q (omega arith) (omega arith);
      begun = elim (cases_lt 0 new.start) [
        | inl some ↦ inr (left.gone (new.start - 1) (omega arith))
        | inr none ↦ inl (omega arith)
      ];
    }

pub let_go_is : (rest more : Held) (row new : InOrder) (to : ℕ) → IsJoining rest row.start row.end row.bytes.items row.marks.items → IsShorter row new to → AreLeft rest more new.start
    → IsLetGo (joined_of rest row.start row.bytes.items row.marks.items) (joined_of more new.start new.bytes.items new.marks.items) to
let_go_is rest more row new to joining shorter left =
    let now = joining_left rest more row new to joining shorter left in
    let at : row.start + length row.bytes.items ≡ row.end = joining.end_is in
    let to_is : new.start + length new.bytes.items ≡ new.end = now.end_is in
    let end : new.end ≡ row.end = shorter.end in
    let old_pieces = cut row.start row.bytes.items row.marks.items in
    let new_pieces = cut new.start new.bytes.items new.marks.items in
    record {
      low = shorter.low;
      most = shorter.most;
      end = omega arith;
      front = shorter.bytes;
      same = λ q low.
          get-put_pieces more new_pieces q
          ∙ ap (λ (o : Option Cell). option_or o (found new_pieces q)) (left.same q low)
          ∙ ap (option_or (get rest q)) (sym (get-held_of new_pieces q) ∙ shorter.cells q low ∙ get-held_of old_pieces q)
          ∙ sym (get-put_pieces rest old_pieces q);
      gone = λ q less.
          get-put_pieces more new_pieces q
          ∙ rw (left.gone q less) (found_before new.start new_pieces (new.start + length new.bytes.items) q (cut_apart new.start new.bytes.items new.marks.items now.marked) less);
    }
