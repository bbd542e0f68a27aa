-- Bytes in order that grow, and what is held by them and elsewhere.
use Rattle.std.proofs.Common.{◌≡◌, ◌⊎◌, ℕ, zero, suc, ◌+◌, ◌-◌, ◌<◌, ◌≤◌, List, [], ◌∷◌, ◌++◌, length, max, slice_index, slice_range, Option, Some, None, IsSome, is_some, refl, sym, ap, ◌∙◌, subst, inl, inr, arith, take, drop}
use Rattle.std.specs.List.{slice_get}
use Rattle.std.specs.Prelude.{Result, Ok, Err, OnOk, OnErr, slice_index_or}
use Rattle.std.specs.Option.{option_or}
use Rattle.std.specs.Cmp.{nat_cmp_total}
use Rattle.std.specs.FinMap.{get, same_map, nat_cmp-IsAntisymmetric}
use Rattle.std.proofs.lemmas.Bool.{cases_eq, cases_lt}
use Rattle.std.proofs.lemmas.Option.{slice_get_within}
use Rattle.std.proofs.lemmas.List.{length-take-le, length-drop, length-append, get_or-take, get_or-drop, take_all, take-append-le, drop-append-le, drop-drop}
use Rattle.range_bytes.specs.declared.piece.Piece.{Piece}
use Rattle.range_bytes.specs.declared.in_order.Mark.{Mark}
use Rattle.range_bytes.specs.Held.{Cell, Held, IsFreeFrom, IsNextHeld, HoldsAll, put_run, run_cell, byte_of, bytes_at}
use Rattle.range_bytes.specs.Pieces.{put_pieces, held_of, IsApart, IsCover}
use Rattle.range_bytes.specs.Joined.{Joined, IsInOrder, cut, IsMarked, IsJoining, IsTakenOut, IsRunAt}
use Rattle.range_bytes.proofs.Runs.{or_none, some_or, run_cell-in, run_cell-before, run_cell-after, get-put_run, none_is_not_some, some_is}
use Rattle.range_bytes.proofs.PieceLemmas.{found, get-held_of, get-put_pieces, put_pieces-push, found_before, found_after, cell_there, IsPlaced, placed_first, placed_later}
use Rattle.range_bytes.proofs.Kept.{first_none}

-- the pieces between the marks
rest_size : (start end : ℕ) (bytes : List ℕ) → start < end → end ≤ start + length bytes → end + length (drop (end - start) bytes) ≡ start + length bytes
rest_size start end bytes some within = omega (arith, length-drop (end - start) bytes)

first_size : (start end : ℕ) (bytes : List ℕ) → start < end → end ≤ start + length bytes → start + length (take (end - start) bytes) ≡ end
first_size start end bytes some within = omega (arith, length-take-le (end - start) bytes (omega arith))

pub cut_apart : (start : ℕ) (bytes : List ℕ) (marks : List Mark) → IsMarked start bytes marks → IsApart start (cut start bytes marks) (start + length bytes)
cut_apart start bytes [] marked = omega arith
cut_apart start bytes (mark ∷ marks) marked = (
  omega arith,
  first_size start mark.end bytes marked.0 marked.1,
  marked.0,
  subst (λ (n : ℕ). IsApart mark.end (cut mark.end (drop (mark.end - start) bytes) marks) n) (rest_size start mark.end bytes marked.0 marked.1)
      (cut_apart mark.end (drop (mark.end - start) bytes) marks marked.2),
)

pub cut_cell : (start : ℕ) (bytes : List ℕ) (marks : List Mark) (q : ℕ) → IsMarked start bytes marks → start ≤ q → q < start + length bytes
    → (frame : ℕ) × (found (cut start bytes marks) q ≡ Some (slice_index bytes (q - start), frame))
cut_cell start bytes [] q marked low high = absurd (omega (arith, marked))
cut_cell start bytes (mark ∷ marks) q marked low high =
    let k = mark.end - start in
    let some : start < mark.end = marked.0 in
    let within : mark.end ≤ start + length bytes = marked.1 in
    let first : Piece = record { start = start; end = mark.end; bytes = take k bytes; frame = mark.frame } in
    let sized : start + length (take k bytes) ≡ mark.end = first_size start mark.end bytes some within in
    let others = found (cut mark.end (drop k bytes) marks) q in
    elim (cases_lt q mark.end) [
      | inl inside ↦ (
        mark.frame,
        ap (λ (o : Option Cell). option_or o others) (cell_there first q sized low inside)
            ∙ ap (λ (b : ℕ). Some (b, mark.frame)) (get_or-take k bytes (q - start) 0 (omega arith)),
      )
      | inr past ↦
          let rest = cut_cell mark.end (drop k bytes) marks q marked.2 past (omega (arith, rest_size start mark.end bytes some within)) in
          let place : k + (q - mark.end) ≡ q - start = omega arith in (
            rest.0,
            ap (λ (o : Option Cell). option_or o others) (run_cell-after start (take k bytes) mark.frame q (omega arith)) ∙ rest.1
                ∙ ap (λ (b : ℕ). Some (b, rest.0)) (get_or-drop k bytes (q - mark.end) 0 ∙ ap (slice_index bytes) place),
          )
    ]

-- bytes put behind the others
no_bytes : (bytes : List ℕ) → length bytes ≡ 0 → bytes ≡ []
no_bytes [] none = refl
no_bytes (byte ∷ bytes) none = absurd (omega (arith, none))

pub cut_push : (start : ℕ) (bytes : List ℕ) (marks : List Mark) (more : List ℕ) (end frame : ℕ) → IsMarked start bytes marks → start + length bytes + length more ≡ end
    → cut start (bytes ++ more) (marks ++ record { end = end; frame = frame } ∷ []) ≡ cut start bytes marks ++ record { start = start + length bytes; end = end; bytes = more; frame = frame } ∷ []
cut_push start bytes [] more end frame marked ends =
    let none : bytes ≡ [] = no_bytes bytes marked in
    let at : start ≡ start + length bytes = omega (arith, marked) in
    let all : take (end - start) (bytes ++ more) ≡ more = ap (λ (bs : List ℕ). take (end - start) (bs ++ more)) none ∙ take_all (end - start) more (omega (arith, marked, ends)) in
    ap (λ (bs : List ℕ). record { start = start; end = end; bytes = bs; frame = frame } ∷ []) all
    ∙ ap (λ (p : ℕ). record { start = p; end = end; bytes = more; frame = frame } ∷ []) at
cut_push start bytes (mark ∷ marks) more end frame marked ends =
    let k = mark.end - start in
    let within : mark.end ≤ start + length bytes = marked.1 in
    let place : mark.end + length (drop k bytes) ≡ start + length bytes = rest_size start mark.end bytes marked.0 within in
    let first : take k (bytes ++ more) ≡ take k bytes = take-append-le k bytes more (omega arith) in
    let others : drop k (bytes ++ more) ≡ drop k bytes ++ more = drop-append-le k bytes more (omega arith) in
    let last = marks ++ record { end = end; frame = frame } ∷ [] in
    ap (λ (bs : List ℕ). record { start = start; end = mark.end; bytes = bs; frame = mark.frame } ∷ cut mark.end (drop k (bytes ++ more)) last) first
    ∙ ap (λ (ps : List Piece). record { start = start; end = mark.end; bytes = take k bytes; frame = mark.frame } ∷ ps)
    (ap (λ (bs : List ℕ). cut mark.end bs last) others
    ∙ cut_push mark.end (drop k bytes) marks more end frame marked.2 (omega (arith, place, ends))
    ∙ ap (λ (p : ℕ). cut mark.end (drop k bytes) marks ++ record { start = p; end = end; bytes = more; frame = frame } ∷ []) place)

pub marked_push : (start : ℕ) (bytes : List ℕ) (marks : List Mark) (more : List ℕ) (end frame : ℕ) → IsMarked start bytes marks → 0 < length more → start + length bytes + length more ≡ end
    → IsMarked start (bytes ++ more) (marks ++ record { end = end; frame = frame } ∷ [])
marked_push start bytes [] more end frame marked some ends =
    let size : length (bytes ++ more) ≡ length bytes + length more = length-append bytes more in (
      omega (arith, ends, some),
      omega (arith, ends, size),
      omega (arith, ends, size, length-drop (end - start) (bytes ++ more)),
    )
marked_push start bytes (mark ∷ marks) more end frame marked some ends =
    let k = mark.end - start in
    let within : mark.end ≤ start + length bytes = marked.1 in
    let place : mark.end + length (drop k bytes) ≡ start + length bytes = rest_size start mark.end bytes marked.0 within in
    let size : length (bytes ++ more) ≡ length bytes + length more = length-append bytes more in
    let others : drop k (bytes ++ more) ≡ drop k bytes ++ more = drop-append-le k bytes more (omega arith) in (
      marked.0,
      omega (arith, size),
      subst (λ (bs : List ℕ). IsMarked mark.end bs (marks ++ record { end = end; frame = frame } ∷ [])) (sym others)
          (marked_push mark.end (drop k bytes) marks more end frame marked.2 some (omega (arith, place, ends))),
    )

pub joining_push : (rest : Held) (start end : ℕ) (bytes : List ℕ) (marks : List Mark) (more : List ℕ) (to frame : ℕ) → IsJoining rest start end bytes marks → end < to → end + length more ≡ to
    → ((q : ℕ) → end ≤ q → q < to → get rest q ≡ None) → IsJoining rest start to (bytes ++ more) (marks ++ record { end = to; frame = frame } ∷ [])
joining_push rest start end bytes marks more to frame joining some ends free =
    let at : start + length bytes ≡ end = joining.end_is in
    record {
      end_is = omega (arith, length-append bytes more);
      marked = marked_push start bytes marks more to frame joining.marked (omega arith) (omega arith);
      apart = λ q low high. elim (cases_lt q end) [
        | inl before ↦ joining.apart q low before
        | inr after ↦ free q after high
      ];
      begun = joining.begun;
    }

pub held_push : (rest : Held) (start end : ℕ) (bytes : List ℕ) (marks : List Mark) (more : List ℕ) (to frame : ℕ) → IsJoining rest start end bytes marks → end + length more ≡ to
    → put_pieces rest (cut start (bytes ++ more) (marks ++ record { end = to; frame = frame } ∷ [])) ≡ put_run (put_pieces rest (cut start bytes marks)) end more frame
held_push rest start end bytes marks more to frame joining ends =
    ap (put_pieces rest) (cut_push start bytes marks more to frame joining.marked (omega (arith, joining.end_is)))
    ∙ put_pieces-push rest (cut start bytes marks) (record { start = start + length bytes; end = to; bytes = more; frame = frame })
    ∙ ap (λ (at : ℕ). put_run (put_pieces rest (cut start bytes marks)) at more frame) joining.end_is

-- bytes put in elsewhere
swap_or : (a b c : Option Cell) → (c ≡ None) ⊎ (b ≡ None) → option_or (option_or a c) b ≡ option_or (option_or a b) c
swap_or a b c (inl none) = rw (none, or_none a, or_none (option_or a b)) refl
swap_or a b c (inr none) = rw (none, or_none a, or_none (option_or a c)) refl

pub swapped : (rest : Held) (start end : ℕ) (bytes : List ℕ) (marks : List Mark) (from : ℕ) (more : List ℕ) (frame : ℕ) → IsMarked start bytes marks → start + length bytes ≤ from
    → put_pieces (put_run rest from more frame) (cut start bytes marks) ≡ put_run (put_pieces rest (cut start bytes marks)) from more frame
swapped rest start end bytes marks from more frame marked behind =
    let pieces = cut start bytes marks in
    same_map nat_cmp_total nat_cmp-IsAntisymmetric _ _ (λ q.
    get-put_pieces (put_run rest from more frame) pieces q
    ∙ ap (λ (o : Option Cell). option_or o (found pieces q)) (get-put_run rest from more frame q)
    ∙ swap_or (get rest q) (found pieces q) (run_cell from more frame q) (elim (cases_lt q from) [
      | inl before ↦ inl (run_cell-before from more frame q before)
      | inr after ↦ inr (found_after start pieces (start + length bytes) q (cut_apart start bytes marks marked) (omega arith))
    ])
    ∙ sym (get-put_run (put_pieces rest pieces) from more frame q ∙ ap (λ (o : Option Cell). option_or o (run_cell from more frame q)) (get-put_pieces rest pieces q)))

put_before : (held : Held) (from : ℕ) (more : List ℕ) (frame q : ℕ) → q < from → get held q ≡ None → get (put_run held from more frame) q ≡ None
put_before held from more frame q before none = get-put_run held from more frame q ∙ rw none (run_cell-before from more frame q before)

pub joining_put : (rest : Held) (start end : ℕ) (bytes : List ℕ) (marks : List Mark) (from : ℕ) (more : List ℕ) (frame : ℕ) → IsJoining rest start end bytes marks → end ≤ from
    → IsJoining (put_run rest from more frame) start end bytes marks
joining_put rest start end bytes marks from more frame joining behind =
    let at : start + length bytes ≡ end = joining.end_is in
    record {
      end_is = joining.end_is;
      marked = joining.marked;
      apart = λ q low high. put_before rest from more frame q (omega arith) (joining.apart q low high);
      begun = elim joining.begun [
        | inl none ↦ inl none
        | inr free ↦ elim (cases_eq start 0) [
          | inl none ↦ inl none
          | inr some ↦ inr (put_before rest from more frame (start - 1) (elim (cases_lt (start - 1) from) [ inl less ↦ less | inr more_is ↦ absurd (some (omega arith)) ]) free)
        ]
      ];
    }

-- a piece taken out from elsewhere
pub out_of : (old new : Held) (at : ℕ) (more : List ℕ) (frame q : ℕ) → old ≡ put_run new at more frame → get old q ≡ None → get new q ≡ None
out_of old new at more frame q is none =
    first_none (get new q) (run_cell at more frame q) (sym (get-put_run new at more frame q) ∙ sym (ap (λ (h : Held). get h q) is) ∙ none)

pub joining_out : (old new : Held) (start end : ℕ) (bytes : List ℕ) (marks : List Mark) (at : ℕ) (piece : Piece) → IsJoining old start end bytes marks → IsTakenOut old new at piece
    → IsJoining new start end bytes marks
joining_out old new start end bytes marks at piece joining out = record {
  end_is = joining.end_is;
  marked = joining.marked;
  apart = λ q low high. out_of old new at piece.bytes piece.frame q out.held (joining.apart q low high);
  begun = elim joining.begun [
    | inl none ↦ inl none
    | inr free ↦ inr (out_of old new at piece.bytes piece.frame (start - 1) out.held free)
  ];
}

pub joining_moved : (old new : Held) (start end : ℕ) (bytes : List ℕ) (marks : List Mark) (piece : Piece) → IsJoining old start end bytes marks → IsTakenOut old new end piece
    → IsJoining new start piece.end (bytes ++ piece.bytes) (marks ++ record { end = piece.end; frame = piece.frame } ∷ [])
joining_moved old new start end bytes marks piece joining out =
    joining_push new start end bytes marks piece.bytes piece.end piece.frame (joining_out old new start end bytes marks end piece joining out) out.some
    (omega (arith, out.sized, out.start)) out.gone

pub held_moved : (old new : Held) (start end : ℕ) (bytes : List ℕ) (marks : List Mark) (piece : Piece) → IsJoining old start end bytes marks → IsTakenOut old new end piece
    → put_pieces new (cut start (bytes ++ piece.bytes) (marks ++ record { end = piece.end; frame = piece.frame } ∷ [])) ≡ put_pieces old (cut start bytes marks)
held_moved old new start end bytes marks piece joining out =
    held_push new start end bytes marks piece.bytes piece.end piece.frame (joining_out old new start end bytes marks end piece joining out) (omega (arith, out.sized, out.start))
    ∙ sym (swapped new start end bytes marks end piece.bytes piece.frame joining.marked (omega (arith, joining.end_is)))
    ∙ ap (λ (h : Held). put_pieces h (cut start bytes marks)) (sym out.held)

-- what is held
pub held_outside : (rest : Held) (start end : ℕ) (bytes : List ℕ) (marks : List Mark) (q : ℕ) → IsJoining rest start end bytes marks → (q < start) ⊎ (end ≤ q)
    → get (put_pieces rest (cut start bytes marks)) q ≡ get rest q
held_outside rest start end bytes marks q joining out =
    let apart = cut_apart start bytes marks joining.marked in
    let none : found (cut start bytes marks) q ≡ None = elim out [
      | inl before ↦ found_before start (cut start bytes marks) (start + length bytes) q apart before
      | inr past ↦ found_after start (cut start bytes marks) (start + length bytes) q apart (omega (arith, joining.end_is))
    ] in
    get-put_pieces rest (cut start bytes marks) q ∙ ap (option_or (get rest q)) none ∙ or_none (get rest q)

pub held_inside : (rest : Held) (start end : ℕ) (bytes : List ℕ) (marks : List Mark) (q : ℕ) → IsJoining rest start end bytes marks → start ≤ q → q < end
    → get (put_pieces rest (cut start bytes marks)) q ≡ found (cut start bytes marks) q
held_inside rest start end bytes marks q joining low high =
    get-put_pieces rest (cut start bytes marks) q ∙ ap (λ (o : Option Cell). option_or o (found (cut start bytes marks) q)) (joining.apart q low high)

pub held_run : (rest : Held) (start end : ℕ) (bytes : List ℕ) (marks : List Mark) → IsJoining rest start end bytes marks → HoldsAll (put_pieces rest (cut start bytes marks)) start end
held_run rest start end bytes marks joining = λ q low high.
    ap is_some (held_inside rest start end bytes marks q joining low high ∙ (cut_cell start bytes marks q joining.marked low (omega (arith, joining.end_is))).1)

bytes_are : (held : Held) (start : ℕ) (bytes : List ℕ) → ((i : ℕ) → i < length bytes → byte_of (get held (start + i)) ≡ slice_index bytes i) → bytes ≡ bytes_at held start (length bytes)
bytes_are held start [] are = refl
bytes_are held start (byte ∷ bytes) are =
    let none : start + 0 ≡ start = omega arith in
    let first : byte_of (get held start) ≡ byte = subst (λ (p : ℕ). byte_of (get held p) ≡ byte) none (are 0 (omega arith)) in
    let rest : bytes ≡ bytes_at held (start + 1) (length bytes) = bytes_are held (start + 1) bytes (λ i less.
    let place : start + suc i ≡ start + 1 + i = omega arith in
    subst (λ (p : ℕ). byte_of (get held p) ≡ slice_index bytes i) place (are (suc i) (omega arith))) in
    ap (λ (b : ℕ). b ∷ bytes) (sym first) ∙ ap (λ (bs : List ℕ). byte_of (get held start) ∷ bs) rest

pub held_bytes : (rest : Held) (start end : ℕ) (bytes : List ℕ) (marks : List Mark) → IsJoining rest start end bytes marks
    → bytes ≡ bytes_at (put_pieces rest (cut start bytes marks)) start (length bytes)
held_bytes rest start end bytes marks joining = bytes_are (put_pieces rest (cut start bytes marks)) start bytes (λ i less.
    let at : start + length bytes ≡ end = joining.end_is in
    let there = cut_cell start bytes marks (start + i) joining.marked (omega arith) (omega arith) in
    let place : start + i - start ≡ i = omega arith in
    ap byte_of (held_inside rest start end bytes marks (start + i) joining (omega arith) (omega arith) ∙ there.1) ∙ ap (slice_index bytes) place)

abbrev pub joined_of : Held → ℕ → List ℕ → List Mark → Joined
joined_of rest start bytes marks = record { held = put_pieces rest (cut start bytes marks); start = start; front = bytes }

pub in_order : (rest : Held) (start end : ℕ) (bytes : List ℕ) (marks : List Mark) → IsJoining rest start end bytes marks → IsInOrder (joined_of rest start bytes marks)
in_order rest start end bytes marks joining = record {
  run = subst (λ (to : ℕ). HoldsAll (put_pieces rest (cut start bytes marks)) start to) (sym joining.end_is) (held_run rest start end bytes marks joining);
  bytes = held_bytes rest start end bytes marks joining;
}

-- bytes that begin before the end of those in order
pub put_tail : (held : Held) (pos from : ℕ) (bytes : List ℕ) (frame : ℕ) → pos ≤ from → from ≤ pos + length bytes → HoldsAll held pos from
    → put_run held from (drop (from - pos) bytes) frame ≡ put_run held pos bytes frame
put_tail held pos from bytes frame low high there =
    let k = from - pos in
    let size : length (drop k bytes) ≡ length bytes - k = length-drop k bytes in
    same_map nat_cmp_total nat_cmp-IsAntisymmetric _ _ (λ q.
    get-put_run held from (drop k bytes) frame q
    ∙ elim (cases_lt q pos) [
      | inl before ↦ ap (option_or (get held q)) (run_cell-before from (drop k bytes) frame q (omega arith) ∙ sym (run_cell-before pos bytes frame q before))
      | inr after ↦ elim (cases_lt q from) [
        | inl inside ↦ some_or (get held q) (run_cell from (drop k bytes) frame q) (there q after inside) ∙ sym (some_or (get held q) (run_cell pos bytes frame q) (there q after inside))
        | inr behind ↦ elim (cases_lt q (pos + length bytes)) [
          | inl within ↦
              let place : k + (q - from) ≡ q - pos = omega arith in
              ap (option_or (get held q))
              (run_cell-in from (drop k bytes) frame q behind (omega arith)
              ∙ ap (λ (b : ℕ). Some (b, frame)) (get_or-drop k bytes (q - from) 0 ∙ ap (slice_index bytes) place)
              ∙ sym (run_cell-in pos bytes frame q after within))
          | inr past ↦ ap (option_or (get held q)) (run_cell-after from (drop k bytes) frame q (omega arith) ∙ sym (run_cell-after pos bytes frame q past))
        ]
      ]
    ]
    ∙ sym (get-put_run held pos bytes frame q))

-- the run at a position
marked_low : (start : ℕ) (bytes : List ℕ) (marks : List Mark) (i : ℕ) (mark : Mark) → IsMarked start bytes marks → slice_get marks i ≡ Some mark → start < mark.end
marked_low start bytes [] i mark marked is = absurd (none_is_not_some {X = Mark} None (ap is_some is) refl)
marked_low start bytes (first ∷ marks) zero mark marked is = subst (λ (m : Mark). start < m.end) (some_is first mark is) marked.0
marked_low start bytes (first ∷ marks) (suc i) mark marked is =
    omega (arith, marked.0, marked_low first.end (drop (first.end - start) bytes) marks i mark marked.2 is)

abbrev pub IsPastLast : List Mark → ℕ → ℕ → Type 0
IsPastLast marks place at = (last : ℕ) (mark : Mark) → last + 1 ≡ place → slice_get marks last ≡ Some mark → mark.end ≤ at

there_is : (marks : List Mark) (i : ℕ) → i < length marks → (mark : Mark) × (slice_get marks i ≡ Some mark)
there_is [] i less = absurd (omega (arith, less))
there_is (mark ∷ marks) zero less = (mark, refl)
there_is (mark ∷ marks) (suc i) less = there_is marks i (omega (arith, less))

-- a mark that isn't the last before a place ends before the last does
pub first_past : (start : ℕ) (bytes : List ℕ) (first : Mark) (marks : List Mark) (i at : ℕ) → IsMarked start bytes (first ∷ marks) → i < length marks + 1 → IsPastLast (first ∷ marks) (suc i) at → first.end ≤ at
first_past start bytes first marks zero at marked less past = past 0 first refl refl
first_past start bytes first marks (suc i) at marked less past =
    let there = there_is marks i (omega (arith, less)) in
    let low = marked_low first.end (drop (first.end - start) bytes) marks i there.0 marked.2 there.1 in
    omega (arith, low, past (suc i) there.0 (omega arith) there.1)

pub marked_run : (start : ℕ) (bytes : List ℕ) (marks : List Mark) (i at : ℕ) (mark : Mark) → IsMarked start bytes marks → start ≤ at → IsPastLast marks i at → slice_get marks i ≡ Some mark → at < mark.end
    → (piece : Piece) × IsPlaced start (cut start bytes marks) piece × (piece.start ≤ at) × (piece.end ≡ mark.end) × (piece.frame ≡ mark.frame)
marked_run start bytes [] i at mark marked low past is high = absurd (none_is_not_some {X = Mark} None (ap is_some is) refl)
marked_run start bytes (first ∷ marks) zero at mark marked low past is high =
    let one : first ≡ mark = some_is first mark is in
    let k = first.end - start in (
      record { start = start; end = first.end; bytes = take k bytes; frame = first.frame },
      placed_first start (start + length bytes) _ (cut first.end (drop k bytes) marks) (cut_apart start bytes (first ∷ marks) marked),
      low,
      ap (λ (m : Mark). m.end) one,
      ap (λ (m : Mark). m.frame) one,
    )
marked_run start bytes (first ∷ marks) (suc i) at mark marked low past is high =
    let k = first.end - start in
    let within : i < length marks = slice_get_within marks i mark is in
    let rest = marked_run first.end (drop k bytes) marks i at mark marked.2 (first_past start bytes first marks i at marked (omega arith) past)
    (λ last m next there. past (suc last) m (omega (arith, next)) there) is high in (
      rest.0,
      placed_later start (start + length bytes) _ rest.0 (cut first.end (drop k bytes) marks) (cut_apart start bytes (first ∷ marks) marked) rest.1,
      rest.2,
      rest.3,
      rest.4,
    )

pub marked_all : (start : ℕ) (bytes : List ℕ) (marks : List Mark) (at : ℕ) → IsMarked start bytes marks → start ≤ at → IsPastLast marks (length marks) at → start + length bytes ≤ at
marked_all start bytes [] at marked low past = omega (arith, marked)
marked_all start bytes (first ∷ marks) at marked low past =
    let k = first.end - start in
    let rest = marked_all first.end (drop k bytes) marks at marked.2 (first_past start bytes first marks (length marks) at marked (omega arith) (λ last m next there. past last m (omega (arith, next)) there))
    (λ last m next there. past (suc last) m (omega (arith, next)) there) in
    omega (arith, rest, rest_size start first.end bytes marked.0 marked.1)

pub run_of : (start : ℕ) (bytes : List ℕ) (marks : List Mark) (i at : ℕ) (mark : Mark) → IsMarked start bytes marks → start ≤ at → IsPastLast marks i at → slice_get marks i ≡ Some mark → at < mark.end
    → IsRunAt (held_of (cut start bytes marks)) at mark
run_of start bytes marks i at mark marked low past is high =
    let found_run = marked_run start bytes marks i at mark marked low past is high in
    let piece = found_run.0 in
    record {
      piece = piece;
      cover = record {
        sized = found_run.1.sized;
        low = found_run.2;
        high = subst (λ (e : ℕ). at < e) (sym found_run.3) high;
        is = λ q a b. get-held_of (cut start bytes marks) q ∙ found_run.1.is q a b;
      };
      end = found_run.3;
      frame = found_run.4;
    }

pub run_none : (start : ℕ) (bytes : List ℕ) (marks : List Mark) (at : ℕ) → IsMarked start bytes marks → (at < start) ⊎ (start + length bytes ≤ at) → get (held_of (cut start bytes marks)) at ≡ None
run_none start bytes marks at marked out = get-held_of (cut start bytes marks) at ∙ elim out [
  | inl before ↦ found_before start (cut start bytes marks) (start + length bytes) at (cut_apart start bytes marks marked) before
  | inr past ↦ found_after start (cut start bytes marks) (start + length bytes) at (cut_apart start bytes marks marked) past
]

pub run_inside : (rest : Held) (start end : ℕ) (bytes : List ℕ) (marks : List Mark) (at : ℕ) (run : Mark) → IsJoining rest start end bytes marks → IsRunAt (held_of (cut start bytes marks)) at run
    → IsRunAt (put_pieces rest (cut start bytes marks)) at run
run_inside rest start end bytes marks at run joining there =
    let pieces = cut start bytes marks in
    let piece = there.piece in
    record {
      piece = piece;
      cover = record {
        sized = there.cover.sized;
        low = there.cover.low;
        high = there.cover.high;
        is = λ q a b.
            let cell_is = cell_there piece q there.cover.sized a b in
            let some : found pieces q ≡ Some _ = sym (get-held_of pieces q) ∙ there.cover.is q a b ∙ cell_is in
            let is_in : (start ≤ q) × (q < end) = elim (cases_lt q start) [
              | inl before ↦ absurd (none_is_not_some (found pieces q) (ap is_some some) (found_before start pieces (start + length bytes) q (cut_apart start bytes marks joining.marked) before))
              | inr low ↦ elim (cases_lt q end) [
                | inl high ↦ (low, high)
                | inr past ↦ absurd (none_is_not_some (found pieces q) (ap is_some some)
                    (found_after start pieces (start + length bytes) q (cut_apart start bytes marks joining.marked) (omega (arith, joining.end_is))))
              ]
            ] in
            held_inside rest start end bytes marks q joining is_in.0 is_in.1 ∙ sym (get-held_of pieces q) ∙ there.cover.is q a b;
      };
      end = there.end;
      frame = there.frame;
    }

pub run_outside : (rest : Held) (pieces : List Piece) (at : ℕ) (piece : Piece) (run : Mark) → IsCover rest at piece → piece.end ≡ run.end → piece.frame ≡ run.frame → IsRunAt (put_pieces rest pieces) at run
run_outside rest pieces at piece run cover ends frames = record {
  piece = piece;
  cover = record {
    sized = cover.sized;
    low = cover.low;
    high = cover.high;
    is = λ q a b.
        let there = cover.is q a b ∙ cell_there piece q cover.sized a b in
        get-put_pieces rest pieces q ∙ some_or (get rest q) (found pieces q) (ap is_some there) ∙ cover.is q a b;
  };
  end = ends;
  frame = frames;
}

pub none_at : (rest : Held) (pieces : List Piece) (at : ℕ) → get (held_of pieces) at ≡ None → get rest at ≡ None → get (put_pieces rest pieces) at ≡ None
none_at rest pieces at none nothing = get-put_pieces rest pieces at ∙ rw (nothing, sym (get-held_of pieces at) ∙ none) refl

pub next_same : (a b : Held) (from : ℕ) (o : Option ℕ) → ((q : ℕ) → from ≤ q → get b q ≡ get a q) → IsNextHeld a from o → IsNextHeld b from o
next_same a b from None same none = λ q low. same q low ∙ none q low
next_same a b from (Some next) same first = record {
  order = first.order;
  there = subst (λ (o : Option Cell). IsSome o) (sym (same next first.order)) first.there;
  none = λ q low high. same q low ∙ first.none q low high;
}

free_same : (a b : Held) (from to : ℕ) → ((q : ℕ) → from ≤ q → q ≤ to → get b q ≡ get a q) → IsFreeFrom a from to → IsFreeFrom b from to
free_same a b from to same free = record {
  order = free.order;
  run = λ q low high. subst (λ (o : Option Cell). IsSome o) (sym (same q low (omega arith))) (free.run q low high);
  free = same to free.order (omega arith) ∙ free.free;
}

pub free_outside : (rest : Held) (start end : ℕ) (bytes : List ℕ) (marks : List Mark) (from to : ℕ) → IsJoining rest start end bytes marks → (from < start) ⊎ (end ≤ from) → IsFreeFrom rest from to
    → IsFreeFrom (put_pieces rest (cut start bytes marks)) from to
free_outside rest start end bytes marks from to joining (inr past) free =
    free_same rest (put_pieces rest (cut start bytes marks)) from to (λ q low high. held_outside rest start end bytes marks q joining (inr (omega arith))) free
free_outside rest start end bytes marks from to joining (inl before) free =
    let short : to < start = elim (cases_lt to start) [
      | inl less ↦ less
      | inr more ↦ elim joining.begun [
        | inl none ↦ absurd (omega arith)
        | inr none ↦ absurd (none_is_not_some (get rest (start - 1)) (free.run (start - 1) (omega arith) (omega arith)) none)
      ]
    ] in
    free_same rest (put_pieces rest (cut start bytes marks)) from to (λ q low high. held_outside rest start end bytes marks q joining (inl (omega arith))) free

pub free_inside : (rest : Held) (start end : ℕ) (bytes : List ℕ) (marks : List Mark) (from to : ℕ) → IsJoining rest start end bytes marks → start ≤ from → from < end → IsFreeFrom rest end to
    → IsFreeFrom (put_pieces rest (cut start bytes marks)) from to
free_inside rest start end bytes marks from to joining low high free =
    let behind = free_outside rest start end bytes marks end to joining (inr (omega arith)) free in
    let order : end ≤ to = free.order in
    record {
      order = omega arith;
      run = λ q a b. elim (cases_lt q end) [
        | inl inside ↦ held_run rest start end bytes marks joining q (omega arith) inside
        | inr past ↦ behind.run q past b
      ];
      free = behind.free;
    }

pub joining_free : (rest : Held) (start end : ℕ) (bytes : List ℕ) (marks : List Mark) → IsJoining rest start end bytes marks → get rest end ≡ None
    → get (put_pieces rest (cut start bytes marks)) (start + length bytes) ≡ None
joining_free rest start end bytes marks joining none =
    let at : start + length bytes ≡ end = joining.end_is in
    held_outside rest start end bytes marks (start + length bytes) joining (inr (omega arith)) ∙ ap (get rest) at ∙ none

pub joining_new : (rest : Held) (start : ℕ) → get rest (start - 1) ≡ None → IsJoining rest start start [] []
joining_new rest start free = record {
  end_is = omega arith;
  marked = refl;
  apart = λ q low high. absurd (omega arith);
  begun = inr free;
}

pub rest_free : (rest : Held) (pieces : List Piece) (q : ℕ) → get (put_pieces rest pieces) q ≡ None → get rest q ≡ None
rest_free rest pieces q none = first_none (get rest q) (found pieces q) (sym (get-put_pieces rest pieces q) ∙ none)

pub either_way : {T E X : Type 0} (r : Result T E) (P : X → Type 0) (x a b : X) → OnOk r (x ≡ a) → OnErr r (x ≡ b) → P a → P b → P x
either_way (Ok t) P x a b ok err pa pb = subst P (sym ok) pa
either_way (Err e) P x a b ok err pa pb = subst P (sym err) pb

-- what is held before the bytes that are put in
pub held_up_to : (rest : Held) (start end : ℕ) (bytes : List ℕ) (marks : List Mark) (pos from : ℕ) → IsJoining rest start end bytes marks → start ≤ pos → from ≡ max pos end
    → HoldsAll (put_pieces rest (cut start bytes marks)) pos from
held_up_to rest start end bytes marks pos from joining low from_is = λ q a b. held_run rest start end bytes marks joining q (omega arith) (omega arith)

-- bytes in order that become pieces
abbrev pub IsKeeping : Held → ℕ → List ℕ → List Mark → ℕ → ℕ → Held → Type 0
IsKeeping first start bytes marks at count rest =
    (count ≤ length marks) × (start ≤ at) × (at ≤ start + length bytes)
    × IsMarked at (drop (at - start) bytes) (drop count marks)
    × (put_pieces rest (cut at (drop (at - start) bytes) (drop count marks)) ≡ put_pieces first (cut start bytes marks))
    × ((position : ℕ) → start + length bytes ≤ position → get first position ≡ None → get rest position ≡ None)

split_at : (marks : List Mark) (i : ℕ) (mark : Mark) → slice_get marks i ≡ Some mark → drop i marks ≡ mark ∷ drop (suc i) marks
split_at [] i mark is = absurd (none_is_not_some {X = Mark} None (ap is_some is) refl)
split_at (first ∷ marks) zero mark is = ap (λ (m : Mark). m ∷ marks) (some_is first mark is)
split_at (first ∷ marks) (suc i) mark is = split_at marks i mark is

mark_there : (marks : List Mark) (i : ℕ) (other : Mark) → i < length marks → slice_get marks i ≡ Some (slice_index_or marks i other)
mark_there [] i other less = absurd (omega (arith, less))
mark_there (mark ∷ marks) zero other less = refl
mark_there (mark ∷ marks) (suc i) other less = mark_there marks i other (omega (arith, less))

pub kept_more : (first rest new : Held) (start : ℕ) (bytes : List ℕ) (marks : List Mark) (at count : ℕ) (other : Mark) (part : List ℕ) → IsKeeping first start bytes marks at count rest → count < length marks
    → part ≡ slice_range bytes (at - start) ((slice_index_or marks count other).end - start) → new ≡ put_run rest at part (slice_index_or marks count other).frame
    → IsKeeping first start bytes marks (slice_index_or marks count other).end (count + 1) new
kept_more first rest new start bytes marks at count other part keeping less part_is new_is =
    let mark = slice_index_or marks count other in
    let low : start ≤ at = keeping.1 in
    let split : drop count marks ≡ mark ∷ drop (suc count) marks = split_at marks count mark (mark_there marks count other less) in
    let next : drop (suc count) marks ≡ drop (count + 1) marks = (let same : suc count ≡ count + 1 = omega arith in ap (λ (n : ℕ). drop n marks) same) in
    let here = drop (at - start) bytes in
    let marked : IsMarked at here (mark ∷ drop (suc count) marks) = subst (λ (ms : List Mark). IsMarked at here ms) split keeping.3 in
    let some : at < mark.end = marked.0 in
    let size : length here ≡ length bytes - (at - start) = length-drop (at - start) bytes in
    let top : mark.end ≤ at + length here = marked.1 in
    let high : at ≤ start + length bytes = keeping.2 in
    let within : mark.end ≤ start + length bytes = omega arith in
    let whole : (at - start) + (mark.end - at) ≡ mark.end - start = omega arith in
    let behind : drop (mark.end - at) here ≡ drop (mark.end - start) bytes = drop-drop (mark.end - at) (at - start) bytes ∙ ap (λ (n : ℕ). drop n bytes) whole in
    let count_is : (mark.end - start) - (at - start) ≡ mark.end - at = omega arith in
    let bytes_is : part ≡ take (mark.end - at) here = part_is ∙ ap (λ (n : ℕ). take n here) count_is in
    let ends : at + length part ≡ mark.end = omega (arith, ap length bytes_is, length-take-le (mark.end - at) here (omega arith)) in
    let put : new ≡ put_run rest at (take (mark.end - at) here) mark.frame = new_is ∙ ap (λ (bs : List ℕ). put_run rest at bs mark.frame) bytes_is in (
      omega (arith, less),
      omega arith,
      within,
      subst (λ (ms : List Mark). IsMarked mark.end (drop (mark.end - start) bytes) ms) next (subst (λ (bs : List ℕ). IsMarked mark.end bs (drop (suc count) marks)) behind marked.2),
      ap (λ (h : Held). put_pieces h (cut mark.end (drop (mark.end - start) bytes) (drop (count + 1) marks))) put
          ∙ ap (λ (bs : List ℕ). put_pieces (put_run rest at (take (mark.end - at) here) mark.frame) (cut mark.end bs (drop (count + 1) marks))) (sym behind)
          ∙ ap (λ (ms : List Mark). put_pieces (put_run rest at (take (mark.end - at) here) mark.frame) (cut mark.end (drop (mark.end - at) here) ms)) (sym next)
          ∙ ap (λ (ms : List Mark). put_pieces rest (cut at here ms)) (sym split)
          ∙ keeping.4,
      λ q past none.
          ap (λ (h : Held). get h q) new_is ∙ get-put_run rest at part mark.frame q
          ∙ rw (keeping.5 q past none) (run_cell-after at part mark.frame q (omega arith)),
    )
