-- What is held by pieces in a row and by others together.
use Rattle.std.proofs.Common.{◌≡◌, ℕ, ◌≤◌, min, false, true≢false, IfNone, IfSome, List, ◌++◌, Option, Some, None, is_some, IsSome, refl, sym, ap, ◌∙◌, subst, inl, inr, arith}
use Rattle.std.specs.Option.{option_or}
use Rattle.std.specs.Map.{values_of}
use Rattle.std.specs.FinMap.{get}
use Rattle.std.proofs.lemmas.Bool.{cases_lt}
use Rattle.range_bytes.specs.declared.piece.Piece.{Piece}
use Rattle.range_bytes.specs.Held.{Cell, Held, HoldsAll, IsFirstHeld, IsNextHeld}
use Rattle.range_bytes.specs.Pieces.{held_of, IsCover, IsKept, least_of}
use Rattle.range_bytes.proofs.Runs.{none_is_not_some}
use Rattle.range_bytes.proofs.PieceLemmas.{cell_there, get-both, get-held_of, found_after}
use Rattle.range_bytes.proofs.Covering.{cover_there}

pub first_none : (a b : Option Cell) → option_or a b ≡ None → a ≡ None
first_none None b none = refl
first_none (Some c) b none = none

second_none : (a b : Option Cell) → option_or a b ≡ None → b ≡ None
second_none None b none = none
second_none (Some c) b none = absurd (none_is_not_some (Some c) refl none)

abbrev pub both : List Piece → List (ℕ × Piece) → Held
both row late = held_of (row ++ values_of late)

pub row_none : (row : List Piece) (late : List (ℕ × Piece)) (at : ℕ) → get (both row late) at ≡ None → get (held_of row) at ≡ None
row_none row late at none = first_none (get (held_of row) at) (get (held_of (values_of late)) at) (sym (get-both row (values_of late) at) ∙ none)

pub late_none : (row : List Piece) (late : List (ℕ × Piece)) (at : ℕ) → get (both row late) at ≡ None → get (held_of (values_of late)) at ≡ None
late_none row late at none = second_none (get (held_of row) at) (get (held_of (values_of late)) at) (sym (get-both row (values_of late) at) ∙ none)

pub both_none : (row : List Piece) (late : List (ℕ × Piece)) (at : ℕ) → get (held_of row) at ≡ None → get (held_of (values_of late)) at ≡ None → get (both row late) at ≡ None
both_none row late at a b = get-both row (values_of late) at ∙ ap (λ (o : Option Cell). option_or o (get (held_of (values_of late)) at)) a ∙ b

pub row_cover : (row : List Piece) (late : List (ℕ × Piece)) (at : ℕ) (piece : Piece) → IsCover (held_of row) at piece → IsCover (both row late) at piece
row_cover row late at piece cover = record {
  sized = cover.sized;
  low = cover.low;
  high = cover.high;
  is = λ q a b.
      let there = cell_there piece q cover.sized a b in
      get-both row (values_of late) q
      ∙ ap (λ (o : Option Cell). option_or o (get (held_of (values_of late)) q)) (cover.is q a b ∙ there)
      ∙ sym there;
}

pub late_cover : (row : List Piece) (late : List (ℕ × Piece)) (end at : ℕ) (piece : Piece) → IsKept row late end → IsCover (held_of (values_of late)) at piece → IsCover (both row late) at piece
late_cover row late end at piece kept cover = record {
  sized = cover.sized;
  low = cover.low;
  high = cover.high;
  is = λ q a b. elim (kept.once q) [
    | inl none ↦ get-both row (values_of late) q ∙ ap (λ (o : Option Cell). option_or o (get (held_of (values_of late)) q)) none ∙ cover.is q a b
    | inr none ↦ absurd (none_is_not_some (get (held_of (values_of late)) q) (cover_there (held_of (values_of late)) at q piece cover a b) none)
  ];
}

some_first : (a b : Option Cell) → IsSome a → IsSome (option_or a b)
some_first (Some c) b there = there
some_first None b there = absurd (none_is_not_some {X = Cell} None there refl)

some_second : (a b : Option Cell) → IsSome b → IsSome (option_or a b)
some_second (Some c) b there = refl
some_second None b there = there

row_some : (row : List Piece) (late : List (ℕ × Piece)) (q : ℕ) → IsSome (get (held_of row) q) → IsSome (get (both row late) q)
row_some row late q there = subst (λ (o : Option Cell). IsSome o) (sym (get-both row (values_of late) q)) (some_first (get (held_of row) q) (get (held_of (values_of late)) q) there)

late_some : (row : List Piece) (late : List (ℕ × Piece)) (q : ℕ) → IsSome (get (held_of (values_of late)) q) → IsSome (get (both row late) q)
late_some row late q there = subst (λ (o : Option Cell). IsSome o) (sym (get-both row (values_of late) q)) (some_second (get (held_of row) q) (get (held_of (values_of late)) q) there)

pub both_next : (row : List Piece) (late : List (ℕ × Piece)) (from : ℕ) (a b : Option ℕ) → IsNextHeld (held_of row) from a → IsNextHeld (held_of (values_of late)) from b → IsNextHeld (both row late) from (least_of a b)
both_next row late from None None x y = λ q order. both_none row late q (x q order) (y q order)
both_next row late from None (Some b) x y = record {
  order = y.order;
  there = late_some row late b y.there;
  none = λ q a c. both_none row late q (x q a) (y.none q a c);
}
both_next row late from (Some a) None x y = record {
  order = x.order;
  there = row_some row late a x.there;
  none = λ q b c. both_none row late q (x.none q b c) (y q b);
}
both_next row late from (Some a) (Some b) x y = elim (cases_lt a b) [
  | inl less ↦
      let same : a ≡ min a b = omega arith in
      subst (λ (n : ℕ). IsFirstHeld (both row late) from n) same (record {
        order = x.order;
        there = row_some row late a x.there;
        none = λ q low high. both_none row late q (x.none q low high) (y.none q low (omega arith));
      })
  | inr more ↦
      let same : b ≡ min a b = omega arith in
      subst (λ (n : ℕ). IsFirstHeld (both row late) from n) same (record {
        order = y.order;
        there = late_some row late b y.there;
        none = λ q low high. both_none row late q (x.none q low (omega arith)) (y.none q low high);
      })
]

-- a position that is held is the first from itself on
pub next_here : (held : Held) (from : ℕ) → IsSome (get held from) → IsFirstHeld held from from
next_here held from there = record { order = omega arith; there = there; none = λ q low high. absurd (omega arith) }

pub past_end : (row : List Piece) (late : List (ℕ × Piece)) (end : ℕ) → IsKept row late end → (position : ℕ) → end ≤ position → get (both row late) position ≡ None
past_end row late end kept position past = both_none row late position
    (get-held_of row position ∙ found_after 0 row end position kept.row_apart past)
    (get-held_of (values_of late) position ∙ found_after 0 (values_of late) end position kept.late_apart past)

-- a piece more of positions that are held
pub covered_more : (held : Held) (from at : ℕ) (piece : Piece) → HoldsAll held from at → IsCover held at piece → HoldsAll held from piece.end
covered_more held from at piece held_so_far cover = λ q a b. elim (cases_lt q at) [
  | inl before ↦ held_so_far q a before
  | inr after ↦ cover_there held at q piece cover (omega (arith, cover.low)) b
]

pub none_if : {X P : Type 0} (o : Option X) → is_some o ≡ false → IfNone o P → P
none_if None none is = is
none_if (Some x) none is = absurd (true≢false none)

pub if_some : {X : Type 0} (o : Option X) (P Q : X → Type 0) → ((x : X) → P x → Q x) → IfSome o P → IfSome o Q
if_some None P Q weaker is = is
if_some (Some x) P Q weaker is = weaker x is

pub if_none : {X P Q : Type 0} (o : Option X) → (P → Q) → IfNone o P → IfNone o Q
if_none None weaker is = weaker is
if_none (Some x) weaker is = is
