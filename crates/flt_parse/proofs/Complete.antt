-- Each filter of the grammar is read as itself.
use Rattle.std.proofs.Common.{◌≡◌, ℕ, ◌+◌, ◌<◌, ◌≤◌, max, Bool, true, false, List, [], ◌∷◌, ◌++◌, length, Option, Some, None, cond, ltb, leb, append_assoc, arith, sym, ap, ◌∙◌, refl, subst}
use Rattle.std.proofs.lemmas.Bool.{lt-ltb, le-leb}
use Rattle.std.proofs.lemmas.Bool.Decides.{nat_tests}
use Rattle.std.proofs.lemmas.List.{append-nil}
use Rattle.flt_syntax.specs.Grammar.{IsFilter, IsGrouped, IsOperand, IsTail, IsTestOperand, arguments, binds, binds_arithmetic, calls, calls_behind, depth, element, last_layer, more_elements, more_layers, more_ranges, operand, part, place, range, ranges, sign_of_place, spelled, strength, sum, tail, takes_mask, takes_more, takes_operator, takes_slice, tightness, unary}
use Rattle.flt_parse.specs.Parser.Reading.{Left, LeftOf, Frame, Waiting, WaitingFor, Link, Comma, Sign, Call, Side, OnLeft, OnRight, LayerWanted, RangeSpot, RangeWanted, PlaceRead, ColonRead, EndWanted, PartRead, Spot, OperandWanted, OperandRead, InLayers, InRanges, ElementWanted, InSet, State, Want, Have, InOperand, InTail, Go, Stop, Answer, Whole, Bad, binds_link, ended, have, linked, no_frame, operand_end, open_around, open_at, read, settle, side_end, start, step, then_go, wait, whole_operand, with_part}
use Rattle.flt_syntax.specs.Written.{Written, WrittenOperand, WrittenTail, TextOf, NamedOf, OnLayerOf, OnLayersOf, SlicedOf, MaskedOf, CalledOf, ComputedOf, ArgumentsOf, CompareOf, InOf, MatchesOf, JoinedOf, NotOf, GroupOf, AloneOf, TestOf}
use Rattle.flt_syntax.specs.declared.ast.Choice.{Choice}
use Rattle.flt_syntax.specs.declared.ast.Element.{Element}
use Rattle.flt_syntax.specs.declared.ast.Element.TheVariants as elements
use Rattle.flt_syntax.specs.declared.ast.Function.{Function}
use Rattle.flt_syntax.specs.declared.ast.LayerRange.{LayerRange}
use Rattle.flt_syntax.specs.declared.ast.Literal.TheVariants as literals
use Rattle.flt_syntax.specs.declared.ast.Negation.{Negation}
use Rattle.flt_syntax.specs.declared.ast.Operator.{Operator}
use Rattle.flt_syntax.specs.declared.ast.Place.{Place}
use Rattle.flt_syntax.specs.declared.ast.RangePart.{RangePart}
use Rattle.flt_syntax.specs.declared.ast.RangePart.TheVariants as parts
use Rattle.flt_syntax.specs.declared.ast.SliceRange.{SliceRange}
use Rattle.flt_syntax.specs.declared.token.Join.{Join}
use Rattle.flt_syntax.specs.declared.token.Join.TheVariants as joins
use Rattle.flt_syntax.specs.declared.token.Kind.{Kind}
use Rattle.flt_syntax.specs.declared.token.Kind.TheVariants as kinds
use Rattle.flt_syntax.specs.declared.fault.FilterReason.TheVariants.{Unexpected}
use Rattle.flt_syntax.specs.declared.word.Word.{Word}
use Rattle.flt_parse.proofs.Linked.{comma_least, link_below, none_small}
use Rattle.flt_parse.proofs.Printed.{IsUnder, least_of, link_kind}

-- kinds alone, read from a state on
abbrev pub over : ℕ → State → List Kind → Answer Kind
over limit s ks = read (λ k. k) limit s ks

-- layers

abbrev inner : Side → List Waiting → List Call → Frame → List Frame → Spot → State
inner side ws cs f k spot = InOperand spot side ws cs f k

more_on : (limit : ℕ) (at : Spot → State) (w : Word) (done : List LayerRange) (r : LayerRange) (rs : List LayerRange) (rest : List Kind)
    → over limit (at (OperandRead (OnLayersOf w (done ++ r ∷ [] ++ rs)))) rest ≡ over limit (at (OperandRead (OnLayersOf w (done ++ r ∷ rs)))) rest
more_on limit at w done r rs rest = ap (λ ls. over limit (at (OperandRead (OnLayersOf w ls))) rest) (append_assoc done (r ∷ []) rs)

layers_read : (limit : ℕ) (side : Side) (ws : List Waiting) (cs : List Call) (f : Frame) (k : List Frame) (w : Word) (rs : List LayerRange) (done : List LayerRange) (at first : ℕ) (last : Option ℕ) (rest : List Kind)
    → over limit (InOperand (InLayers w done at LayerWanted) side ws cs f k) (kinds.Number first ∷ (last_layer last ++ more_layers rs) ++ rest)
    ≡ over limit (InOperand (OperandRead (OnLayersOf w (done ++ (record { at = at; first = first; last = last }) ∷ rs))) side ws cs f k) rest
layers_read limit side ws cs f k w [] done at first None rest = refl
layers_read limit side ws cs f k w [] done at first (Some m) rest = refl
layers_read limit side ws cs f k w (r ∷ rs) done at first None rest =
    layers_read limit side ws cs f k w rs (done ++ (record { at = at; first = first; last = None }) ∷ []) r.at r.first r.last rest
    ∙ more_on limit (inner side ws cs f k) w done (record { at = at; first = first; last = None }) (r ∷ rs) rest
layers_read limit side ws cs f k w (r ∷ rs) done at first (Some m) rest =
    layers_read limit side ws cs f k w rs (done ++ (record { at = at; first = first; last = Some m }) ∷ []) r.at r.first r.last rest
    ∙ more_on limit (inner side ws cs f k) w done (record { at = at; first = first; last = Some m }) (r ∷ rs) rest

-- ranges
abbrev read_part : RangePart → RangeSpot
read_part (parts.One p) = PlaceRead p
read_part (parts.ToEnd p) = ColonRead p
read_part part = PartRead part

abbrev in_ranges : Side → List Waiting → List Call → Frame → List Frame → WrittenOperand → ℕ → List SliceRange → ℕ → RangeSpot → State
in_ranges side ws cs f k o bracket done at spot = InOperand (InRanges o bracket done at spot) side ws cs f k

place_read : (limit : ℕ) (side : Side) (ws : List Waiting) (cs : List Call) (f : Frame) (k : List Frame) (o : WrittenOperand) (bracket : ℕ) (done : List SliceRange) (at : ℕ) (from_end : Bool) (n : ℕ) (ks : List Kind)
    → over limit (in_ranges side ws cs f k o bracket done at RangeWanted) (sign_of_place from_end ++ kinds.Number n ∷ ks)
    ≡ over limit (in_ranges side ws cs f k o bracket done at (PlaceRead (record { from_end = from_end; offset = n }))) ks
place_read limit side ws cs f k o bracket done at true n ks = refl
place_read limit side ws cs f k o bracket done at false n ks = refl

end_read : (limit : ℕ) (side : Side) (ws : List Waiting) (cs : List Call) (f : Frame) (k : List Frame) (o : WrittenOperand) (bracket : ℕ) (done : List SliceRange) (at : ℕ) (p : Place) (from_end : Bool) (n : ℕ) (ks : List Kind)
    → over limit (in_ranges side ws cs f k o bracket done at (EndWanted p)) (sign_of_place from_end ++ kinds.Number n ∷ ks)
    ≡ over limit (in_ranges side ws cs f k o bracket done at (PartRead (parts.Between p (record { from_end = from_end; offset = n })))) ks
end_read limit side ws cs f k o bracket done at p true n ks = refl
end_read limit side ws cs f k o bracket done at p false n ks = refl

-- the tokens of a place before others
place_first : (p : Place) (ks : List Kind) → place p ++ ks ≡ sign_of_place p.from_end ++ kinds.Number p.offset ∷ ks
place_first p ks = append_assoc (sign_of_place p.from_end) (kinds.Number p.offset ∷ []) ks

part_read : (limit : ℕ) (side : Side) (ws : List Waiting) (cs : List Call) (f : Frame) (k : List Frame) (o : WrittenOperand) (bracket : ℕ) (done : List SliceRange) (at : ℕ) (part : RangePart) (ks : List Kind)
    → over limit (in_ranges side ws cs f k o bracket done at RangeWanted) (range part ++ ks) ≡ over limit (in_ranges side ws cs f k o bracket done at (read_part part)) ks
part_read limit side ws cs f k o bracket done at (parts.One p) ks =
    ap (over limit (in_ranges side ws cs f k o bracket done at RangeWanted)) (place_first p ks)
    ∙ place_read limit side ws cs f k o bracket done at p.from_end p.offset ks
part_read limit side ws cs f k o bracket done at (parts.Counted p n) ks =
    ap (over limit (in_ranges side ws cs f k o bracket done at RangeWanted))
    (append_assoc (place p) (kinds.Colon ∷ kinds.Number n ∷ []) ks ∙ place_first p (kinds.Colon ∷ kinds.Number n ∷ ks))
    ∙ place_read limit side ws cs f k o bracket done at p.from_end p.offset (kinds.Colon ∷ kinds.Number n ∷ ks)
part_read limit side ws cs f k o bracket done at (parts.Between p q) ks =
    ap (over limit (in_ranges side ws cs f k o bracket done at RangeWanted))
    (append_assoc (place p) (kinds.Minus ∷ place q) ks ∙ place_first p (kinds.Minus ∷ (place q ++ ks)))
    ∙ place_read limit side ws cs f k o bracket done at p.from_end p.offset (kinds.Minus ∷ (place q ++ ks))
    ∙ ap (over limit (in_ranges side ws cs f k o bracket done at (EndWanted p))) (place_first q ks)
    ∙ end_read limit side ws cs f k o bracket done at p q.from_end q.offset ks
part_read limit side ws cs f k o bracket done at (parts.Front n) ks = refl
part_read limit side ws cs f k o bracket done at (parts.ToEnd p) ks =
    ap (over limit (in_ranges side ws cs f k o bracket done at RangeWanted))
    (append_assoc (place p) (kinds.Colon ∷ []) ks ∙ place_first p (kinds.Colon ∷ ks))
    ∙ place_read limit side ws cs f k o bracket done at p.from_end p.offset (kinds.Colon ∷ ks)

part_closed : (limit : ℕ) (side : Side) (ws : List Waiting) (cs : List Call) (f : Frame) (k : List Frame) (o : WrittenOperand) (bracket : ℕ) (done : List SliceRange) (at : ℕ) (part : RangePart) (ks : List Kind)
    → over limit (in_ranges side ws cs f k o bracket done at (read_part part)) (kinds.CloseBracket ∷ ks)
    ≡ over limit (InOperand (OperandRead (SlicedOf o bracket (with_part at done part))) side ws cs f k) ks
part_closed limit side ws cs f k o bracket done at (parts.One p) ks = refl
part_closed limit side ws cs f k o bracket done at (parts.Counted p n) ks = refl
part_closed limit side ws cs f k o bracket done at (parts.Between p q) ks = refl
part_closed limit side ws cs f k o bracket done at (parts.Front n) ks = refl
part_closed limit side ws cs f k o bracket done at (parts.ToEnd p) ks = refl

part_passed : (limit : ℕ) (side : Side) (ws : List Waiting) (cs : List Call) (f : Frame) (k : List Frame) (o : WrittenOperand) (bracket : ℕ) (done : List SliceRange) (at : ℕ) (part : RangePart) (next : ℕ) (ks : List Kind)
    → over limit (in_ranges side ws cs f k o bracket done at (read_part part)) (kinds.NextRange next ∷ ks)
    ≡ over limit (in_ranges side ws cs f k o bracket (with_part at done part) next RangeWanted) ks
part_passed limit side ws cs f k o bracket done at (parts.One p) next ks = refl
part_passed limit side ws cs f k o bracket done at (parts.Counted p n) next ks = refl
part_passed limit side ws cs f k o bracket done at (parts.Between p q) next ks = refl
part_passed limit side ws cs f k o bracket done at (parts.Front n) next ks = refl
part_passed limit side ws cs f k o bracket done at (parts.ToEnd p) next ks = refl

ranges_read : (limit : ℕ) (side : Side) (ws : List Waiting) (cs : List Call) (f : Frame) (k : List Frame) (o : WrittenOperand) (bracket : ℕ) (rs : List SliceRange) (done : List SliceRange) (at : ℕ) (part : RangePart) (rest : List Kind)
    → over limit (in_ranges side ws cs f k o bracket done at RangeWanted) ((range part ++ more_ranges rs) ++ rest)
    ≡ over limit (InOperand (OperandRead (SlicedOf o bracket (done ++ (record { at = at; part = part }) ∷ rs))) side ws cs f k) rest
ranges_read limit side ws cs f k o bracket [] done at part rest =
    ap (over limit (in_ranges side ws cs f k o bracket done at RangeWanted)) (append_assoc (range part) (kinds.CloseBracket ∷ []) rest)
    ∙ part_read limit side ws cs f k o bracket done at part (kinds.CloseBracket ∷ rest)
    ∙ part_closed limit side ws cs f k o bracket done at part rest
ranges_read limit side ws cs f k o bracket (r ∷ rs) done at part rest =
    ap (over limit (in_ranges side ws cs f k o bracket done at RangeWanted)) (append_assoc (range part) (more_ranges (r ∷ rs)) rest)
    ∙ part_read limit side ws cs f k o bracket done at part (kinds.NextRange r.at ∷ ((range r.part ++ more_ranges rs) ++ rest))
    ∙ part_passed limit side ws cs f k o bracket done at part r.at ((range r.part ++ more_ranges rs) ++ rest)
    ∙ ranges_read limit side ws cs f k o bracket rs (with_part at done part) r.at r.part rest
    ∙ ap (λ ls. over limit (InOperand (OperandRead (SlicedOf o bracket ls)) side ws cs f k) rest) (append_assoc done ((record { at = at; part = part }) ∷ []) (r ∷ rs))

-- operands
slice_opened : (limit : ℕ) (side : Side) (ws : List Waiting) (cs : List Call) (f : Frame) (k : List Frame) (o : WrittenOperand) (bracket at : ℕ) (ks : List Kind) → takes_slice o ≡ true
    → over limit (InOperand (OperandRead o) side ws cs f k) (kinds.OpenRanges bracket at ∷ ks) ≡ over limit (in_ranges side ws cs f k o bracket [] at RangeWanted) ks
slice_opened limit side ws cs f k o bracket at ks h = rw h refl

mask_opened : (limit : ℕ) (side : Side) (ws : List Waiting) (cs : List Call) (f : Frame) (k : List Frame) (o : WrittenOperand) (at : ℕ) (w : Word) (ks : List Kind) → takes_mask o ≡ true
    → over limit (InOperand (OperandRead o) side ws cs f k) (kinds.Mask at ∷ kinds.Name w ∷ ks) ≡ over limit (InOperand (OperandRead (MaskedOf o at w)) side ws cs f k) ks
mask_opened limit side ws cs f k o at w ks h = rw h refl

call_opened : (limit : ℕ) (side : Side) (ws : List Waiting) (cs : List Call) (f : Frame) (k : List Frame) (function : Function) (at : ℕ) (ks : List Kind) → length cs + open_at f k < limit
    → over limit (InOperand OperandWanted side ws cs f k) (kinds.Calls function at ∷ ks)
    ≡ over limit (InOperand OperandWanted side [] ((record { function = function; at = at; waiting = ws }) ∷ cs) f k) ks
call_opened limit side ws cs f k function at ks h = let e : ltb (length cs + open_at f k) limit ≡ true = lt-ltb _ _ h in rw e refl

-- what may follow an operand whose outermost sign binds so tightly: no more of its last part, and no tighter sign
abbrev pub Ends : ℕ → List Kind → Type 0
Ends n [] = Unit {0}
Ends n (kinds.Hash ∷ rest) = ⊥
Ends n (kinds.OpenRanges at next ∷ rest) = ⊥
Ends n (kinds.Mask at ∷ rest) = ⊥
Ends n (kinds.Computes a at ∷ rest) = binds_arithmetic a ≤ n
Ends n (kind ∷ rest) = Unit {0}

ends_more : (m n : ℕ) (rest : List Kind) → m ≤ n → Ends m rest → Ends n rest
ends_more m n [] le h = tt
ends_more m n (kinds.Hash ∷ rest) le h = absurd h
ends_more m n (kinds.OpenRanges at next ∷ rest) le h = absurd h
ends_more m n (kinds.Mask at ∷ rest) le h = absurd h
ends_more m n (kinds.Computes a at ∷ rest) le h = omega arith
ends_more m n (kind ∷ rest) le h = tt

not_le : (m n : ℕ) → n < m → leb m n ≡ false
not_le m n h = grind (arith, nat_tests)

-- behind a sign or a comma
under_more : (ws : List Waiting) (m n : ℕ) → m ≤ n → IsUnder ws m → IsUnder ws n
under_more [] m n h under = tt
under_more (WaitingFor l i ∷ ws) m n h under = omega arith

awaited : (j : Link) (ws : List Waiting) (o : WrittenOperand) → IsUnder ws (binds_link j) → wait j ws o ≡ WaitingFor o j ∷ ws
awaited j [] o under = refl
awaited j (WaitingFor l i ∷ ws) o under =
    let e : leb (binds_link j) (binds_link i) ≡ false = not_le _ _ under in rw e refl

more_awaited : (i j : Link) (l r : WrittenOperand) (ws : List Waiting) → binds_link i ≤ binds_link j → wait i (WaitingFor l j ∷ ws) r ≡ wait i ws (linked j l r)
more_awaited i j l r ws h = let e : leb (binds_link i) (binds_link j) ≡ true = le-leb _ _ h in rw e refl

-- a sign, or a comma where more arguments may come, stands behind an operand
abbrev Passes : Link → List Call → Type 0
Passes Comma [] = ⊥
Passes Comma (call ∷ cs) = takes_more call.function ≡ true
Passes (Sign a at) cs = Unit {0}

comma_read : (limit : ℕ) (side : Side) (ws : List Waiting) (call : Call) (cs : List Call) (f : Frame) (k : List Frame) (o : WrittenOperand) (ks : List Kind) → takes_more call.function ≡ true
    → over limit (InOperand (OperandRead o) side ws (call ∷ cs) f k) (kinds.Comma ∷ ks) ≡ over limit (InOperand OperandWanted side (wait Comma ws o) (call ∷ cs) f k) ks
comma_read limit side ws call cs f k o ks h = rw h refl

link_read : (limit : ℕ) (j : Link) (side : Side) (ws : List Waiting) (cs : List Call) (f : Frame) (k : List Frame) (o : WrittenOperand) (ks : List Kind) → Passes j cs → IsUnder ws (binds_link j)
    → over limit (InOperand (OperandRead o) side ws cs f k) (link_kind j ∷ ks) ≡ over limit (InOperand OperandWanted side (WaitingFor o j ∷ ws) cs f k) ks
link_read limit Comma side ws [] f k o ks h under = absurd h
link_read limit Comma side ws (call ∷ cs) f k o ks h under =
    comma_read limit side ws call cs f k o ks h ∙ ap (λ all. over limit (InOperand OperandWanted side all (call ∷ cs) f k) ks) (awaited Comma ws o under)
link_read limit (Sign a at) side ws cs f k o ks h under =
    ap (λ all. over limit (InOperand OperandWanted side all cs f k) ks) (awaited (Sign a at) ws o under)

-- what waits is joined before what binds no more tightly
side_over : (j : Link) (side : Side) (ws : List Waiting) (cs : List Call) (l r : WrittenOperand) (f : Frame) (k : List Frame) (kind : Kind)
    → side_end side (WaitingFor l j ∷ ws) cs r f k kind ≡ side_end side ws cs (linked j l r) f k kind
side_over j side ws (call ∷ cs) l r f k kinds.Comma =
    ap (λ all. cond (takes_more call.function) (Go (InOperand OperandWanted side all (call ∷ cs) f k)) (Stop Unexpected))
    (more_awaited Comma j l r ws (comma_least j))
side_over j side ws (call ∷ cs) l r f k kind = refl
side_over j (OnLeft c) ws [] l r f k kind = refl
side_over j (OnRight c o operator at) ws [] l r f k kind = refl

end_over : (j : Link) (side : Side) (ws : List Waiting) (cs : List Call) (l r : WrittenOperand) (f : Frame) (k : List Frame) (kind : Kind) (rest : List Kind) → Ends (binds_link j) (kind ∷ rest)
    → operand_end side (WaitingFor l j ∷ ws) cs r f k kind ≡ operand_end side ws cs (linked j l r) f k kind
end_over j side ws cs l r f k (kinds.Computes a at) rest h = ap (λ all. Go (InOperand OperandWanted side all cs f k)) (more_awaited (Sign a at) j l r ws h)
end_over j side ws cs l r f k kind rest h = side_over j side ws cs l r f k kind

step_over : (limit : ℕ) (j : Link) (side : Side) (ws : List Waiting) (cs : List Call) (l r : WrittenOperand) (f : Frame) (k : List Frame) (kind : Kind) (rest : List Kind) → Ends (binds_link j) (kind ∷ rest)
    → step limit (InOperand (OperandRead r) side (WaitingFor l j ∷ ws) cs f k) kind ≡ step limit (InOperand (OperandRead (linked j l r)) side ws cs f k) kind
step_over limit j side ws cs l r f k kinds.Hash rest h = absurd h
step_over limit j side ws cs l r f k (kinds.OpenRanges at next) rest h = absurd h
step_over limit j side ws cs l r f k (kinds.Mask at) rest h = absurd h
step_over limit j side ws cs l r f k kind rest h = end_over j side ws cs l r f k kind rest h

whole_over : (j : Link) (side : Side) (ws : List Waiting) (cs : List Call) (l r : WrittenOperand) (f : Frame) (k : List Frame)
    → whole_operand (OperandRead r) (WaitingFor l j ∷ ws) cs side f k ≡ whole_operand (OperandRead (linked j l r)) ws cs side f k
whole_over j side ws [] l r f k = refl
whole_over j side ws (call ∷ cs) l r f k = refl

link_over : (limit : ℕ) (j : Link) (side : Side) (ws : List Waiting) (cs : List Call) (l r : WrittenOperand) (f : Frame) (k : List Frame) (rest : List Kind) → Ends (binds_link j) rest
    → over limit (InOperand (OperandRead r) side (WaitingFor l j ∷ ws) cs f k) rest ≡ over limit (InOperand (OperandRead (linked j l r)) side ws cs f k) rest
link_over limit j side ws cs l r f k [] h = ap ended (whole_over j side ws cs l r f k)
link_over limit j side ws cs l r f k (kind ∷ rest) h =
    ap (λ m. then_go m (λ next. over limit next rest) (λ e. Bad e (kind ∷ rest))) (step_over limit j side ws cs l r f k kind rest h)

-- an operand is read as itself: a part before any tokens, others before what may follow them
pub record ReadsOperand (limit : ℕ) (o : WrittenOperand) : Type 0 where
  pub as_part : part ≤ tightness o → (side : Side) (ws : List Waiting) (cs : List Call) (f : Frame) (k : List Frame) (rest : List Kind)
      → length cs + open_at f k + calls o ≤ limit
      → over limit (InOperand OperandWanted side ws cs f k) (operand o ++ rest) ≡ over limit (InOperand (OperandRead o) side ws cs f k) rest
  pub as_operand : (side : Side) (ws : List Waiting) (cs : List Call) (f : Frame) (k : List Frame) (rest : List Kind)
      → length cs + open_at f k + calls o ≤ limit → IsUnder ws (tightness o) → least_of cs ≤ tightness o → Ends (tightness o) rest
      → over limit (InOperand OperandWanted side ws cs f k) (operand o ++ rest) ≡ over limit (InOperand (OperandRead o) side ws cs f k) rest

abbrev AsPart : ℕ → WrittenOperand → Type 0
AsPart limit o = (side : Side) (ws : List Waiting) (cs : List Call) (f : Frame) (k : List Frame) (rest : List Kind) → length cs + open_at f k + calls o ≤ limit
    → over limit (InOperand OperandWanted side ws cs f k) (operand o ++ rest) ≡ over limit (InOperand (OperandRead o) side ws cs f k) rest

of_part : (limit : ℕ) (o : WrittenOperand) → AsPart limit o → ReadsOperand limit o
of_part limit o reads = record {
  as_part = λ tight side ws cs f k rest room. reads side ws cs f k rest room;
  as_operand = λ side ws cs f k rest room under least ends. reads side ws cs f k rest room;
}

-- what is sliced or masked is a part
slice_part : (o : WrittenOperand) → takes_slice o ≡ true → part ≤ tightness o
slice_part (ComputedOf a at l r) h = cc
slice_part (ArgumentsOf l r) h = cc
slice_part o h = omega arith

mask_part : (o : WrittenOperand) → takes_mask o ≡ true → part ≤ tightness o
mask_part (ComputedOf a at l r) h = cc
mask_part (ArgumentsOf l r) h = cc
mask_part o h = omega arith

comma_passes : (cs : List Call) → least_of cs ≤ arguments → Passes Comma cs
comma_passes [] h = omega arith
comma_passes (call ∷ cs) h = more_of (takes_more call.function) refl
  where
    more_of : (t : Bool) → takes_more call.function ≡ t → t ≡ true
    more_of true e = refl
    more_of false e = absurd (none_small call.function e h)

ends_first : (n : ℕ) (j : Link) (rest : List Kind) → binds_link j ≤ n → Ends n (link_kind j ∷ rest)
ends_first n Comma rest h = tt
ends_first n (Sign a at) rest h = h

joined_read : (limit : ℕ) (j : Link) (l r : WrittenOperand) → ReadsOperand limit l → ReadsOperand limit r → binds_link j ≤ tightness l → binds_link j < tightness r
    → (side : Side) (ws : List Waiting) (cs : List Call) (f : Frame) (k : List Frame) (rest : List Kind)
    → length cs + open_at f k + max (calls l) (calls r) ≤ limit → IsUnder ws (binds_link j) → least_of cs ≤ binds_link j → Passes j cs → Ends (binds_link j) rest
    → over limit (InOperand OperandWanted side ws cs f k) ((operand l ++ link_kind j ∷ operand r) ++ rest) ≡ over limit (InOperand (OperandRead (linked j l r)) side ws cs f k) rest
joined_read limit j l r left right loose tight side ws cs f k rest room under least passes ends =
    ap (over limit (InOperand OperandWanted side ws cs f k)) (append_assoc (operand l) (link_kind j ∷ operand r) rest)
    ∙ left.as_operand side ws cs f k (link_kind j ∷ (operand r ++ rest)) (omega arith) (under_more ws (binds_link j) (tightness l) loose under) (omega arith)
    (ends_first (tightness l) j (operand r ++ rest) loose)
    ∙ link_read limit j side ws cs f k l (operand r ++ rest) passes under
    ∙ right.as_operand side (WaitingFor l j ∷ ws) cs f k rest (omega arith) tight (omega arith) (ends_more (binds_link j) (tightness r) rest (omega arith) ends)
    ∙ link_over limit j side ws cs l r f k rest ends

pub reads_operand : (limit : ℕ) (o : WrittenOperand) → IsOperand o → ReadsOperand limit o
reads_operand limit (TextOf q) is = of_part limit (TextOf q) (λ side ws cs f k rest room. refl)
reads_operand limit (NamedOf w) is = of_part limit (NamedOf w) (λ side ws cs f k rest room. refl)
reads_operand limit (OnLayerOf w l) is = of_part limit (OnLayerOf w l) (λ side ws cs f k rest room. refl)
reads_operand limit (OnLayersOf w []) is = absurd is
reads_operand limit (OnLayersOf w (r ∷ rs)) is = of_part limit (OnLayersOf w (r ∷ rs))
    (λ side ws cs f k rest room. layers_read limit side ws cs f k w rs [] r.at r.first r.last rest)
reads_operand limit (SlicedOf o at []) is = absurd is.2
reads_operand limit (SlicedOf o at (r ∷ rs)) is =
    let inside = reads_operand limit o is.0 in
    of_part limit (SlicedOf o at (r ∷ rs)) (λ side ws cs f k rest room.
    let ks = (range r.part ++ more_ranges rs) ++ rest in
    ap (over limit (InOperand OperandWanted side ws cs f k)) (append_assoc (operand o) (kinds.OpenRanges at r.at ∷ (range r.part ++ more_ranges rs)) rest)
    ∙ inside.as_part (slice_part o is.1) side ws cs f k (kinds.OpenRanges at r.at ∷ ks) room
    ∙ slice_opened limit side ws cs f k o at r.at ks is.1
    ∙ ranges_read limit side ws cs f k o at rs [] r.at r.part rest)
reads_operand limit (MaskedOf o at w) is =
    let inside = reads_operand limit o is.0 in
    of_part limit (MaskedOf o at w) (λ side ws cs f k rest room.
    ap (over limit (InOperand OperandWanted side ws cs f k)) (append_assoc (operand o) (kinds.Mask at ∷ kinds.Name w ∷ []) rest)
    ∙ inside.as_part (mask_part o is.1) side ws cs f k (kinds.Mask at ∷ kinds.Name w ∷ rest) room
    ∙ mask_opened limit side ws cs f k o at w rest is.1)
reads_operand limit (CalledOf fn at o) is =
    let inside = reads_operand limit o is.0 in
    of_part limit (CalledOf fn at o) (λ side ws cs f k rest room.
    let call : Call = record { function = fn; at = at; waiting = ws } in
    ap (λ ks. over limit (InOperand OperandWanted side ws cs f k) (kinds.Calls fn at ∷ ks)) (append_assoc (operand o) (kinds.Close ∷ []) rest)
    ∙ call_opened limit side ws cs f k fn at (operand o ++ kinds.Close ∷ rest) (omega arith)
    ∙ inside.as_operand side [] (call ∷ cs) f k (kinds.Close ∷ rest) (omega arith) tt is.1 tt)
reads_operand limit (ComputedOf a at l r) is =
    let left = reads_operand limit l is.0 in
    let right = reads_operand limit r is.1 in
    record {
      as_part = λ tight side ws cs f k rest room. let below = link_below (Sign a at) in absurd (omega arith);
      as_operand = λ side ws cs f k rest room under least ends.
          joined_read limit (Sign a at) l r left right is.2 is.3 side ws cs f k rest room under least tt ends;
    }
reads_operand limit (ArgumentsOf l r) is =
    let left = reads_operand limit l is.0 in
    let right = reads_operand limit r is.1 in
    record {
      as_part = λ tight side ws cs f k rest room. absurd (omega arith);
      as_operand = λ side ws cs f k rest room under least ends.
          joined_read limit Comma l r left right is.2 is.3 side ws cs f k rest room under least (comma_passes cs least) ends;
    }

-- an operand of a test
pub operand_read : (limit : ℕ) (o : WrittenOperand) → IsTestOperand o → (side : Side) (f : Frame) (k : List Frame) (rest : List Kind)
    → open_at f k + calls o ≤ limit → Ends sum rest
    → over limit (InOperand OperandWanted side [] [] f k) (operand o ++ rest) ≡ over limit (InOperand (OperandRead o) side [] [] f k) rest
operand_read limit o is side f k rest room ends =
    (reads_operand limit o is.0).as_operand side [] [] f k rest (omega arith) tt is.1 (ends_more sum (tightness o) rest is.1 ends)

-- what may follow a filter: the end, `)`, or a sign that binds no more tightly
abbrev pub Follows : ℕ → List Kind → Type 0
Follows n [] = Unit {0}
Follows n (kinds.Close ∷ rest) = Unit {0}
Follows n (kinds.Joins j ∷ rest) = binds j ≤ n
Follows n (kind ∷ rest) = ⊥

follows_ends : (n m : ℕ) (rest : List Kind) → Follows n rest → Ends m rest
follows_ends n m [] h = tt
follows_ends n m (kinds.Close ∷ rest) h = tt
follows_ends n m (kinds.Joins j ∷ rest) h = tt
follows_ends n m (kind ∷ rest) h = absurd h

tail_ends : (n : ℕ) (t : WrittenTail) (c : Option Choice) (rest : List Kind) → IsTail c t → Ends n (tail t ++ rest)
tail_ends n (CompareOf operator at r) c rest is = tt
tail_ends n (InOf true es) c rest is = tt
tail_ends n (InOf false es) c rest is = tt
tail_ends n (MatchesOf at q) c rest is = tt

alone_over : (limit : ℕ) (o : WrittenOperand) (f : Frame) (k : List Frame) (n : ℕ) (rest : List Kind) → Follows n rest
    → over limit (InOperand (OperandRead o) (OnLeft None) [] [] f k) rest ≡ over limit (have f k (AloneOf o)) rest
alone_over limit o f k n [] h = refl
alone_over limit o f k n (kinds.Close ∷ rest) h = refl
alone_over limit o f k n (kinds.Joins j ∷ rest) h = refl
alone_over limit o f k n (kind ∷ rest) h = absurd h

right_over : (limit : ℕ) (c : Option Choice) (l : WrittenOperand) (operator : Operator) (at : ℕ) (o : WrittenOperand) (f : Frame) (k : List Frame) (n : ℕ) (rest : List Kind) → Follows n rest
    → over limit (InOperand (OperandRead o) (OnRight c l operator at) [] [] f k) rest ≡ over limit (have f k (TestOf c l (CompareOf operator at o))) rest
right_over limit c l operator at o f k n [] h = refl
right_over limit c l operator at o f k n (kinds.Close ∷ rest) h = refl
right_over limit c l operator at o f k n (kinds.Joins j ∷ rest) h = refl
right_over limit c l operator at o f k n (kind ∷ rest) h = absurd h

-- sets
abbrev in_set : Option Choice → WrittenOperand → Frame → List Frame → Bool → List Element → State
in_set c o f k n done = InTail (InSet n done ElementWanted) c o f k

element_closed : (limit : ℕ) (c : Option Choice) (o : WrittenOperand) (f : Frame) (k : List Frame) (n : Bool) (done : List Element) (e : Element) (rest : List Kind)
    → over limit (in_set c o f k n done) (element e ++ kinds.CloseBrace ∷ rest) ≡ over limit (have f k (TestOf c o (InOf n (done ++ e ∷ [])))) rest
element_closed limit c o f k n done (elements.One (literals.Bare w)) rest = refl
element_closed limit c o f k n done (elements.One (literals.Text q)) rest = refl
element_closed limit c o f k n done (elements.Between (literals.Bare w) (literals.Bare v)) rest = refl
element_closed limit c o f k n done (elements.Between (literals.Bare w) (literals.Text q)) rest = refl
element_closed limit c o f k n done (elements.Between (literals.Text q) (literals.Bare w)) rest = refl
element_closed limit c o f k n done (elements.Between (literals.Text q) (literals.Text p)) rest = refl

element_passed : (limit : ℕ) (c : Option Choice) (o : WrittenOperand) (f : Frame) (k : List Frame) (n : Bool) (done : List Element) (e : Element) (rest : List Kind)
    → over limit (in_set c o f k n done) (element e ++ kinds.Comma ∷ rest) ≡ over limit (in_set c o f k n (done ++ e ∷ [])) rest
element_passed limit c o f k n done (elements.One (literals.Bare w)) rest = refl
element_passed limit c o f k n done (elements.One (literals.Text q)) rest = refl
element_passed limit c o f k n done (elements.Between (literals.Bare w) (literals.Bare v)) rest = refl
element_passed limit c o f k n done (elements.Between (literals.Bare w) (literals.Text q)) rest = refl
element_passed limit c o f k n done (elements.Between (literals.Text q) (literals.Bare w)) rest = refl
element_passed limit c o f k n done (elements.Between (literals.Text q) (literals.Text p)) rest = refl

set_read : (limit : ℕ) (c : Option Choice) (o : WrittenOperand) (f : Frame) (k : List Frame) (n : Bool) (es : List Element) (done : List Element) (e : Element) (rest : List Kind)
    → over limit (in_set c o f k n done) ((element e ++ more_elements es) ++ rest) ≡ over limit (have f k (TestOf c o (InOf n (done ++ e ∷ es)))) rest
set_read limit c o f k n [] done e rest =
    ap (over limit (in_set c o f k n done)) (append_assoc (element e) (kinds.CloseBrace ∷ []) rest) ∙ element_closed limit c o f k n done e rest
set_read limit c o f k n (d ∷ es) done e rest =
    ap (over limit (in_set c o f k n done)) (append_assoc (element e) (more_elements (d ∷ es)) rest)
    ∙ element_passed limit c o f k n done e ((element d ++ more_elements es) ++ rest)
    ∙ set_read limit c o f k n es (done ++ e ∷ []) d rest
    ∙ ap (λ ls. over limit (have f k (TestOf c o (InOf n ls))) rest) (append_assoc done (e ∷ []) (d ∷ es))

compare_opened : (limit : ℕ) (c : Option Choice) (o : WrittenOperand) (operator : Operator) (at : ℕ) (f : Frame) (k : List Frame) (ks : List Kind) → takes_operator c operator ≡ true
    → over limit (InOperand (OperandRead o) (OnLeft c) [] [] f k) (kinds.Compares operator at ∷ ks) ≡ over limit (InOperand OperandWanted (OnRight c o operator at) [] [] f k) ks
compare_opened limit c o operator at f k ks h = rw h refl

tail_read : (limit : ℕ) (c : Option Choice) (o : WrittenOperand) (t : WrittenTail) → IsTail c t → (f : Frame) (k : List Frame) (n : ℕ) (rest : List Kind)
    → open_at f k + calls_behind t ≤ limit → Follows n rest
    → over limit (InOperand (OperandRead o) (OnLeft c) [] [] f k) (tail t ++ rest) ≡ over limit (have f k (TestOf c o t)) rest
tail_read limit c o (CompareOf operator at r) is f k n rest room h =
    compare_opened limit c o operator at f k (operand r ++ rest) is.1
    ∙ operand_read limit r is.0 (OnRight c o operator at) f k rest (omega arith) (follows_ends n sum rest h)
    ∙ right_over limit c o operator at r f k n rest h
tail_read limit c o (InOf true []) is f k n rest room h = absurd is
tail_read limit c o (InOf false []) is f k n rest room h = absurd is
tail_read limit c o (InOf true (e ∷ es)) is f k n rest room h = set_read limit c o f k true es [] e rest
tail_read limit c o (InOf false (e ∷ es)) is f k n rest room h = set_read limit c o f k false es [] e rest
tail_read limit c o (MatchesOf at q) is f k n rest room h = refl

-- filters
begun : (limit : ℕ) (o : WrittenOperand) (f : Frame) (k : List Frame) (rest : List Kind)
    → over limit (Want f k) (operand o ++ rest) ≡ over limit (InOperand OperandWanted (OnLeft None) [] [] f k) (operand o ++ rest)
begun limit (TextOf q) f k rest = refl
begun limit (NamedOf w) f k rest = refl
begun limit (OnLayerOf w l) f k rest = refl
begun limit (OnLayersOf w ls) f k rest = refl
begun limit (SlicedOf o at rs) f k rest =
    rw (append_assoc (operand o) (ranges at rs) rest) (begun limit o f k (ranges at rs ++ rest))
begun limit (MaskedOf o at w) f k rest =
    rw (append_assoc (operand o) (kinds.Mask at ∷ kinds.Name w ∷ []) rest) (begun limit o f k (kinds.Mask at ∷ kinds.Name w ∷ rest))
begun limit (CalledOf fn at o) f k rest = refl
begun limit (ComputedOf a at l r) f k rest =
    rw (append_assoc (operand l) (kinds.Computes a at ∷ operand r) rest) (begun limit l f k (kinds.Computes a at ∷ (operand r ++ rest)))
begun limit (ArgumentsOf l r) f k rest =
    rw (append_assoc (operand l) (kinds.Comma ∷ operand r) rest) (begun limit l f k (kinds.Comma ∷ (operand r ++ rest)))

not_opened : (limit : ℕ) (f : Frame) (k : List Frame) (n : Negation) (ks : List Kind) → open_at f k < limit
    → over limit (Want f k) (kinds.Negates n ∷ ks) ≡ over limit (Want (record { lefts = f.lefts; nots = n ∷ f.nots }) k) ks
not_opened limit f k n ks h = let e : ltb (open_at f k) limit ≡ true = lt-ltb _ _ h in rw e refl

group_opened : (limit : ℕ) (f : Frame) (k : List Frame) (ks : List Kind) → open_at f k < limit
    → over limit (Want f k) (kinds.Open ∷ ks) ≡ over limit (Want no_frame (f ∷ k)) ks
group_opened limit f k ks h = let e : ltb (open_at f k) limit ≡ true = lt-ltb _ _ h in rw e refl

-- the filters that wait bind less tightly than the one that is read
abbrev pub IsBelow : List Left → ℕ → Type 0
IsBelow [] n = Unit {0}
IsBelow (LeftOf l i ∷ lefts) n = binds i < n

below_more : (lefts : List Left) (m n : ℕ) → m ≤ n → IsBelow lefts m → IsBelow lefts n
below_more [] m n h below = tt
below_more (LeftOf l i ∷ lefts) m n h below = omega arith

settled : (j : Join) (lefts : List Left) (t : Written) → IsBelow lefts (binds j) → settle j lefts t ≡ LeftOf t j ∷ lefts
settled j [] t below = refl
settled j (LeftOf l i ∷ lefts) t below =
    let e : leb (binds j) (binds i) ≡ false = not_le _ _ below in rw e refl

sign_read : (limit : ℕ) (j : Join) (lefts : List Left) (t : Written) (k : List Frame) (ks : List Kind) → IsBelow lefts (binds j)
    → over limit (Have lefts t k) (kinds.Joins j ∷ ks) ≡ over limit (Want (record { lefts = LeftOf t j ∷ lefts; nots = [] }) k) ks
sign_read limit j lefts t k ks below = ap (λ ls. over limit (Want (record { lefts = ls; nots = [] }) k) ks) (settled j lefts t below)

-- what waits is joined before what binds no more tightly
joins_settled : (i j : Join) (l t : Written) (lefts : List Left) → binds i ≤ binds j → settle i (LeftOf l j ∷ lefts) t ≡ settle i lefts (JoinedOf j l t)
joins_settled i j l t lefts h = let e : leb (binds i) (binds j) ≡ true = le-leb _ _ h in rw e refl

join_over : (limit : ℕ) (j : Join) (lefts : List Left) (l r : Written) (k : List Frame) (rest : List Kind) → Follows (binds j) rest
    → over limit (Have (LeftOf l j ∷ lefts) r k) rest ≡ over limit (Have lefts (JoinedOf j l r) k) rest
join_over limit j lefts l r k [] h = refl
join_over limit j lefts l r k (kinds.Close ∷ rest) h = refl
join_over limit j lefts l r k (kinds.Joins i ∷ rest) h =
    ap (λ ls. over limit (Want (record { lefts = ls; nots = [] }) k) rest) (joins_settled i j l r lefts h)
join_over limit j lefts l r k (kind ∷ rest) h = absurd h

follows_more : (m n : ℕ) (rest : List Kind) → m ≤ n → Follows m rest → Follows n rest
follows_more m n [] le h = tt
follows_more m n (kinds.Close ∷ rest) le h = tt
follows_more m n (kinds.Joins j ∷ rest) le h = omega arith
follows_more m n (kind ∷ rest) le h = absurd h

pub record Reads (limit : ℕ) (t : Written) : Type 0 where
  pub as_unary : (f : Frame) (k : List Frame) (rest : List Kind) → unary ≤ strength t → open_at f k + depth t ≤ limit → Follows unary rest
      → over limit (Want f k) (spelled t ++ rest) ≡ over limit (have f k t) rest
  pub as_joined : (lefts : List Left) (k : List Frame) (rest : List Kind) → IsBelow lefts (strength t) → open_around k + depth t ≤ limit → Follows (strength t) rest
      → over limit (Want (record { lefts = lefts; nots = [] }) k) (spelled t ++ rest) ≡ over limit (Have lefts t k) rest

-- of a filter that is no join the second follows from the first
abbrev AsUnary : ℕ → Written → Type 0
AsUnary limit t = (f : Frame) (k : List Frame) (rest : List Kind) → open_at f k + depth t ≤ limit → Follows unary rest
    → over limit (Want f k) (spelled t ++ rest) ≡ over limit (have f k t) rest

of_unary : (limit : ℕ) (t : Written) → strength t ≡ unary → AsUnary limit t → Reads limit t
of_unary limit t e reads = record {
  as_unary = λ f k rest s room h. reads f k rest room h;
  as_joined = λ lefts k rest below room h.
      let f : Frame = record { lefts = lefts; nots = [] } in
      let room' : open_at f k + depth t ≤ limit = omega arith in
      reads f k rest room' (subst (λ n. Follows n rest) e h);
}

loose : (j : Join) → unary ≤ binds j → ⊥
loose joins.Or h = omega arith
loose joins.Xor h = omega arith
loose joins.And h = omega arith

pub reads : (limit : ℕ) (t : Written) → IsGrouped t → Reads limit t
reads limit (JoinedOf j l r) is =
    let left = reads limit l is.0 in
    let right = reads limit r is.1 in
    record {
      as_unary = λ f k rest s room h. absurd (loose j s);
      as_joined = λ lefts k rest below room h.
          ap (over limit (Want (record { lefts = lefts; nots = [] }) k)) (append_assoc (spelled l) (kinds.Joins j ∷ spelled r) rest)
          ∙ left.as_joined lefts k (kinds.Joins j ∷ (spelled r ++ rest)) (below_more lefts (binds j) (strength l) is.2 below) (omega arith) is.2
          ∙ sign_read limit j lefts l k (spelled r ++ rest) below
          ∙ right.as_joined (LeftOf l j ∷ lefts) k rest is.3 (omega arith)
          (follows_more (binds j) (strength r) rest (let less = is.3 in omega arith) h)
          ∙ join_over limit j lefts l r k rest h;
    }
reads limit (NotOf n t) is = of_unary limit (NotOf n t) refl
    (λ f k rest room h.
    let g : Frame = record { lefts = f.lefts; nots = n ∷ f.nots } in
    let inside = reads limit t is.0 in
    not_opened limit f k n (spelled t ++ rest) (omega arith) ∙ inside.as_unary g k rest is.1 (omega arith) h)
reads limit (GroupOf t) is = of_unary limit (GroupOf t) refl
    (λ f k rest room h.
    let inside = reads limit t is in
    ap (λ ks. over limit (Want f k) (kinds.Open ∷ ks)) (append_assoc (spelled t) (kinds.Close ∷ []) rest)
    ∙ group_opened limit f k (spelled t ++ kinds.Close ∷ rest) (omega arith)
    ∙ inside.as_joined [] (f ∷ k) (kinds.Close ∷ rest) tt (omega arith) tt)
reads limit (AloneOf o) is = of_unary limit (AloneOf o) refl
    (λ f k rest room h.
    begun limit o f k rest
    ∙ operand_read limit o is (OnLeft None) f k rest (omega arith) (follows_ends unary sum rest h)
    ∙ alone_over limit o f k unary rest h)
reads limit (TestOf None o t) is = of_unary limit (TestOf None o t) refl
    (λ f k rest room h.
    ap (over limit (Want f k)) (append_assoc (operand o) (tail t) rest)
    ∙ begun limit o f k (tail t ++ rest)
    ∙ operand_read limit o is.0 (OnLeft None) f k (tail t ++ rest) (omega arith) (tail_ends sum t None rest is.1)
    ∙ tail_read limit None o t is.1 f k unary rest (omega arith) h)
reads limit (TestOf (Some c) o t) is = of_unary limit (TestOf (Some c) o t) refl
    (λ f k rest room h.
    ap (λ ks. over limit (Want f k) (kinds.Chooses c ∷ ks)) (append_assoc (operand o) (tail t) rest)
    ∙ operand_read limit o is.0 (OnLeft (Some c)) f k (tail t ++ rest) (omega arith) (tail_ends sum t (Some c) rest is.1)
    ∙ tail_read limit (Some c) o t is.1 f k unary rest (omega arith) h)

-- a filter's tokens are read as the filter
pub complete : (limit : ℕ) (ks : List Kind) (t : Written) → IsFilter limit ks t → over limit start ks ≡ Whole t
complete limit ks t is =
    let room : open_around [] + depth t ≤ limit = let shallow = is.shallow in omega arith in
    ap (over limit start) (sym is.spells ∙ sym (append-nil (spelled t)))
    ∙ (reads limit t is.grouped).as_joined [] [] [] tt room tt

pub deeper : (limit more : ℕ) (ks : List Kind) (t : Written) → limit ≤ more → IsFilter limit ks t → IsFilter more ks t
deeper limit more ks t h is = record { spells = is.spells; grouped = is.grouped; shallow = let shallow = is.shallow in omega arith }

pub one_tree : (a b : ℕ) (ks : List Kind) (t u : Written) → IsFilter a ks t → IsFilter b ks u → t ≡ u
one_tree a b ks t u p q =
    let first = complete (max a b) ks t (deeper a (max a b) ks t (omega arith) p) in
    let second = complete (max a b) ks u (deeper b (max a b) ks u (omega arith) q) in
    cc
