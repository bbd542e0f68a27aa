-- A token that is read keeps what holds of every state, and the state is printed with it.
use Rattle.std.proofs.Common.{◌≡◌, ℕ, ◌+◌, ◌<◌, ◌≤◌, Bool, true, List, [], ◌∷◌, ◌++◌, length, Option, Some, None, ltb, leb, append_assoc, arith, sym, ap, ◌∙◌, refl, subst}
use Rattle.std.proofs.lemmas.Bool.{ltb-true, leb-true}
use Rattle.std.proofs.lemmas.List.{append-nil}
use Rattle.flt_syntax.specs.Grammar.{IsFilter, IsGrouped, IsOperand, IsTail, IsTestOperand, binds, calls, calls_behind, choice, depth, element, layer_range, literal, not_before, operand, range, spelled, strength, tail, takes_mask, takes_more, takes_operator, takes_slice, tightness, unary}
use Rattle.flt_parse.specs.Parser.Reading.{Left, LeftOf, Frame, Waiting, Link, Comma, Sign, Call, Side, OnLeft, OnRight, LayerSpot, LayerWanted, FirstRead, LastWanted, LastRead, RangeSpot, RangeWanted, DigitsWanted, PlaceRead, ColonRead, EndWanted, EndDigitsWanted, CountWanted, PartRead, Spot, OperandWanted, OperandRead, LayersWanted, InLayers, InRanges, MaskWanted, ElementSpot, ElementWanted, LiteralRead, SecondWanted, SecondRead, TailSpot, InWanted, SetWanted, InSet, PatternWanted, State, Want, Have, InOperand, InTail, Move, Go, Stop, all_linked, begin, binds_link, behind, behind_hash, call_begin, call_end, closing, have, joined, layers_end, layers_step, left_alone, left_end, literal_step, negated, no_frame, not_before_in, open_around, open_at, operand_end, operand_move, operand_step, otherwise, ranges_end, ranges_step, set_done, set_step, settle, side_end, step, tail_done, tail_move, tail_step, wait, whole, whole_have, whole_operand, whole_test}
use Rattle.flt_syntax.specs.Written.{Written, WrittenOperand, WrittenTail, NamedOf, CompareOf, JoinedOf, NotOf, GroupOf, AloneOf, TestOf}
use Rattle.flt_syntax.specs.declared.ast.Choice.{Choice}
use Rattle.flt_syntax.specs.declared.ast.Element.{Element}
use Rattle.flt_syntax.specs.declared.ast.Element.TheVariants as elements
use Rattle.flt_syntax.specs.declared.ast.LayerRange.{LayerRange}
use Rattle.flt_syntax.specs.declared.ast.Literal.{Literal}
use Rattle.flt_syntax.specs.declared.ast.Literal.TheVariants as literals
use Rattle.flt_syntax.specs.declared.ast.Negation.{Negation}
use Rattle.flt_syntax.specs.declared.ast.Negation.TheVariants as negations
use Rattle.flt_syntax.specs.declared.ast.RangePart.TheVariants as parts
use Rattle.flt_syntax.specs.declared.ast.SliceRange.{SliceRange}
use Rattle.flt_syntax.specs.declared.fault.FilterReason.TheVariants.{Unexpected, TooDeep}
use Rattle.flt_syntax.specs.declared.token.Join.{Join}
use Rattle.flt_syntax.specs.declared.token.Join.TheVariants as joins
use Rattle.flt_syntax.specs.declared.token.Kind.{Kind}
use Rattle.flt_syntax.specs.declared.token.Kind.TheVariants as kinds
use Rattle.flt_syntax.specs.declared.word.Word.{Word}
use Rattle.flt_parse.proofs.Linked.{IsLinked, all_linked_good, chosen_by, false_less, least_more, least_sign, least_sum, link_below, under_part, wait_good}
use Rattle.flt_parse.proofs.Printed.{IsAround, IsBelow, IsFrame, IsGood, IsLefts, IsSpot, filled, least_of, link_kind, layers_before, layers_closed, layers_more, print_around, print_calls, print_frame, print_layer, print_lefts, print_nots, print_range, print_side, print_spot, print_tail, print_waiting, printed, ranges_before, ranges_closed, ranges_more, set_before, set_closed, set_more, spot_calls}

-- operands
abbrev SpotSteady : ℕ → List Kind → Option Spot → Type 0
SpotSteady n front None = Unit {0}
SpotSteady n front (Some s) = IsSpot s × (print_spot s ≡ front) × (spot_calls s ≤ n)

layers_end_steady : (w : Word) (done : List LayerRange) (r : LayerRange) (k : Kind)
    → SpotSteady 0 (kinds.Name w ∷ kinds.Hash ∷ (layers_before done r.at ++ (layer_range r ++ k ∷ []))) (layers_end w (done ++ r ∷ []) k)
layers_end_steady w done r (kinds.NextRange next) =
    (tt, ap (λ ks. kinds.Name w ∷ kinds.Hash ∷ ks) (append-nil (layers_before (done ++ r ∷ []) next) ∙ layers_more done r next), omega arith)
layers_end_steady w done r kinds.CloseBracket = ((filled done r, omega arith), ap (λ ks. kinds.Name w ∷ kinds.Hash ∷ ks) (layers_closed done r), omega arith)
layers_end_steady w done r k = tt

layers_step_steady : (w : Word) (done : List LayerRange) (at : ℕ) (spot : LayerSpot) (k : Kind)
    → SpotSteady 0 (kinds.Name w ∷ kinds.Hash ∷ (layers_before done at ++ (print_layer spot ++ k ∷ []))) (layers_step w done at spot k)
layers_step_steady w done at LayerWanted (kinds.Number n) = (tt, refl, omega arith)
layers_step_steady w done at (FirstRead n) kinds.Minus = (tt, refl, omega arith)
layers_step_steady w done at (FirstRead n) k = layers_end_steady w done (record { at = at; first = n; last = None }) k
layers_step_steady w done at (LastWanted n) (kinds.Number m) = (tt, refl, omega arith)
layers_step_steady w done at (LastRead n m) k = layers_end_steady w done (record { at = at; first = n; last = Some m }) k
layers_step_steady w done at spot k = tt

ranges_end_steady : (o : WrittenOperand) (bracket : ℕ) (done : List SliceRange) (r : SliceRange) (k : Kind) → IsOperand o → takes_slice o ≡ true
    → SpotSteady (calls o) (operand o ++ (ranges_before bracket done r.at ++ (range r.part ++ k ∷ []))) (ranges_end o bracket (done ++ r ∷ []) k)
ranges_end_steady o bracket done r (kinds.NextRange next) is takes =
    ((is, takes), ap (λ ks. operand o ++ ks) (append-nil (ranges_before bracket (done ++ r ∷ []) next) ∙ ranges_more bracket done r next), omega arith)
ranges_end_steady o bracket done r kinds.CloseBracket is takes = (((is, takes, filled done r), omega arith), ap (λ ks. operand o ++ ks) (ranges_closed bracket done r), omega arith)
ranges_end_steady o bracket done r k is takes = tt

ranges_step_steady : (o : WrittenOperand) (bracket : ℕ) (done : List SliceRange) (at : ℕ) (spot : RangeSpot) (k : Kind) → IsOperand o → takes_slice o ≡ true
    → SpotSteady (calls o) (operand o ++ (ranges_before bracket done at ++ (print_range spot ++ k ∷ []))) (ranges_step o bracket done at spot k)
ranges_step_steady o bracket done at RangeWanted (kinds.Number n) is takes = ((is, takes), refl, omega arith)
ranges_step_steady o bracket done at RangeWanted kinds.Minus is takes = ((is, takes), refl, omega arith)
ranges_step_steady o bracket done at RangeWanted kinds.Colon is takes = ((is, takes), refl, omega arith)
ranges_step_steady o bracket done at DigitsWanted (kinds.Number n) is takes = ((is, takes), refl, omega arith)
ranges_step_steady o bracket done at (PlaceRead p) kinds.Colon is takes = ((is, takes), refl, omega arith)
ranges_step_steady o bracket done at (PlaceRead p) kinds.Minus is takes = ((is, takes), refl, omega arith)
ranges_step_steady o bracket done at (PlaceRead p) k is takes = ranges_end_steady o bracket done (record { at = at; part = parts.One p }) k is takes
ranges_step_steady o bracket done at (ColonRead p) (kinds.Number n) is takes = ((is, takes), simp append_assoc, omega arith)
ranges_step_steady o bracket done at (ColonRead p) k is takes = ranges_end_steady o bracket done (record { at = at; part = parts.ToEnd p }) k is takes
ranges_step_steady o bracket done at (EndWanted p) (kinds.Number n) is takes = ((is, takes), simp append_assoc, omega arith)
ranges_step_steady o bracket done at (EndWanted p) kinds.Minus is takes = ((is, takes), simp append_assoc, omega arith)
ranges_step_steady o bracket done at (EndDigitsWanted p) (kinds.Number n) is takes = ((is, takes), simp append_assoc, omega arith)
ranges_step_steady o bracket done at CountWanted (kinds.Number n) is takes = ((is, takes), refl, omega arith)
ranges_step_steady o bracket done at (PartRead part) k is takes = ranges_end_steady o bracket done (record { at = at; part = part }) k is takes
ranges_step_steady o bracket done at spot k is takes = tt

hash_steady : (o : WrittenOperand) → SpotSteady (calls o) (operand o ++ kinds.Hash ∷ []) (behind_hash o)
hash_steady (NamedOf w) = (tt, refl, omega arith)
hash_steady o = tt

operand_step_steady : (spot : Spot) (k : Kind) → IsSpot spot → SpotSteady (spot_calls spot) (print_spot spot ++ k ∷ []) (operand_step spot k)
operand_step_steady OperandWanted (kinds.Text q) is = ((tt, omega arith), refl, omega arith)
operand_step_steady OperandWanted (kinds.Name w) is = ((tt, omega arith), refl, omega arith)
operand_step_steady (OperandRead o) kinds.Hash is = hash_steady o
operand_step_steady (OperandRead o) (kinds.OpenRanges at next) is =
    chosen_by (SpotSteady (calls o) (operand o ++ kinds.OpenRanges at next ∷ [])) (takes_slice o) (Some (InRanges o at [] next RangeWanted)) None
    (λ takes. ((is.0, takes), refl, omega arith)) (λ takes. tt)
operand_step_steady (OperandRead o) (kinds.Mask at) is =
    chosen_by (SpotSteady (calls o) (operand o ++ kinds.Mask at ∷ [])) (takes_mask o) (Some (MaskWanted o at)) None
    (λ takes. ((is.0, takes), refl, omega arith)) (λ takes. tt)
operand_step_steady (LayersWanted w) (kinds.LayerNumber l) is = ((tt, omega arith), refl, omega arith)
operand_step_steady (LayersWanted w) (kinds.OpenLayers next) is = (tt, refl, omega arith)
operand_step_steady (InLayers w done at spot) k is =
    subst (λ ks. SpotSteady 0 ks (layers_step w done at spot k)) (ap (λ ks. kinds.Name w ∷ kinds.Hash ∷ ks) (sym (append_assoc (layers_before done at) (print_layer spot) (k ∷ []))))
    (layers_step_steady w done at spot k)
operand_step_steady (InRanges o bracket done at spot) k is =
    subst (λ ks. SpotSteady (calls o) ks (ranges_step o bracket done at spot k))
    (sym (append_assoc (operand o) (ranges_before bracket done at ++ print_range spot) (k ∷ []) ∙ ap (λ ks. operand o ++ ks) (append_assoc (ranges_before bracket done at) (print_range spot) (k ∷ []))))
    (ranges_step_steady o bracket done at spot k is.0 is.1)
operand_step_steady (MaskWanted o at) (kinds.Name w) is = (((is.0, is.1), omega arith), sym (append_assoc (operand o) (kinds.Mask at ∷ []) (kinds.Name w ∷ [])), omega arith)
operand_step_steady spot k is = tt

-- filters
pub record IsUnary (limit : ℕ) (count : ℕ) (t : Written) : Type 0 where
  pub grouped : IsGrouped t
  pub tight : unary ≤ strength t
  pub room : count + depth t ≤ limit

negated_unary : (limit count : ℕ) (ns : List Negation) (t : Written) → IsUnary limit (length ns + count) t
    → IsUnary limit count (negated ns t) × (spelled (negated ns t) ≡ print_nots ns ++ spelled t)
negated_unary limit count [] t is = (record { grouped = is.grouped; tight = is.tight; room = let room = is.room in omega arith }, refl)
negated_unary limit count (n ∷ ns) t is =
    let more = negated_unary limit count ns (NotOf n t) (record { grouped = (is.grouped, is.tight); tight = omega arith; room = let room = is.room in omega arith }) in
    (more.0, more.1 ∙ sym (append_assoc (print_nots ns) (kinds.Negates n ∷ []) (spelled t)))

-- a filter in a frame
have_good : (limit : ℕ) (f : Frame) (k : List Frame) (t : Written) → IsLefts limit (open_around k) f.lefts → IsAround limit k → IsUnary limit (open_at f k) t
    → IsGood limit (have f k t) × (printed (have f k t) ≡ print_around k ++ (print_frame f ++ spelled t))
have_good limit f k t lefts around is =
    let both = negated_unary limit (open_around k) f.nots t is in (
      (lefts, around, both.0.grouped, both.0.tight, both.0.room),
      ap (λ ks. print_around k ++ (print_lefts f.lefts ++ ks)) both.1
          ∙ ap (λ ks. print_around k ++ ks) (sym (append_assoc (print_lefts f.lefts) (print_nots f.nots) (spelled t))),
    )

binds_less : (j : Join) → binds j < unary
binds_less joins.Or = omega arith
binds_less joins.Xor = omega arith
binds_less joins.And = omega arith

below_unary : (lefts : List Left) (n : ℕ) → unary ≤ n → IsBelow lefts n
below_unary [] n h = tt
below_unary (LeftOf l i ∷ lefts) n h = let less = binds_less i in omega arith

-- all that waits, joined
pub record IsJoined (limit count : ℕ) (front : List Kind) (t : Written) : Type 0 where
  pub grouped : IsGrouped t
  pub room : count + depth t ≤ limit
  pub spells : spelled t ≡ front

joined_good : (limit count : ℕ) (lefts : List Left) (t : Written) → IsLefts limit count lefts → IsGrouped t → IsBelow lefts (strength t) → count + depth t ≤ limit
    → IsJoined limit count (print_lefts lefts ++ spelled t) (joined lefts t)
joined_good limit count [] t is grouped below room = record { grouped = grouped; room = room; spells = refl }
joined_good limit count (LeftOf l i ∷ lefts) t is grouped below room =
    let left = is.2 in
    let more = joined_good limit count lefts (JoinedOf i l t) is.4 (is.0, grouped, is.1, below) is.3 (omega arith) in
    record {
      grouped = more.grouped;
      room = more.room;
      spells = more.spells ∙ sym (append_assoc (print_lefts lefts) (spelled l ++ kinds.Joins i ∷ []) (spelled t)
          ∙ ap (λ ks. print_lefts lefts ++ ks) (append_assoc (spelled l) (kinds.Joins i ∷ []) (spelled t)));
    }

pub record IsSettled (limit count : ℕ) (front : List Kind) (all : List Left) : Type 0 where
  pub lefts : IsLefts limit count all
  pub spells : print_lefts all ≡ front

settle_good : (limit count : ℕ) (j : Join) (lefts : List Left) (t : Written) → IsLefts limit count lefts → IsGrouped t → IsBelow lefts (strength t) → binds j ≤ strength t → count + depth t ≤ limit
    → IsSettled limit count (print_lefts lefts ++ (spelled t ++ kinds.Joins j ∷ [])) (settle j lefts t)
settle_good limit count j [] t is grouped below tight room = record { lefts = (grouped, tight, room, tt, tt); spells = refl }
settle_good limit count j (LeftOf l i ∷ lefts) t is grouped below tight room =
    chosen_by (IsSettled limit count (print_lefts (LeftOf l i ∷ lefts) ++ (spelled t ++ kinds.Joins j ∷ []))) (leb (binds j) (binds i))
    (settle j lefts (JoinedOf i l t)) (LeftOf t j ∷ LeftOf l i ∷ lefts)
    (λ tighter.
    let left = is.2 in
    let least = leb-true _ _ tighter in
    let more = settle_good limit count j lefts (JoinedOf i l t) is.4 (is.0, grouped, is.1, below) is.3 least (omega arith) in
    record { lefts = more.lefts; spells = more.spells ∙ simp append_assoc })
    (λ looser.
    let less : binds i < binds j = false_less _ _ looser in
    record { lefts = (grouped, tight, room, less, is); spells = refl })

-- moves
abbrev Steady : ℕ → List Kind → Move → Type 0
Steady limit front (Stop e) = Unit {0}
Steady limit front (Go s) = IsGood limit s × (printed s ≡ front)

closing_steady : (limit : ℕ) (t : Written) (k : List Frame) → IsGrouped t → IsAround limit k → open_around k + depth t ≤ limit
    → Steady limit (print_around k ++ (spelled t ++ kinds.Close ∷ [])) (closing t k)
closing_steady limit t [] grouped around room = tt
closing_steady limit t (f ∷ k) grouped around room =
    let is : IsUnary limit (open_at f k) (GroupOf t) = record { grouped = grouped; tight = omega arith; room = omega arith } in
    let both = have_good limit f k (GroupOf t) around.0 around.1 is in
    (both.0, both.1 ∙ simp append_assoc)

behind_steady : (limit : ℕ) (lefts : List Left) (t : Written) (around : List Frame) (k : Kind) → IsGood limit (Have lefts t around)
    → Steady limit (printed (Have lefts t around) ++ k ∷ []) (behind lefts t around k)
behind_steady limit lefts t around (kinds.Joins j) is =
    let less = binds_less j in
    let tight = is.3 in
    let settled = settle_good limit (open_around around) j lefts t is.0 is.2 (below_unary lefts (strength t) is.3) (omega arith) is.4 in (
      record { lefts = settled.lefts; around = is.1; room = let room = is.4 in omega arith },
      ap (λ ks. print_around around ++ ks) (append-nil (print_lefts (settle j lefts t)) ∙ settled.spells) ∙ simp append_assoc,
    )
behind_steady limit lefts t around kinds.Close is =
    let all = joined_good limit (open_around around) lefts t is.0 is.2 (below_unary lefts (strength t) is.3) is.4 in
    subst (λ ks. Steady limit ks (closing (joined lefts t) around))
    (ap (λ ks. print_around around ++ (ks ++ kinds.Close ∷ [])) all.spells ∙ simp append_assoc)
    (closing_steady limit (joined lefts t) around all.grouped is.1 all.room)
behind_steady limit lefts t around k is = tt

-- behind a test
behind_test : (limit : ℕ) (f : Frame) (around : List Frame) (t : Written) (k : Kind) → IsFrame limit f around → IsUnary limit (open_at f around) t
    → Steady limit ((print_around around ++ (print_frame f ++ spelled t)) ++ k ∷ []) (behind f.lefts (negated f.nots t) around k)
behind_test limit f around t k frame is =
    let both = have_good limit f around t frame.lefts frame.around is in
    subst (λ ks. Steady limit (ks ++ k ∷ []) (behind f.lefts (negated f.nots t) around k)) both.1
    (behind_steady limit f.lefts (negated f.nots t) around k both.0)

-- behind an operand
not_steady : (limit : ℕ) (n : Negation) (c : Option Choice) (o : WrittenOperand) (f : Frame) (around : List Frame) → IsFrame limit f around → IsTestOperand o → open_at f around + calls o ≤ limit
    → Steady limit (printed (InOperand (OperandRead o) (OnLeft c) [] [] f around) ++ kinds.Negates n ∷ []) (not_before_in n c o f around)
not_steady limit negations.Word c o f around frame is room = ((frame, is, room), simp append_assoc)
not_steady limit negations.Sign c o f around frame is room = tt

left_alone_steady : (limit : ℕ) (c : Option Choice) (o : WrittenOperand) (f : Frame) (around : List Frame) (k : Kind) → IsFrame limit f around → IsTestOperand o → open_at f around + calls o ≤ limit
    → Steady limit (printed (InOperand (OperandRead o) (OnLeft c) [] [] f around) ++ k ∷ []) (left_alone c o f around k)
left_alone_steady limit None o f around k frame is room = behind_test limit f around (AloneOf o) k frame (record { grouped = is; tight = omega arith; room = room })
left_alone_steady limit (Some c) o f around k frame is room = tt

left_end_steady : (limit : ℕ) (c : Option Choice) (o : WrittenOperand) (f : Frame) (around : List Frame) (k : Kind) → IsFrame limit f around → IsTestOperand o → open_at f around + calls o ≤ limit
    → Steady limit (printed (InOperand (OperandRead o) (OnLeft c) [] [] f around) ++ k ∷ []) (left_end c o f around k)
left_end_steady limit c o f around (kinds.Compares operator at) frame is room =
    chosen_by (Steady limit (printed (InOperand (OperandRead o) (OnLeft c) [] [] f around) ++ kinds.Compares operator at ∷ [])) (takes_operator c operator)
    (Go (InOperand OperandWanted (OnRight c o operator at) [] [] f around)) (Stop Unexpected)
    (λ takes. ((frame, (is, takes, room), tt, omega (arith, frame.room), tt, tt), simp (append_assoc, append-nil)))
    (λ takes. tt)
left_end_steady limit c o f around (kinds.Negates n) frame is room = not_steady limit n c o f around frame is room
left_end_steady limit c o f around kinds.In frame is room = ((frame, is, room), simp append_assoc)
left_end_steady limit c o f around (kinds.Matches at) frame is room = ((frame, is, room), simp append_assoc)
left_end_steady limit c o f around k frame is room = left_alone_steady limit c o f around k frame is room

-- all that waits in a call, or in a test, with the operand behind it
linked_in : (limit : ℕ) (side : Side) (ws : List Waiting) (cs : List Call) (o : WrittenOperand) (f : Frame) (around : List Frame) → IsGood limit (InOperand (OperandRead o) side ws cs f around)
    → IsLinked limit (length cs + open_at f around) (least_of cs) (print_waiting ws ++ operand o) (all_linked ws o)
linked_in limit side ws cs o f around is =
    let spot = is.2 in
    let tight = spot.1 in
    let room = is.3 in
    let least = least_sum cs in
    all_linked_good limit (length cs + open_at f around) (least_of cs) ws o is.4 spot.0 (omega arith) (under_part ws (tightness o) tight) (omega arith)

-- behind a sign or a comma
link_steady : (limit : ℕ) (j : Link) (side : Side) (ws : List Waiting) (cs : List Call) (o : WrittenOperand) (f : Frame) (around : List Frame) → IsGood limit (InOperand (OperandRead o) side ws cs f around)
    → least_of cs ≤ binds_link j
    → Steady limit (printed (InOperand (OperandRead o) side ws cs f around) ++ link_kind j ∷ []) (Go (InOperand OperandWanted side (wait j ws o) cs f around))
link_steady limit j side ws cs o f around is loose =
    let spot = is.2 in
    let tight = spot.1 in
    let below = link_below j in
    let room = is.3 in
    let awaited = wait_good limit (length cs + open_at f around) (least_of cs) j ws o is.4 spot.0 (under_part ws (tightness o) tight) (omega arith) loose (omega arith) in (
      (is.0, is.1, tt, omega arith, awaited.waiting, is.5),
      ap (λ ks. print_around around ++ (print_frame f ++ (print_side side ++ (print_calls cs ++ ks)))) (append-nil (print_waiting (wait j ws o)) ∙ awaited.spells)
          ∙ simp append_assoc,
    )

call_end_steady : (limit : ℕ) (call : Call) (ws : List Waiting) (o : WrittenOperand) (side : Side) (cs : List Call) (f : Frame) (around : List Frame) (k : Kind) → IsGood limit (InOperand (OperandRead o) side ws (call ∷ cs) f around)
    → Steady limit (printed (InOperand (OperandRead o) side ws (call ∷ cs) f around) ++ k ∷ []) (call_end call ws o side cs f around k)
call_end_steady limit call ws o side cs f around kinds.Close is =
    let all = linked_in limit side ws (call ∷ cs) o f around is in
    let outside = is.5 in (
      (is.0, is.1, ((all.good, all.loose), omega arith), let room = all.room in omega arith, outside.0, outside.1),
      ap (λ ks. print_around around ++ (print_frame f ++ (print_side side ++ (print_calls cs ++ (print_waiting call.waiting ++ kinds.Calls call.function call.at ∷ (ks ++ kinds.Close ∷ []))))))
          all.spells ∙ simp append_assoc,
    )
call_end_steady limit call ws o side cs f around kinds.Comma is =
    chosen_by (Steady limit (printed (InOperand (OperandRead o) side ws (call ∷ cs) f around) ++ kinds.Comma ∷ [])) (takes_more call.function)
    (Go (InOperand OperandWanted side (wait Comma ws o) (call ∷ cs) f around)) (Stop Unexpected)
    (λ more. link_steady limit Comma side ws (call ∷ cs) o f around is (let least = least_more call.function more in omega arith))
    (λ none. tt)
call_end_steady limit call ws o side cs f around k is = tt

side_end_steady : (limit : ℕ) (side : Side) (ws : List Waiting) (cs : List Call) (o : WrittenOperand) (f : Frame) (around : List Frame) (k : Kind) → IsGood limit (InOperand (OperandRead o) side ws cs f around)
    → Steady limit (printed (InOperand (OperandRead o) side ws cs f around) ++ k ∷ []) (side_end side ws cs o f around k)
side_end_steady limit side ws (call ∷ cs) o f around k is = call_end_steady limit call ws o side cs f around k is
side_end_steady limit (OnLeft c) ws [] o f around k is =
    let all = linked_in limit (OnLeft c) ws [] o f around is in
    subst (λ ks. Steady limit ((print_around around ++ (print_frame f ++ (choice c ++ ks))) ++ k ∷ []) (left_end c (all_linked ws o) f around k)) all.spells
    (left_end_steady limit c (all_linked ws o) f around k is.0 (all.good, all.loose) (let room = all.room in omega arith))
side_end_steady limit (OnRight c l operator at) ws [] o f around k is =
    let all = linked_in limit (OnRight c l operator at) ws [] o f around is in
    let left = is.1 in
    let here : open_at f around + calls (all_linked ws o) ≤ limit = let room = all.room in omega arith in
    let there : open_at f around + calls l ≤ limit = left.2 in
    let test : Written = TestOf c l (CompareOf operator at (all_linked ws o)) in
    subst (λ ks. Steady limit ks (behind f.lefts (negated f.nots test) around k))
    (ap (λ ks. (print_around around ++ (print_frame f ++ (choice c ++ (operand l ++ kinds.Compares operator at ∷ ks)))) ++ k ∷ []) all.spells ∙ simp append_assoc)
    (behind_test limit f around test k is.0 (record { grouped = (left.0, ((all.good, all.loose), left.1)); tight = omega arith; room = omega arith }))

operand_end_steady : (limit : ℕ) (side : Side) (ws : List Waiting) (cs : List Call) (o : WrittenOperand) (f : Frame) (around : List Frame) (k : Kind) → IsGood limit (InOperand (OperandRead o) side ws cs f around)
    → Steady limit (printed (InOperand (OperandRead o) side ws cs f around) ++ k ∷ []) (operand_end side ws cs o f around k)
operand_end_steady limit side ws cs o f around (kinds.Computes a at) is = link_steady limit (Sign a at) side ws cs o f around is (least_sign cs a)
operand_end_steady limit side ws cs o f around k is = side_end_steady limit side ws cs o f around k is

call_begin_steady : (limit : ℕ) (side : Side) (ws : List Waiting) (cs : List Call) (f : Frame) (around : List Frame) (k : Kind) → IsGood limit (InOperand OperandWanted side ws cs f around)
    → Steady limit (printed (InOperand OperandWanted side ws cs f around) ++ k ∷ []) (call_begin limit side ws cs f around k)
call_begin_steady limit side ws cs f around (kinds.Calls function at) is =
    chosen_by (Steady limit (printed (InOperand OperandWanted side ws cs f around) ++ kinds.Calls function at ∷ [])) (ltb (length cs + open_at f around) limit)
    (Go (InOperand OperandWanted side [] ((record { function = function; at = at; waiting = ws }) ∷ cs) f around)) (Stop TooDeep)
    (λ less. let room = ltb-true _ _ less in ((is.0, is.1, tt, omega arith, tt, (is.4, is.5)), simp (append_assoc, append-nil)))
    (λ less. tt)
call_begin_steady limit side ws cs f around k is = tt

otherwise_steady : (limit : ℕ) (spot : Spot) (side : Side) (ws : List Waiting) (cs : List Call) (f : Frame) (around : List Frame) (k : Kind) → IsGood limit (InOperand spot side ws cs f around)
    → Steady limit (printed (InOperand spot side ws cs f around) ++ k ∷ []) (otherwise limit spot side ws cs f around k)
otherwise_steady limit OperandWanted side ws cs f around k is = call_begin_steady limit side ws cs f around k is
otherwise_steady limit (OperandRead o) side ws cs f around k is = operand_end_steady limit side ws cs o f around k is
otherwise_steady limit spot side ws cs f around k is = tt

operand_move_steady : (limit : ℕ) (next : Option Spot) (spot : Spot) (side : Side) (ws : List Waiting) (cs : List Call) (f : Frame) (around : List Frame) (k : Kind) → IsGood limit (InOperand spot side ws cs f around)
    → SpotSteady (spot_calls spot) (print_spot spot ++ k ∷ []) next
    → Steady limit (printed (InOperand spot side ws cs f around) ++ k ∷ []) (operand_move limit next spot side ws cs f around k)
operand_move_steady limit (Some next) spot side ws cs f around k is steady =
    let room = is.3 in
    let fewer = steady.2 in (
      (is.0, is.1, steady.0, omega arith, is.4, is.5),
      ap (λ ks. print_around around ++ (print_frame f ++ (print_side side ++ (print_calls cs ++ (print_waiting ws ++ ks))))) steady.1 ∙ simp append_assoc,
    )
operand_move_steady limit None spot side ws cs f around k is steady = otherwise_steady limit spot side ws cs f around k is

-- what follows the left operand
abbrev TailSteady : List Kind → Option TailSpot → Type 0
TailSteady front None = Unit {0}
TailSteady front (Some spot) = print_tail spot ≡ front

literal_steady : (front : List Kind) (k : Kind) (go : Literal → Option TailSpot) → ((l : Literal) → TailSteady (front ++ literal l ∷ []) (go l)) → TailSteady (front ++ k ∷ []) (literal_step k go)
literal_steady front (kinds.Name w) go steady = steady (literals.Bare w)
literal_steady front (kinds.Text q) go steady = steady (literals.Text q)
literal_steady front k go steady = tt

set_next : (n : Bool) (done : List Element) (e : Element) → print_tail (InSet n (done ++ e ∷ []) ElementWanted) ≡ not_before n ++ kinds.In ∷ (set_before done ++ (element e ++ kinds.Comma ∷ []))
set_next n done e = ap (λ ks. not_before n ++ kinds.In ∷ ks) (append-nil (set_before (done ++ e ∷ [])) ∙ set_more done e)

set_step_steady : (n : Bool) (done : List Element) (spot : ElementSpot) (k : Kind) → TailSteady (print_tail (InSet n done spot) ++ k ∷ []) (set_step n done spot k)
set_step_steady n done ElementWanted k = literal_steady (print_tail (InSet n done ElementWanted)) k (λ l. Some (InSet n done (LiteralRead l))) (λ l. simp (append_assoc, append-nil))
set_step_steady n done (LiteralRead l) kinds.DotDot = simp append_assoc
set_step_steady n done (LiteralRead l) kinds.Comma = set_next n done (elements.One l) ∙ simp append_assoc
set_step_steady n done (SecondWanted l) k = literal_steady (print_tail (InSet n done (SecondWanted l))) k (λ m. Some (InSet n done (SecondRead l m))) (λ m. simp append_assoc)
set_step_steady n done (SecondRead l m) kinds.Comma = set_next n done (elements.Between l m) ∙ simp append_assoc
set_step_steady n done spot k = tt

tail_step_steady : (spot : TailSpot) (k : Kind) → TailSteady (print_tail spot ++ k ∷ []) (tail_step spot k)
tail_step_steady InWanted kinds.In = refl
tail_step_steady (SetWanted n) kinds.OpenBrace = simp (append_assoc, append-nil)
tail_step_steady (InSet n done spot) k = set_step_steady n done spot k
tail_step_steady spot k = tt

abbrev TailDone : Option Choice → List Kind → Option WrittenTail → Type 0
TailDone c front None = Unit {0}
TailDone c front (Some t) = IsTail c t × (tail t ≡ front) × (calls_behind t ≡ 0)

set_done_good : (c : Option Choice) (n : Bool) (done : List Element) (spot : ElementSpot) → TailDone c (print_tail (InSet n done spot) ++ kinds.CloseBrace ∷ []) (set_done n done spot)
set_done_good c n done (LiteralRead l) =
    (filled done (elements.One l), ap (λ ks. not_before n ++ kinds.In ∷ ks) (set_closed done (elements.One l)) ∙ simp append_assoc, refl)
set_done_good c n done (SecondRead l m) =
    (filled done (elements.Between l m), ap (λ ks. not_before n ++ kinds.In ∷ ks) (set_closed done (elements.Between l m)) ∙ simp append_assoc, refl)
set_done_good c n done spot = tt

tail_done_good : (c : Option Choice) (spot : TailSpot) (k : Kind) → TailDone c (print_tail spot ++ k ∷ []) (tail_done spot k)
tail_done_good c (InSet n done spot) kinds.CloseBrace = set_done_good c n done spot
tail_done_good c (PatternWanted at) (kinds.Text q) = (tt, refl, refl)
tail_done_good c spot k = tt

tail_move_steady : (limit : ℕ) (next : Option TailSpot) (last : Option WrittenTail) (spot : TailSpot) (c : Option Choice) (o : WrittenOperand) (f : Frame) (around : List Frame) (k : Kind)
    → IsGood limit (InTail spot c o f around) → TailSteady (print_tail spot ++ k ∷ []) next → TailDone c (print_tail spot ++ k ∷ []) last
    → Steady limit (printed (InTail spot c o f around) ++ k ∷ []) (tail_move next last c o f around)
tail_move_steady limit (Some next) last spot c o f around k is steady good =
    (is, ap (λ ks. print_around around ++ (print_frame f ++ (choice c ++ (operand o ++ ks)))) steady ∙ simp append_assoc)
tail_move_steady limit None (Some t) spot c o f around k is steady good =
    let none = good.2 in
    let room = is.2 in
    let frame = is.0 in
    let both = have_good limit f around (TestOf c o t) frame.lefts frame.around (record { grouped = (is.1, good.0); tight = omega arith; room = omega arith }) in
    (both.0, both.1 ∙ ap (λ ks. print_around around ++ (print_frame f ++ (choice c ++ (operand o ++ ks)))) good.1 ∙ simp append_assoc)
tail_move_steady limit None None spot c o f around k is steady good = tt

-- where a filter begins
begin_operand : (limit : ℕ) (f : Frame) (around : List Frame) (k : Kind) → IsFrame limit f around
    → Steady limit (printed (Want f around) ++ k ∷ []) (operand_move limit (operand_step OperandWanted k) OperandWanted (OnLeft None) [] [] f around k)
begin_operand limit f around k frame =
    subst (λ ks. Steady limit (print_around around ++ ks ++ k ∷ []) (operand_move limit (operand_step OperandWanted k) OperandWanted (OnLeft None) [] [] f around k)) (append-nil (print_frame f))
    (operand_move_steady limit (operand_step OperandWanted k) OperandWanted (OnLeft None) [] [] f around k (frame, tt, tt, let room = frame.room in omega arith, tt, tt) (operand_step_steady OperandWanted k tt))

begin_steady : (limit : ℕ) (f : Frame) (around : List Frame) (k : Kind) → IsFrame limit f around → Steady limit (printed (Want f around) ++ k ∷ []) (begin limit f around k)
begin_steady limit f around (kinds.Negates n) frame =
    chosen_by (Steady limit (printed (Want f around) ++ kinds.Negates n ∷ [])) (ltb (open_at f around) limit)
    (Go (Want (record { lefts = f.lefts; nots = n ∷ f.nots }) around)) (Stop TooDeep)
    (λ less. let room = ltb-true _ _ less in (record { lefts = frame.lefts; around = frame.around; room = omega arith }, simp append_assoc))
    (λ less. tt)
begin_steady limit f around kinds.Open frame =
    chosen_by (Steady limit (printed (Want f around) ++ kinds.Open ∷ [])) (ltb (open_at f around) limit)
    (Go (Want no_frame (f ∷ around))) (Stop TooDeep)
    (λ less. let room = ltb-true _ _ less in (record { lefts = tt; around = (frame.lefts, frame.around); room = omega arith }, simp (append_assoc, append-nil)))
    (λ less. tt)
begin_steady limit f around (kinds.Chooses c) frame = ((frame, tt, tt, let room = frame.room in omega arith, tt, tt), simp append_assoc)
begin_steady limit f around k frame = begin_operand limit f around k frame

pub step_steady : (limit : ℕ) (s : State) (k : Kind) → IsGood limit s → Steady limit (printed s ++ k ∷ []) (step limit s k)
step_steady limit (Want f around) k is = begin_steady limit f around k is
step_steady limit (Have lefts t around) k is = behind_steady limit lefts t around k is
step_steady limit (InOperand spot side ws cs f around) k is = operand_move_steady limit (operand_step spot k) spot side ws cs f around k is (operand_step_steady spot k is.2)
step_steady limit (InTail spot c o f around) k is = tail_move_steady limit (tail_step spot k) (tail_done spot k) spot c o f around k is (tail_step_steady spot k) (tail_done_good c spot k)

pub steady : (limit : ℕ) (s next : State) (k : Kind) → IsGood limit s → step limit s k ≡ Go next → IsGood limit next × (printed next ≡ printed s ++ k ∷ [])
steady limit s next k is e = subst (Steady limit (printed s ++ k ∷ [])) e (step_steady limit s k is)

-- where the tokens end
abbrev WholeGood : ℕ → List Kind → Option Written → Type 0
WholeGood limit front None = Unit {0}
WholeGood limit front (Some t) = IsFilter limit front t

whole_have_good : (limit : ℕ) (lefts : List Left) (t : Written) (around : List Frame) → IsGood limit (Have lefts t around) → WholeGood limit (printed (Have lefts t around)) (whole_have (joined lefts t) around)
whole_have_good limit lefts t [] is =
    let all = joined_good limit 0 lefts t is.0 is.2 (below_unary lefts (strength t) is.3) is.4 in
    record { spells = all.spells; grouped = all.grouped; shallow = let room = all.room in omega arith }
whole_have_good limit lefts t (f ∷ around) is = tt

whole_frame : (limit : ℕ) (f : Frame) (around : List Frame) (t : Written) → IsFrame limit f around → IsUnary limit (open_at f around) t
    → WholeGood limit (print_around around ++ (print_frame f ++ spelled t)) (whole_have (joined f.lefts (negated f.nots t)) around)
whole_frame limit f around t frame is =
    let both = have_good limit f around t frame.lefts frame.around is in
    subst (λ ks. WholeGood limit ks (whole_have (joined f.lefts (negated f.nots t)) around)) both.1
    (whole_have_good limit f.lefts (negated f.nots t) around both.0)

whole_test_good : (limit : ℕ) (side : Side) (ws : List Waiting) (o : WrittenOperand) (f : Frame) (around : List Frame) → IsGood limit (InOperand (OperandRead o) side ws [] f around)
    → WholeGood limit (printed (InOperand (OperandRead o) side ws [] f around)) (whole_test side (all_linked ws o) f around)
whole_test_good limit (OnLeft None) ws o f around is =
    let all = linked_in limit (OnLeft None) ws [] o f around is in
    subst (λ ks. WholeGood limit (print_around around ++ (print_frame f ++ ks)) (whole_test (OnLeft None) (all_linked ws o) f around)) all.spells
    (whole_frame limit f around (AloneOf (all_linked ws o)) is.0 (record { grouped = (all.good, all.loose); tight = omega arith; room = let room = all.room in omega arith }))
whole_test_good limit (OnLeft (Some c)) ws o f around is = tt
whole_test_good limit (OnRight c l operator at) ws o f around is =
    let all = linked_in limit (OnRight c l operator at) ws [] o f around is in
    let left = is.1 in
    let here : open_at f around + calls (all_linked ws o) ≤ limit = let room = all.room in omega arith in
    let there : open_at f around + calls l ≤ limit = left.2 in
    let test : Written = TestOf c l (CompareOf operator at (all_linked ws o)) in
    subst (λ ks. WholeGood limit (print_around around ++ (print_frame f ++ ks)) (whole_have (joined f.lefts (negated f.nots test)) around))
    (ap (λ ks. choice c ++ (operand l ++ kinds.Compares operator at ∷ ks)) all.spells ∙ simp append_assoc)
    (whole_frame limit f around test is.0 (record { grouped = (left.0, ((all.good, all.loose), left.1)); tight = omega arith; room = omega arith }))

whole_operand_good : (limit : ℕ) (spot : Spot) (ws : List Waiting) (cs : List Call) (side : Side) (f : Frame) (around : List Frame) → IsGood limit (InOperand spot side ws cs f around)
    → WholeGood limit (printed (InOperand spot side ws cs f around)) (whole_operand spot ws cs side f around)
whole_operand_good limit (OperandRead o) ws [] side f around is = whole_test_good limit side ws o f around is
whole_operand_good limit spot ws cs side f around is = tt

whole_steady : (limit : ℕ) (s : State) → IsGood limit s → WholeGood limit (printed s) (whole s)
whole_steady limit (Have lefts t around) is = whole_have_good limit lefts t around is
whole_steady limit (InOperand spot side ws cs f around) is = whole_operand_good limit spot ws cs side f around is
whole_steady limit (Want f around) is = tt
whole_steady limit (InTail spot c o f around) is = tt

pub whole_good : (limit : ℕ) (s : State) (t : Written) → IsGood limit s → whole s ≡ Some t → IsFilter limit (printed s) t
whole_good limit s t is e = subst (WholeGood limit (printed s)) e (whole_steady limit s is)
