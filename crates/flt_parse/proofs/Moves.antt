-- Moves of the reading, as the parser comes to them.
use Rattle.std.specs.Option.{option_map}
use Rattle.std.proofs.Common.{◌≡◌, ℕ, ◌+◌, ◌==◌, true, false, List, [], ◌∷◌, ◌++◌, length, Option, Some, None, Result, Err, ltb, zero-add, sym, ap, ◌∙◌, refl, subst}
use Rattle.flt_syntax.specs.Filters.{most_open}
use Rattle.flt_syntax.specs.Grammar.{takes_mask, takes_more, takes_operator, takes_slice}
use Rattle.flt_parse.specs.Parser.Reading.{Frame, Waiting, Call, Comma, Side, OnLeft, OnRight, Spot, OperandWanted, OperandRead, LayersWanted, InRanges, MaskWanted, TailSpot, InOperand, InTail, Move, Go, Stop, RangeWanted, begin, behind_hash, call_end, have, left_end, operand_end, operand_move, operand_step, tail_move, wait, whole_have, whole_operand}
use Rattle.flt_parse.specs.Parser.Answers.{begins_more, further}
use Rattle.flt_parse.specs.Parser.States.{IsMove, IsSpot, IsTailMove, IsWhole, around_of, calls_of, frame_of, part_of, side_of, step_in, waiting_of}
use Rattle.flt_syntax.specs.Written.{Written, WrittenOperand, WrittenTail, TestOf, word_alone}
use Rattle.flt_syntax.specs.declared.ast.Ast.{Ast}
use Rattle.flt_syntax.specs.declared.ast.Choice.{Choice}
use Rattle.flt_syntax.specs.declared.ast.Operator.{Operator}
use Rattle.flt_syntax.specs.declared.fault.FilterReason.TheVariants.{Unexpected}
use Rattle.flt_parse.specs.declared.state.Call.{Call as Called}
use Rattle.flt_parse.specs.declared.state.Frame.{Frame as Framed}
use Rattle.flt_parse.specs.declared.state.Inside.{Inside}
use Rattle.flt_parse.specs.declared.state.Open.{Open}
use Rattle.flt_parse.specs.declared.state.Part.{Part}
use Rattle.flt_parse.specs.declared.state.Part.TheVariants as parts
use Rattle.flt_parse.specs.declared.state.Refusal.{Refusal}
use Rattle.flt_parse.specs.declared.state.Refusal.TheVariants.{Fault, NoMemory}
use Rattle.flt_parse.specs.declared.state.Side.TheVariants as sides
use Rattle.flt_parse.specs.declared.state.State.{State as Stated}
use Rattle.flt_syntax.specs.declared.token.Kind.{Kind}
use Rattle.flt_syntax.specs.declared.token.Kind.TheVariants as kinds
use Rattle.flt_syntax.specs.declared.word.Word.{Word}

abbrev pub Answered : Type 0
Answered = Result Stated Refusal

-- an equal move
moved : (m n : Move) (r : Answered) → m ≡ n → IsMove n r → IsMove m r
moved m n r e h = subst (λ x. IsMove x r) (sym e) h

pub no_calls : (n m : ℕ) → ltb (0 + n) m ≡ ltb n m
no_calls n m = ap (λ k. ltb k m) (zero-add n)

-- where a test begins
begin_same : (limit : ℕ) (f : Frame) (around : List Frame) (kind : Kind) → begins_more kind ≡ false
    → begin limit f around kind ≡ operand_move limit (operand_step OperandWanted kind) OperandWanted (OnLeft None) [] [] f around kind
begin_same limit f around (kinds.Negates n) h = cc
begin_same limit f around kinds.Open h = cc
begin_same limit f around (kinds.Chooses c) h = cc
begin_same limit f around kind h = refl

begin_test : (limit : ℕ) (f : Frame) (around : List Frame) (kind : Kind) (r : Answered) → begins_more kind ≡ false
    → IsMove (operand_move limit (operand_step OperandWanted kind) OperandWanted (OnLeft None) [] [] f around kind) r → IsMove (begin limit f around kind) r
begin_test limit f around kind r h is = moved _ _ r (begin_same limit f around kind h) is

pub begin_inside : (outer : Open) (i : Inside) (kind : Kind) (r : Answered) → begins_more kind ≡ false
    → (i.side ≡ sides.OnLeft None) × (i.waiting.items ≡ []) × (i.calls.items ≡ []) × (i.outer ≡ outer)
    → IsMove (step_in OperandWanted i kind) r → IsMove (begin most_open (frame_of outer.frame) (around_of outer.around.items) kind) r
begin_inside outer i kind r h same is =
    let move : Side → List Waiting → List Call → Open → Move = λ side ws cs o. operand_move most_open (operand_step OperandWanted kind) OperandWanted side ws cs (frame_of o.frame) (around_of o.around.items) kind in
    let side = subst (λ s. IsMove (move (side_of s) (waiting_of i.waiting.items) (calls_of i.calls.items) i.outer) r) same.0 is in
    let waiting = subst (λ ws. IsMove (move (OnLeft None) (waiting_of ws) (calls_of i.calls.items) i.outer) r) same.1 side in
    let calls = subst (λ cs. IsMove (move (OnLeft None) [] (calls_of cs) i.outer) r) same.2 waiting in
    begin_test most_open (frame_of outer.frame) (around_of outer.around.items) kind r h (subst (λ o. IsMove (move (OnLeft None) [] [] o) r) same.3 calls)

-- behind an operand that is whole
end_hash : (side : Side) (ws : List Waiting) (cs : List Call) (o : WrittenOperand) (f : Frame) (around : List Frame) → operand_end side ws cs o f around kinds.Hash ≡ Stop Unexpected
end_hash side ws (call ∷ cs) o f around = refl
end_hash (OnLeft None) ws [] o f around = refl
end_hash (OnLeft (Some c)) ws [] o f around = refl
end_hash (OnRight c l operator at) ws [] o f around = refl

end_ranges : (side : Side) (ws : List Waiting) (cs : List Call) (o : WrittenOperand) (f : Frame) (around : List Frame) (at next : ℕ) → operand_end side ws cs o f around (kinds.OpenRanges at next) ≡ Stop Unexpected
end_ranges side ws (call ∷ cs) o f around at next = refl
end_ranges (OnLeft None) ws [] o f around at next = refl
end_ranges (OnLeft (Some c)) ws [] o f around at next = refl
end_ranges (OnRight c l operator b) ws [] o f around at next = refl

end_mask : (side : Side) (ws : List Waiting) (cs : List Call) (o : WrittenOperand) (f : Frame) (around : List Frame) (at : ℕ) → operand_end side ws cs o f around (kinds.Mask at) ≡ Stop Unexpected
end_mask side ws (call ∷ cs) o f around at = refl
end_mask (OnLeft None) ws [] o f around at = refl
end_mask (OnLeft (Some c)) ws [] o f around at = refl
end_mask (OnRight c l operator b) ws [] o f around at = refl

begins : (o : WrittenOperand) (w : Word) → Some w ≡ word_alone o → behind_hash o ≡ Some (LayersWanted w)
begins o w e = ap (λ n. option_map (λ v. LayersWanted v) n) (sym e)

begins_none : (o : WrittenOperand) → None ≡ word_alone o → behind_hash o ≡ None
begins_none o e = ap (λ n. option_map (λ v. LayersWanted v) n) (sym e)

pub layers_begun : (limit : ℕ) (o : WrittenOperand) (w : Word) (side : Side) (ws : List Waiting) (cs : List Call) (f : Frame) (around : List Frame) (r : Answered) → Some w ≡ word_alone o
    → IsMove (Go (InOperand (LayersWanted w) side ws cs f around)) r → IsMove (operand_move limit (operand_step (OperandRead o) kinds.Hash) (OperandRead o) side ws cs f around kinds.Hash) r
layers_begun limit o w side ws cs f around r e is = moved _ _ r (ap (λ n. operand_move limit n (OperandRead o) side ws cs f around kinds.Hash) (begins o w e)) is

pub no_layers : (limit : ℕ) (o : WrittenOperand) (side : Side) (ws : List Waiting) (cs : List Call) (f : Frame) (around : List Frame) (r : Answered) → None ≡ word_alone o
    → IsMove (Stop Unexpected) r → IsMove (operand_move limit (operand_step (OperandRead o) kinds.Hash) (OperandRead o) side ws cs f around kinds.Hash) r
no_layers limit o side ws cs f around r e is =
    moved _ _ r (ap (λ n. operand_move limit n (OperandRead o) side ws cs f around kinds.Hash) (begins_none o e) ∙ end_hash side ws cs o f around) is

pub slice_begun : (limit : ℕ) (o : WrittenOperand) (at next : ℕ) (side : Side) (ws : List Waiting) (cs : List Call) (f : Frame) (around : List Frame) (r : Answered) → takes_slice o ≡ true
    → IsMove (Go (InOperand (InRanges o at [] next RangeWanted) side ws cs f around)) r
    → IsMove (operand_move limit (operand_step (OperandRead o) (kinds.OpenRanges at next)) (OperandRead o) side ws cs f around (kinds.OpenRanges at next)) r
slice_begun limit o at next side ws cs f around r e is = rw e is

pub no_slice : (limit : ℕ) (o : WrittenOperand) (at next : ℕ) (side : Side) (ws : List Waiting) (cs : List Call) (f : Frame) (around : List Frame) (r : Answered) → takes_slice o ≡ false
    → IsMove (Stop Unexpected) r
    → IsMove (operand_move limit (operand_step (OperandRead o) (kinds.OpenRanges at next)) (OperandRead o) side ws cs f around (kinds.OpenRanges at next)) r
no_slice limit o at next side ws cs f around r e is = rw e (moved _ _ r (end_ranges side ws cs o f around at next) is)

pub mask_begun : (limit : ℕ) (o : WrittenOperand) (at : ℕ) (side : Side) (ws : List Waiting) (cs : List Call) (f : Frame) (around : List Frame) (r : Answered) → takes_mask o ≡ true
    → IsMove (Go (InOperand (MaskWanted o at) side ws cs f around)) r
    → IsMove (operand_move limit (operand_step (OperandRead o) (kinds.Mask at)) (OperandRead o) side ws cs f around (kinds.Mask at)) r
mask_begun limit o at side ws cs f around r e is = rw e is

pub no_mask : (limit : ℕ) (o : WrittenOperand) (at : ℕ) (side : Side) (ws : List Waiting) (cs : List Call) (f : Frame) (around : List Frame) (r : Answered) → takes_mask o ≡ false
    → IsMove (Stop Unexpected) r
    → IsMove (operand_move limit (operand_step (OperandRead o) (kinds.Mask at)) (OperandRead o) side ws cs f around (kinds.Mask at)) r
no_mask limit o at side ws cs f around r e is = rw e (moved _ _ r (end_mask side ws cs o f around at) is)

-- within an operand
pub within : (limit : ℕ) (n : Option Spot) (part : Part) (side : Side) (ws : List Waiting) (cs : List Call) (f : Frame) (around : List Frame) (kind : Kind) (r : Answered)
    → IsMove (further n side ws cs f around) r → IsMove (operand_move limit n (part_of part) side ws cs f around kind) r
within limit (Some s) part side ws cs f around kind r is = is
within limit None (parts.LayersWanted w) side ws cs f around kind r is = is
within limit None (parts.InLayers w done at spot) side ws cs f around kind r is = is
within limit None (parts.InRanges slice at spot) side ws cs f around kind r is = is
within limit None (parts.MaskWanted o at) side ws cs f around kind r is = is

pub spot_error : (n : Option Spot) (m : Move) (e : Refusal) → IsSpot n (Err e) → IsMove m (Err e)
spot_error n m (Fault r) h = absurd h
spot_error n m NoMemory h = tt

-- behind an operator
pub takes_open : (c : Option Choice) (o : WrittenOperand) (operator : Operator) (at : ℕ) (f : Frame) (around : List Frame) (r : Answered) → takes_operator c operator ≡ true
    → IsMove (Go (InOperand OperandWanted (OnRight c o operator at) [] [] f around)) r → IsMove (left_end c o f around (kinds.Compares operator at)) r
takes_open c o operator at f around r e is = rw e is

pub takes_none : (c : Option Choice) (o : WrittenOperand) (operator : Operator) (at : ℕ) (f : Frame) (around : List Frame) (r : Answered) → takes_operator c operator ≡ false
    → IsMove (Stop Unexpected) r → IsMove (left_end c o f around (kinds.Compares operator at)) r
takes_none c o operator at f around r e is = rw e is

-- behind a left operand
pub tail_further : (next : Option TailSpot) (last : Option WrittenTail) (s : TailSpot) (c : Option Choice) (o : WrittenOperand) (f : Frame) (around : List Frame) → next ≡ Some s
    → tail_move next last c o f around ≡ Go (InTail s c o f around)
tail_further next last s c o f around e = ap (λ n. tail_move n last c o f around) e

pub tail_ended : (next : Option TailSpot) (last : Option WrittenTail) (t : WrittenTail) (c : Option Choice) (o : WrittenOperand) (f : Frame) (around : List Frame) (r : Answered)
    → next ≡ None → last ≡ Some t → IsMove (Go (have f around (TestOf c o t))) r → IsMove (tail_move next last c o f around) r
tail_ended next last t c o f around r a b is = moved _ _ r (ap (λ n. tail_move n last c o f around) a ∙ ap (λ l. tail_move None l c o f around) b) is

pub tail_wrong : (next : Option TailSpot) (last : Option WrittenTail) (c : Option Choice) (o : WrittenOperand) (f : Frame) (around : List Frame) (r : Answered)
    → next ≡ None → last ≡ None → IsMove (Stop Unexpected) r → IsMove (tail_move next last c o f around) r
tail_wrong next last c o f around r a b is = moved _ _ r (ap (λ n. tail_move n last c o f around) a ∙ ap (λ l. tail_move None l c o f around) b) is

pub tail_error : (next : Option TailSpot) (last : Option WrittenTail) (m : Move) (e : Refusal) → IsTailMove next last (Err e) → IsMove m (Err e)
tail_error next last m (Fault r) h = absurd h
tail_error next last m NoMemory h = tt

-- where something is open still
not_last : (t : Written) (fs : List Frame) (f : Frame) → whole_have t (fs ++ f ∷ []) ≡ None
not_last t [] f = refl
not_last t (g ∷ fs) f = refl

pub not_whole : (t : Written) (fs : List Framed) → (length fs == 0) ≡ false → whole_have t (around_of fs) ≡ None
not_whole t [] h = cc
not_whole t (f ∷ fs) h = not_last t (around_of fs) _

call_left : (o : WrittenOperand) (ws : List Waiting) (cs : List Call) (call : Call) (side : Side) (f : Frame) (around : List Frame)
    → whole_operand (OperandRead o) ws (cs ++ call ∷ []) side f around ≡ None
call_left o ws [] call side f around = refl
call_left o ws (c ∷ cs) call side f around = refl

pub call_not_whole : (o : WrittenOperand) (ws : List Waiting) (cs : List Called) (side : Side) (f : Frame) (around : List Frame) → (length cs == 0) ≡ false
    → whole_operand (OperandRead o) ws (calls_of cs) side f around ≡ None
call_not_whole o ws [] side f around h = cc
call_not_whole o ws (c ∷ cs) side f around h = call_left o ws (calls_of cs) _ side f around

-- behind a comma
pub more_taken : (call : Call) (ws : List Waiting) (o : WrittenOperand) (side : Side) (cs : List Call) (f : Frame) (around : List Frame) (r : Answered) → takes_more call.function ≡ true
    → IsMove (Go (InOperand OperandWanted side (wait Comma ws o) (call ∷ cs) f around)) r → IsMove (call_end call ws o side cs f around kinds.Comma) r
more_taken call ws o side cs f around r e is = rw e is

pub none_taken : (call : Call) (ws : List Waiting) (o : WrittenOperand) (side : Side) (cs : List Call) (f : Frame) (around : List Frame) (r : Answered) → takes_more call.function ≡ false
    → IsMove (Stop Unexpected) r → IsMove (call_end call ws o side cs f around kinds.Comma) r
none_taken call ws o side cs f around r e is = rw e is

pub further_some : (n : Option Spot) (s : Spot) (side : Side) (ws : List Waiting) (cs : List Call) (f : Frame) (around : List Frame) → n ≡ Some s → further n side ws cs f around ≡ Go (InOperand s side ws cs f around)
further_some n s side ws cs f around e = ap (λ x. further x side ws cs f around) e

pub further_none : (n : Option Spot) (side : Side) (ws : List Waiting) (cs : List Call) (f : Frame) (around : List Frame) (r : Answered) → n ≡ None → IsMove (Stop Unexpected) r → IsMove (further n side ws cs f around) r
further_none n side ws cs f around r e is = moved _ _ r (ap (λ x. further x side ws cs f around) e) is

-- an operand that has to go on
pub part_not_whole : (part : Part) (ws : List Waiting) (cs : List Call) (side : Side) (f : Frame) (around : List Frame) (r : Result Ast Refusal)
    → IsWhole None r → IsWhole (whole_operand (part_of part) ws cs side f around) r
part_not_whole (parts.LayersWanted w) ws cs side f around r is = is
part_not_whole (parts.InLayers w done at spot) ws cs side f around r is = is
part_not_whole (parts.InRanges slice at spot) ws cs side f around r is = is
part_not_whole (parts.MaskWanted o at) ws cs side f around r is = is
