-- From each state some tokens lead to a filter; more may be open under a larger limit.
use Rattle.std.proofs.Common.{◌≡◌, ℕ, suc, ◌+◌, ◌<◌, ◌≤◌, ◌⊎◌, inl, inr, Bool, true, false, List, [], ◌∷◌, length, Option, Some, None, cond, ltb, arith, sym, ap, ◌∙◌, refl, subst}
use Rattle.std.proofs.lemmas.Bool.{lt-ltb, ltb-true}
use Rattle.flt_parse.specs.Parser.Reading.{Left, Frame, Waiting, Call, Side, OnLeft, OnRight, LayerWanted, FirstRead, LastWanted, LastRead, RangeWanted, DigitsWanted, PlaceRead, ColonRead, EndWanted, EndDigitsWanted, CountWanted, PartRead, Spot, OperandWanted, OperandRead, LayersWanted, InLayers, InRanges, MaskWanted, ElementWanted, LiteralRead, SecondWanted, SecondRead, TailSpot, InWanted, SetWanted, InSet, PatternWanted, State, Want, Have, InOperand, InTail, Move, Go, Stop, Whole, Bad, all_linked, begin, behind, call_begin, call_end, closing, have, joined, left_alone, left_end, negated, not_before_in, open_at, operand_end, operand_move, operand_step, opens, otherwise, side_end, step, tail_done, tail_move, tail_step, then_go}
use Rattle.flt_syntax.specs.Grammar.{takes_more}
use Rattle.flt_syntax.specs.Written.{Written, WrittenOperand, WrittenTail, CalledOf, CompareOf, MatchesOf, GroupOf, AloneOf, TestOf}
use Rattle.flt_syntax.specs.declared.ast.Choice.{Choice}
use Rattle.flt_syntax.specs.declared.ast.Element.{Element}
use Rattle.flt_syntax.specs.declared.ast.Negation.{Negation}
use Rattle.flt_syntax.specs.declared.ast.Negation.TheVariants as negations
use Rattle.flt_syntax.specs.declared.ast.Operator.{Operator}
use Rattle.flt_syntax.specs.declared.fault.FilterReason.{FilterReason}
use Rattle.flt_syntax.specs.declared.fault.FilterReason.TheVariants.{Unexpected, TooDeep}
use Rattle.flt_syntax.specs.declared.token.Kind.{Kind}
use Rattle.flt_syntax.specs.declared.token.Kind.TheVariants as kinds
use Rattle.flt_syntax.specs.declared.word.Quote.{Quote}
use Rattle.flt_syntax.specs.declared.word.Word.{Word}
use Rattle.flt_parse.proofs.Complete.{Follows, over}
use Rattle.flt_parse.proofs.Printed.{IsFrame, IsGood}
use Rattle.flt_parse.proofs.Linked.{chosen_by}

-- some tokens that lead to a filter
pub record Way (limit : ℕ) (s : State) : Type 0 where
  pub tokens : List Kind
  pub filter : Written
  pub leads : over limit s tokens ≡ Whole filter

-- the same behind a test, where they begin with `)`, if with any
pub record Out (limit : ℕ) (s : State) : Type 0 where
  pub tokens : List Kind
  pub filter : Written
  pub leads : over limit s tokens ≡ Whole filter
  pub follows : Follows 0 tokens

some_word : Word
some_word = record { at = 0; text = [] }

some_text : Quote
some_text = record { at = 0; bytes = [] }

out_have : (limit : ℕ) (around : List Frame) (lefts : List Left) (t : Written) → Out limit (Have lefts t around)
out_have limit [] lefts t = record { tokens = []; filter = joined lefts t; leads = refl; follows = tt }
out_have limit (f ∷ around) lefts t =
    let outer = out_have limit around f.lefts (negated f.nots (GroupOf (joined lefts t))) in
    record { tokens = kinds.Close ∷ outer.tokens; filter = outer.filter; leads = outer.leads; follows = tt }

right_out : (limit : ℕ) (c : Option Choice) (l : WrittenOperand) (operator : Operator) (at : ℕ) (ws : List Waiting) (o : WrittenOperand) (f : Frame) (around : List Frame) (n : ℕ) (rest : List Kind) → Follows n rest
    → over limit (InOperand (OperandRead o) (OnRight c l operator at) ws [] f around) rest ≡ over limit (have f around (TestOf c l (CompareOf operator at (all_linked ws o)))) rest
right_out limit c l operator at ws o f around n [] h = refl
right_out limit c l operator at ws o f around n (kinds.Close ∷ rest) h = refl
right_out limit c l operator at ws o f around n (kinds.Joins j ∷ rest) h = refl
right_out limit c l operator at ws o f around n (k ∷ rest) h = absurd h

way_read : (limit : ℕ) (ws : List Waiting) (cs : List Call) (o : WrittenOperand) (side : Side) (f : Frame) (around : List Frame) → Way limit (InOperand (OperandRead o) side ws cs f around)
way_read limit ws [] o (OnLeft c) f around =
    let outer = out_have limit around f.lefts (negated f.nots (TestOf c (all_linked ws o) (MatchesOf 0 some_text))) in
    record { tokens = kinds.Matches 0 ∷ kinds.Text some_text ∷ outer.tokens; filter = outer.filter; leads = outer.leads }
way_read limit ws [] o (OnRight c l operator at) f around =
    let outer = out_have limit around f.lefts (negated f.nots (TestOf c l (CompareOf operator at (all_linked ws o)))) in
    record { tokens = outer.tokens; filter = outer.filter; leads = right_out limit c l operator at ws o f around 0 outer.tokens outer.follows ∙ outer.leads }
way_read limit ws (call ∷ cs) o side f around =
    let outer = way_read limit call.waiting cs (CalledOf call.function call.at (all_linked ws o)) side f around in
    record { tokens = kinds.Close ∷ outer.tokens; filter = outer.filter; leads = outer.leads }

-- one more token in front
onward : (limit : ℕ) (s next : State) (k : Kind) → step limit s k ≡ Go next → Way limit next → Way limit s
onward limit s next k e way = record {
  tokens = k ∷ way.tokens;
  filter = way.filter;
  leads = ap (λ m. then_go m (λ n. over limit n way.tokens) (λ r. Bad r (k ∷ way.tokens))) e ∙ way.leads;
}

way_word : (limit : ℕ) (s : State) (ws : List Waiting) (cs : List Call) (o : WrittenOperand) (side : Side) (f : Frame) (around : List Frame) (k : Kind)
    → step limit s k ≡ Go (InOperand (OperandRead o) side ws cs f around) → Way limit s
way_word limit s ws cs o side f around k e = onward limit s (InOperand (OperandRead o) side ws cs f around) k e (way_read limit ws cs o side f around)

way_operand : (limit : ℕ) (spot : Spot) (ws : List Waiting) (cs : List Call) (side : Side) (f : Frame) (around : List Frame) → Way limit (InOperand spot side ws cs f around)
way_operand limit OperandWanted ws cs side f around = way_word limit _ ws cs _ side f around (kinds.Name some_word) refl
way_operand limit (OperandRead o) ws cs side f around = way_read limit ws cs o side f around
way_operand limit (LayersWanted w) ws cs side f around = way_word limit _ ws cs _ side f around (kinds.LayerNumber (record { at = 0; nth = 1 })) refl
way_operand limit (MaskWanted o at) ws cs side f around = way_word limit _ ws cs _ side f around (kinds.Name some_word) refl
way_operand limit (InLayers w done at LayerWanted) ws cs side f around = onward limit _ _ (kinds.Number 1) refl (way_word limit _ ws cs _ side f around kinds.CloseBracket refl)
way_operand limit (InLayers w done at (FirstRead n)) ws cs side f around = way_word limit _ ws cs _ side f around kinds.CloseBracket refl
way_operand limit (InLayers w done at (LastWanted n)) ws cs side f around = onward limit _ _ (kinds.Number 1) refl (way_word limit _ ws cs _ side f around kinds.CloseBracket refl)
way_operand limit (InLayers w done at (LastRead n m)) ws cs side f around = way_word limit _ ws cs _ side f around kinds.CloseBracket refl
way_operand limit (InRanges o b done at RangeWanted) ws cs side f around = onward limit _ _ (kinds.Number 1) refl (way_word limit _ ws cs _ side f around kinds.CloseBracket refl)
way_operand limit (InRanges o b done at DigitsWanted) ws cs side f around = onward limit _ _ (kinds.Number 1) refl (way_word limit _ ws cs _ side f around kinds.CloseBracket refl)
way_operand limit (InRanges o b done at (PlaceRead p)) ws cs side f around = way_word limit _ ws cs _ side f around kinds.CloseBracket refl
way_operand limit (InRanges o b done at (ColonRead p)) ws cs side f around = way_word limit _ ws cs _ side f around kinds.CloseBracket refl
way_operand limit (InRanges o b done at (EndWanted p)) ws cs side f around = onward limit _ _ (kinds.Number 1) refl (way_word limit _ ws cs _ side f around kinds.CloseBracket refl)
way_operand limit (InRanges o b done at (EndDigitsWanted p)) ws cs side f around = onward limit _ _ (kinds.Number 1) refl (way_word limit _ ws cs _ side f around kinds.CloseBracket refl)
way_operand limit (InRanges o b done at CountWanted) ws cs side f around = onward limit _ _ (kinds.Number 1) refl (way_word limit _ ws cs _ side f around kinds.CloseBracket refl)
way_operand limit (InRanges o b done at (PartRead part)) ws cs side f around = way_word limit _ ws cs _ side f around kinds.CloseBracket refl

way_have : (limit : ℕ) (s : State) (lefts : List Left) (t : Written) (around : List Frame) (k : Kind) → step limit s k ≡ Go (Have lefts t around) → Way limit s
way_have limit s lefts t around k e =
    let outer = out_have limit around lefts t in
    onward limit s (Have lefts t around) k e (record { tokens = outer.tokens; filter = outer.filter; leads = outer.leads })

way_first : (limit : ℕ) (n : Bool) (done : List Element) (c : Option Choice) (o : WrittenOperand) (f : Frame) (around : List Frame) → Way limit (InTail (InSet n done ElementWanted) c o f around)
way_first limit n done c o f around = onward limit _ _ (kinds.Name some_word) refl (way_have limit _ _ _ around kinds.CloseBrace refl)

way_set : (limit : ℕ) (n : Bool) (c : Option Choice) (o : WrittenOperand) (f : Frame) (around : List Frame) → Way limit (InTail (SetWanted n) c o f around)
way_set limit n c o f around = onward limit _ _ kinds.OpenBrace refl (way_first limit n [] c o f around)

way_tail : (limit : ℕ) (spot : TailSpot) (c : Option Choice) (o : WrittenOperand) (f : Frame) (around : List Frame) → Way limit (InTail spot c o f around)
way_tail limit InWanted c o f around = onward limit _ _ kinds.In refl (way_set limit true c o f around)
way_tail limit (SetWanted n) c o f around = way_set limit n c o f around
way_tail limit (InSet n done ElementWanted) c o f around = way_first limit n done c o f around
way_tail limit (InSet n done (LiteralRead l)) c o f around = way_have limit _ _ _ around kinds.CloseBrace refl
way_tail limit (InSet n done (SecondWanted l)) c o f around = onward limit _ _ (kinds.Name some_word) refl (way_have limit _ _ _ around kinds.CloseBrace refl)
way_tail limit (InSet n done (SecondRead l m)) c o f around = way_have limit _ _ _ around kinds.CloseBrace refl
way_tail limit (PatternWanted at) c o f around = way_have limit _ _ _ around (kinds.Text some_text) refl

pub way : (limit : ℕ) (s : State) → Way limit s
way limit (Want f around) = way_word limit _ [] [] _ (OnLeft None) f around (kinds.Name some_word) refl
way limit (Have lefts t around) = let outer = out_have limit around lefts t in record { tokens = outer.tokens; filter = outer.filter; leads = outer.leads }
way limit (InOperand spot side ws cs f around) = way_operand limit spot ws cs side f around
way limit (InTail spot c o f around) = way_tail limit spot c o f around

-- a move that no limit changes, or an opening, which is too deep where so many are open already
abbrev IsSimple : Move → Type 0
IsSimple (Go s) = Unit {0}
IsSimple (Stop Unexpected) = Unit {0}
IsSimple (Stop e) = ⊥

pub data Shape (Good : ℕ → Type 0) (F : ℕ → Move) : Type 0 where
  Fixed : (m : Move) → ((limit : ℕ) → F limit ≡ m) → IsSimple m → Shape Good F
  Opening : (count : ℕ) (s : State) → ((limit : ℕ) → F limit ≡ opens limit count s) → ((limit : ℕ) → Good limit → count ≤ limit) → Shape Good F

simple_closing : (t : Written) (around : List Frame) → IsSimple (closing t around)
simple_closing t [] = tt
simple_closing t (f ∷ around) = tt

simple_behind : (lefts : List Left) (t : Written) (around : List Frame) (k : Kind) → IsSimple (behind lefts t around k)
simple_behind lefts t around (kinds.Joins j) = tt
simple_behind lefts t around kinds.Close = simple_closing (joined lefts t) around
simple_behind lefts t around k = tt

simple_alone : (c : Option Choice) (o : WrittenOperand) (f : Frame) (around : List Frame) (k : Kind) → IsSimple (left_alone c o f around k)
simple_alone None o f around k = simple_behind f.lefts (negated f.nots (AloneOf o)) around k
simple_alone (Some c) o f around k = tt

simple_not : (n : Negation) (c : Option Choice) (o : WrittenOperand) (f : Frame) (around : List Frame) → IsSimple (not_before_in n c o f around)
simple_not negations.Word c o f around = tt
simple_not negations.Sign c o f around = tt

simple_if : (t : Bool) (s : State) → IsSimple (cond t (Go s) (Stop Unexpected))
simple_if true s = tt
simple_if false s = tt

simple_left : (c : Option Choice) (o : WrittenOperand) (f : Frame) (around : List Frame) (k : Kind) → IsSimple (left_end c o f around k)
simple_left c o f around (kinds.Compares operator at) = simple_if _ (InOperand OperandWanted (OnRight c o operator at) [] [] f around)
simple_left c o f around (kinds.Negates n) = simple_not n c o f around
simple_left c o f around kinds.In = tt
simple_left c o f around (kinds.Matches at) = tt
simple_left c o f around k = simple_alone c o f around k

simple_call : (call : Call) (ws : List Waiting) (o : WrittenOperand) (side : Side) (cs : List Call) (f : Frame) (around : List Frame) (k : Kind) → IsSimple (call_end call ws o side cs f around k)
simple_call call ws o side cs f around kinds.Close = tt
simple_call call ws o side cs f around kinds.Comma = simple_if (takes_more call.function) _
simple_call call ws o side cs f around k = tt

simple_side : (side : Side) (ws : List Waiting) (cs : List Call) (o : WrittenOperand) (f : Frame) (around : List Frame) (k : Kind) → IsSimple (side_end side ws cs o f around k)
simple_side side ws (call ∷ cs) o f around k = simple_call call ws o side cs f around k
simple_side (OnLeft c) ws [] o f around k = simple_left c (all_linked ws o) f around k
simple_side (OnRight c l operator at) ws [] o f around k = simple_behind f.lefts (negated f.nots (TestOf c l (CompareOf operator at (all_linked ws o)))) around k

simple_operand : (side : Side) (ws : List Waiting) (cs : List Call) (o : WrittenOperand) (f : Frame) (around : List Frame) (k : Kind) → IsSimple (operand_end side ws cs o f around k)
simple_operand side ws cs o f around (kinds.Computes a at) = tt
simple_operand side ws cs o f around k = simple_side side ws cs o f around k

simple_tail : (next : Option TailSpot) (last : Option WrittenTail) (c : Option Choice) (o : WrittenOperand) (f : Frame) (around : List Frame) → IsSimple (tail_move next last c o f around)
simple_tail (Some spot) last c o f around = tt
simple_tail None (Some t) c o f around = tt
simple_tail None None c o f around = tt

call_shape : (Good : ℕ → Type 0) (side : Side) (ws : List Waiting) (cs : List Call) (f : Frame) (around : List Frame) (k : Kind) → ((limit : ℕ) → Good limit → length cs + open_at f around ≤ limit)
    → Shape Good (λ limit. call_begin limit side ws cs f around k)
call_shape Good side ws cs f around (kinds.Calls function at) room =
    Opening (length cs + open_at f around) (InOperand OperandWanted side [] ((record { function = function; at = at; waiting = ws }) ∷ cs) f around) (λ limit. refl) room
call_shape Good side ws cs f around k room = Fixed (Stop Unexpected) (λ limit. refl) tt

otherwise_shape : (Good : ℕ → Type 0) (spot : Spot) (side : Side) (ws : List Waiting) (cs : List Call) (f : Frame) (around : List Frame) (k : Kind) → ((limit : ℕ) → Good limit → length cs + open_at f around ≤ limit)
    → Shape Good (λ limit. otherwise limit spot side ws cs f around k)
otherwise_shape Good OperandWanted side ws cs f around k room = call_shape Good side ws cs f around k room
otherwise_shape Good (OperandRead o) side ws cs f around k room = Fixed (operand_end side ws cs o f around k) (λ limit. refl) (simple_operand side ws cs o f around k)
otherwise_shape Good spot side ws cs f around k room = Fixed (Stop Unexpected) (λ limit. refl) tt

operand_shape : (Good : ℕ → Type 0) (next : Option Spot) (spot : Spot) (side : Side) (ws : List Waiting) (cs : List Call) (f : Frame) (around : List Frame) (k : Kind) → ((limit : ℕ) → Good limit → length cs + open_at f around ≤ limit)
    → Shape Good (λ limit. operand_move limit next spot side ws cs f around k)
operand_shape Good (Some next) spot side ws cs f around k room = Fixed (Go (InOperand next side ws cs f around)) (λ limit. refl) tt
operand_shape Good None spot side ws cs f around k room = otherwise_shape Good spot side ws cs f around k room

frame_room : (f : Frame) (around : List Frame) (limit : ℕ) → IsFrame limit f around → length {A = Call} [] + open_at f around ≤ limit
frame_room f around limit is = let room = is.room in omega arith

begin_shape : (f : Frame) (around : List Frame) (k : Kind) → Shape (λ limit. IsFrame limit f around) (λ limit. begin limit f around k)
begin_shape f around (kinds.Negates n) = Opening (open_at f around) (Want (record { lefts = f.lefts; nots = n ∷ f.nots }) around) (λ limit. refl) (λ limit is. is.room)
begin_shape f around kinds.Open = Opening (open_at f around) _ (λ limit. refl) (λ limit is. is.room)
begin_shape f around (kinds.Chooses c) = Fixed (Go (InOperand OperandWanted (OnLeft (Some c)) [] [] f around)) (λ limit. refl) tt
begin_shape f around k = operand_shape (λ limit. IsFrame limit f around) (operand_step OperandWanted k) OperandWanted (OnLeft None) [] [] f around k (frame_room f around)

shape : (s : State) (k : Kind) → Shape (λ limit. IsGood limit s) (λ limit. step limit s k)
shape (Want f around) k = begin_shape f around k
shape (Have lefts t around) k = Fixed (behind lefts t around k) (λ limit. refl) (simple_behind lefts t around k)
shape (InOperand spot side ws cs f around) k =
    operand_shape (λ limit. IsGood limit (InOperand spot side ws cs f around)) (operand_step spot k) spot side ws cs f around k (λ limit is. let room = is.3 in omega arith)
shape (InTail spot c o f around) k = Fixed (tail_move (tail_step spot k) (tail_done spot k) c o f around) (λ limit. refl) (simple_tail (tail_step spot k) (tail_done spot k) c o f around)

opened : (limit count : ℕ) (s : State) → count < limit → opens limit count s ≡ Go s
opened limit count s less = let e : ltb count limit ≡ true = lt-ltb _ _ less in rw e refl

grows : (Good : ℕ → Type 0) (F : ℕ → Move) → Shape Good F → (limit more : ℕ) → limit ≤ more → (s : State) → F limit ≡ Go s → F more ≡ Go s
grows Good F (Fixed m same simple) limit more le s e = same more ∙ sym (same limit) ∙ e
grows Good F (Opening count next same room) limit more le s e =
    chosen_by (λ m. m ≡ Go s → F more ≡ Go s) (ltb count limit) (Go next) (Stop TooDeep)
    (λ less h. let small = ltb-true _ _ less in same more ∙ opened more count next (omega arith) ∙ h)
    (λ less h. cc)
    (sym (same limit) ∙ e)

stays : (Good : ℕ → Type 0) (F : ℕ → Move) → Shape Good F → (limit more : ℕ) → F limit ≡ Stop Unexpected → F more ≡ Stop Unexpected
stays Good F (Fixed m same simple) limit more e = same more ∙ sym (same limit) ∙ e
stays Good F (Opening count next same room) limit more e =
    chosen_by (λ m. m ≡ Stop Unexpected → F more ≡ Stop Unexpected) (ltb count limit) (Go next) (Stop TooDeep) (λ less h. cc) (λ less h. cc) (sym (same limit) ∙ e)

opens_later : (Good : ℕ → Type 0) (F : ℕ → Move) → Shape Good F → (limit : ℕ) → Good limit → F limit ≡ Stop TooDeep → (s : State) × (F (suc limit) ≡ Go s)
opens_later Good F (Fixed m same simple) limit good e = absurd (subst IsSimple (sym (same limit) ∙ e) simple)
opens_later Good F (Opening count next same room) limit good e = let small = room limit good in (next, same (suc limit) ∙ opened (suc limit) count next (omega arith))

only : (Good : ℕ → Type 0) (F : ℕ → Move) → Shape Good F → (limit : ℕ) (r : FilterReason) → F limit ≡ Stop r → (r ≡ Unexpected) ⊎ (r ≡ TooDeep)
only Good F (Fixed m same simple) limit r e = of_reason r (subst IsSimple (sym (same limit) ∙ e) simple)
  where
    of_reason : (x : FilterReason) → IsSimple (Stop x) → (x ≡ Unexpected) ⊎ (x ≡ TooDeep)
    of_reason Unexpected h = inl refl
    of_reason x h = absurd h
only Good F (Opening count next same room) limit r e =
    chosen_by (λ m. m ≡ Stop r → (r ≡ Unexpected) ⊎ (r ≡ TooDeep)) (ltb count limit) (Go next) (Stop TooDeep)
    (λ less h. inl cc) (λ less h. inr cc) (sym (same limit) ∙ e)

pub step_grows : (s : State) (k : Kind) (limit more : ℕ) → limit ≤ more → (next : State) → step limit s k ≡ Go next → step more s k ≡ Go next
step_grows s k limit more le next e = grows _ _ (shape s k) limit more le next e

pub step_stays : (s : State) (k : Kind) (limit more : ℕ) → step limit s k ≡ Stop Unexpected → step more s k ≡ Stop Unexpected
step_stays s k limit more e = stays _ _ (shape s k) limit more e

pub step_later : (s : State) (k : Kind) (limit : ℕ) → IsGood limit s → step limit s k ≡ Stop TooDeep → (next : State) × (step (suc limit) s k ≡ Go next)
step_later s k limit good e = opens_later _ _ (shape s k) limit good e

pub step_only : (s : State) (k : Kind) (limit : ℕ) (r : FilterReason) → step limit s k ≡ Stop r → (r ≡ Unexpected) ⊎ (r ≡ TooDeep)
step_only s k limit r e = only _ _ (shape s k) limit r e
