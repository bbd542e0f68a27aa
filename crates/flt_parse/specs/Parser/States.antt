-- The parser's state as the reading's, without the places in memory of its parts.
use Rattle.std.specs.Prelude.{◌≡◌, ℕ, List, [], ◌∷◌, ◌++◌, Option, Some, None, Result, Ok, Err}
use Rattle.flt_syntax.specs.Filters.{most_open}
use Rattle.flt_parse.specs.Parser.Answers.{further}
use Rattle.flt_parse.specs.Parser.Reading as reading
use Rattle.flt_syntax.specs.Written.{OnLayersOf, SlicedOf, Written, WrittenOperand, WrittenTail, operand_of, tail_of, written}
use Rattle.flt_syntax.specs.declared.ast.Ast.{Ast}
use Rattle.flt_syntax.specs.declared.fault.FilterReason.TheVariants.{Unexpected}
use Rattle.flt_syntax.specs.declared.ast.LayerRange.{LayerRange}
use Rattle.flt_syntax.specs.declared.ast.SliceRange.{SliceRange}
use Rattle.flt_parse.specs.declared.operands.LayerMove.{LayerMove}
use Rattle.flt_parse.specs.declared.operands.LayerMove.TheVariants as layers
use Rattle.flt_parse.specs.declared.operands.RangeMove.{RangeMove}
use Rattle.flt_parse.specs.declared.operands.RangeMove.TheVariants as ranges
use Rattle.flt_parse.specs.declared.state.Behind.{Behind}
use Rattle.flt_parse.specs.declared.state.Call.{Call}
use Rattle.flt_parse.specs.declared.state.Frame.{Frame}
use Rattle.flt_parse.specs.declared.state.Inside.{Inside}
use Rattle.flt_parse.specs.declared.state.Left.{Left}
use Rattle.flt_parse.specs.declared.state.LeftSide.{LeftSide}
use Rattle.flt_parse.specs.declared.state.Open.{Open}
use Rattle.flt_parse.specs.declared.state.Part.{Part}
use Rattle.flt_parse.specs.declared.state.Part.TheVariants.{LayersWanted, InLayers, InRanges, MaskWanted}
use Rattle.flt_parse.specs.declared.state.RangeSpot.{RangeSpot}
use Rattle.flt_parse.specs.declared.state.Refusal.{Refusal}
use Rattle.flt_parse.specs.declared.state.Refusal.TheVariants.{Fault, NoMemory}
use Rattle.flt_parse.specs.declared.state.Side.{Side}
use Rattle.flt_parse.specs.declared.state.Side.TheVariants.{OnLeft, OnRight}
use Rattle.flt_parse.specs.declared.state.Slice.{Slice}
use Rattle.flt_parse.specs.declared.state.Spot.{Spot}
use Rattle.flt_parse.specs.declared.state.Spot.TheVariants.{Wanted, Read, Within}
use Rattle.flt_parse.specs.declared.state.State.{State}
use Rattle.flt_parse.specs.declared.state.State.TheVariants.{Want, Have, InOperand, InTail}
use Rattle.flt_parse.specs.declared.state.TailMove.{TailMove}
use Rattle.flt_parse.specs.declared.state.TailMove.TheVariants.{Further, Done, Wrong}
use Rattle.flt_parse.specs.declared.state.TailSpot.{TailSpot}
use Rattle.flt_parse.specs.declared.state.TailSpot.TheVariants.{InWanted, SetWanted, InSet, PatternWanted}
use Rattle.flt_parse.specs.declared.state.Waiting.{Waiting}
use Rattle.flt_syntax.specs.declared.token.Kind.{Kind}
use Rattle.flt_syntax.specs.declared.word.Word.{Word}

-- a list whose last is the first
abbrev pub reversed : {A B : Type 0} → (A → B) → List A → List B
reversed f [] = []
reversed f (x ∷ xs) = reversed f xs ++ f x ∷ []

abbrev pub left_of : Left → reading.Left
left_of l = reading.LeftOf (written l.filter) l.join

abbrev pub frame_of : Frame → reading.Frame
frame_of f =
    record { lefts = reversed left_of f.lefts.items; nots = reversed (λ n. n) f.nots.items }

abbrev pub around_of : List Frame → List reading.Frame
around_of fs = reversed frame_of fs

abbrev pub waiting_of : List Waiting → List reading.Waiting
waiting_of ws = reversed (λ w. reading.WaitingFor (operand_of w.operand) w.link) ws

abbrev pub call_of : Call → reading.Call
call_of c = record { function = c.function; at = c.at; waiting = waiting_of c.waiting.items }

abbrev pub calls_of : List Call → List reading.Call
calls_of cs = reversed call_of cs

abbrev pub side_of : Side → reading.Side
side_of (OnLeft c) = reading.OnLeft c
side_of (OnRight c l operator at) = reading.OnRight c (operand_of l) operator at

-- the range of a slice that is read
abbrev pub range_spot : Slice → ℕ → RangeSpot → reading.Spot
range_spot slice at spot =
    reading.InRanges (operand_of slice.operand) slice.bracket slice.done.items at spot

abbrev pub part_of : Part → reading.Spot
part_of (LayersWanted w) = reading.LayersWanted w
part_of (InLayers w done at spot) = reading.InLayers w done.items at spot
part_of (InRanges slice at spot) = range_spot slice at spot
part_of (MaskWanted o at) = reading.MaskWanted (operand_of o) at

abbrev pub spot_of : Spot → reading.Spot
spot_of Wanted = reading.OperandWanted
spot_of (Read o) = reading.OperandRead (operand_of o)
spot_of (Within part) = part_of part

abbrev pub tail_spot_of : TailSpot → reading.TailSpot
tail_spot_of InWanted = reading.InWanted
tail_spot_of (SetWanted n) = reading.SetWanted n
tail_spot_of (InSet n done spot) = reading.InSet n done.items spot
tail_spot_of (PatternWanted at) = reading.PatternWanted at

-- a filter that begins
abbrev pub want : Open → reading.State
want outer = reading.Want (frame_of outer.frame) (around_of outer.around.items)

-- a filter behind which more may come, and the negations before it
abbrev pub behind_of : Open → Written → reading.State
behind_of outer t = reading.have (frame_of outer.frame) (around_of outer.around.items) t

-- a filter behind which more may come
abbrev pub have_of : Behind → reading.State
have_of b = reading.Have (reversed left_of b.lefts.items) (written b.filter)
    (around_of b.around.items)

-- what waits before a filter, and what is open around it, is the same behind its negations
abbrev pub IsBehind : Open → Written → Behind → Type 0
IsBehind outer t b = (b.lefts.items ≡ outer.frame.lefts.items)
    × (written b.filter ≡ reading.negated (reversed (λ n. n) outer.frame.nots.items) t)
    × (b.around.items ≡ outer.around.items)

-- an operand
abbrev pub in_spot : reading.Spot → Inside → reading.State
in_spot spot i = reading.InOperand spot (side_of i.side) (waiting_of i.waiting.items)
    (calls_of i.calls.items) (frame_of i.outer.frame) (around_of i.outer.around.items)

-- what follows a left operand
abbrev pub in_tail : reading.TailSpot → LeftSide → reading.State
in_tail spot l = reading.InTail spot l.choice (operand_of l.operand) (frame_of l.outer.frame)
    (around_of l.outer.around.items)

abbrev pub state_of : State → reading.State
state_of (Want outer) = want outer
state_of (Have b) = have_of b
state_of (InOperand spot inside) = in_spot (spot_of spot) inside
state_of (InTail spot l) = in_tail (tail_spot_of spot) l

-- where a token in a range leads
abbrev pub layers_moved : Word → List LayerRange → ℕ → LayerMove → Option reading.Spot
layers_moved w done at (layers.On spot) = Some (reading.InLayers w done at spot)
layers_moved w done at (layers.Next range next) =
    Some (reading.InLayers w (done ++ range ∷ []) next reading.LayerWanted)
layers_moved w done at (layers.End range) =
    Some (reading.OperandRead (OnLayersOf w (done ++ range ∷ [])))
layers_moved w done at layers.Wrong = None

abbrev pub ranges_moved : WrittenOperand → ℕ → List SliceRange → ℕ → RangeMove
    → Option reading.Spot
ranges_moved o bracket done at (ranges.On spot) = Some (reading.InRanges o bracket done at spot)
ranges_moved o bracket done at (ranges.Next part next) =
    Some (reading.InRanges o bracket (reading.with_part at done part) next reading.RangeWanted)
ranges_moved o bracket done at (ranges.End part) =
    Some (reading.OperandRead (SlicedOf o bracket (reading.with_part at done part)))
ranges_moved o bracket done at ranges.Wrong = None

abbrev pub IsRangeMove : RangeSpot → Kind → RangeMove → Type 0
IsRangeMove spot kind m = (o : WrittenOperand) (bracket : ℕ) (done : List SliceRange) (at : ℕ)
    → reading.ranges_step o bracket done at spot kind ≡ ranges_moved o bracket done at m

-- the reading's moves at an operand, which goes on or ends, by what is open around it
abbrev pub step_in : reading.Spot → Inside → Kind → reading.Move
step_in spot i kind = reading.step most_open (in_spot spot i) kind

abbrev pub further_in : Option reading.Spot → Inside → reading.Move
further_in next i = further next (side_of i.side) (waiting_of i.waiting.items)
    (calls_of i.calls.items) (frame_of i.outer.frame) (around_of i.outer.around.items)

abbrev pub call_end_in : reading.Call → WrittenOperand → Inside → Kind → reading.Move
call_end_in call o i kind =
    reading.call_end call (waiting_of i.waiting.items) o (side_of i.side) (calls_of i.calls.items)
    (frame_of i.outer.frame) (around_of i.outer.around.items) kind

abbrev pub level_end_in : WrittenOperand → Inside → Kind → reading.Move
level_end_in o i kind =
    reading.side_end (side_of i.side) (waiting_of i.waiting.items) (calls_of i.calls.items) o
    (frame_of i.outer.frame) (around_of i.outer.around.items) kind

abbrev pub side_end_in : reading.Side → WrittenOperand → Open → Kind → reading.Move
side_end_in side o outer kind =
    reading.side_end side [] [] o (frame_of outer.frame) (around_of outer.around.items) kind

-- an operand behind a sign or a comma
abbrev pub link_in : reading.Link → WrittenOperand → Inside → reading.State
link_in link o i =
    reading.InOperand reading.OperandWanted (side_of i.side)
    (reading.wait link (waiting_of i.waiting.items) o) (calls_of i.calls.items)
    (frame_of i.outer.frame) (around_of i.outer.around.items)

-- a token behind a filter
abbrev pub behind_in : Behind → Kind → reading.Move
behind_in b kind = reading.behind (reversed left_of b.lefts.items) (written b.filter)
    (around_of b.around.items) kind

-- a token behind a left operand
abbrev pub left_end_in : LeftSide → Kind → reading.Move
left_end_in l kind = reading.left_end l.choice (operand_of l.operand) (frame_of l.outer.frame)
    (around_of l.outer.around.items) kind

abbrev pub left_alone_in : LeftSide → Kind → reading.Move
left_alone_in l kind = reading.left_alone l.choice (operand_of l.operand) (frame_of l.outer.frame)
    (around_of l.outer.around.items) kind

-- what a step of the parser answers, where memory allows
abbrev pub IsMove : reading.Move → Result State Refusal → Type 0
IsMove m (Ok s) = m ≡ reading.Go (state_of s)
IsMove m (Err (Fault r)) = m ≡ reading.Stop r
IsMove m (Err NoMemory) = Unit {0}

abbrev pub IsSpot : Option reading.Spot → Result (Option Spot) Refusal → Type 0
IsSpot next (Ok (Some s)) = next ≡ Some (spot_of s)
IsSpot next (Ok None) = next ≡ None
IsSpot next (Err (Fault r)) = ⊥
IsSpot next (Err NoMemory) = Unit {0}

-- what follows a left operand, where memory allows: further on, the whole of it, or neither
abbrev pub IsTailMove : Option reading.TailSpot → Option WrittenTail → Result TailMove Refusal
    → Type 0
IsTailMove next last (Ok (Further s)) = next ≡ Some (tail_spot_of s)
IsTailMove next last (Ok (Done t)) = (next ≡ None) × (last ≡ Some (tail_of t))
IsTailMove next last (Ok Wrong) = (next ≡ None) × (last ≡ None)
IsTailMove next last (Err (Fault r)) = ⊥
IsTailMove next last (Err NoMemory) = Unit {0}

-- a filter that is read, where memory allows
abbrev pub IsWhole : Option Written → Result Ast Refusal → Type 0
IsWhole t (Ok filter) = t ≡ Some (written filter)
IsWhole t (Err (Fault r)) = (t ≡ None) × (r ≡ Unexpected)
IsWhole t (Err NoMemory) = Unit {0}
