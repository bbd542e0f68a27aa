-- A reading of tokens from left to right, one at a time, which the proofs compare the grammar and the parser with: the
-- state behind each token, or the fault at it. What a filter is is said by the grammar alone.
use Rattle.std.specs.Prelude.{ℕ, suc, ◌+◌, Bool, true, false, nat_lt, nat_le, if◌then◌else◌, List, [], ◌∷◌, ◌++◌, length, Option, Some, None}
use Rattle.std.specs.Option.{option_map}
use Rattle.flt_syntax.specs.Grammar.{arguments, binds, binds_arithmetic, takes_mask, takes_more, takes_operator, takes_slice}
use Rattle.flt_syntax.specs.Written.{Written, WrittenOperand, WrittenTail, TextOf, NamedOf, OnLayerOf, OnLayersOf, SlicedOf, MaskedOf, CalledOf, ComputedOf, ArgumentsOf, CompareOf, InOf, MatchesOf, JoinedOf, NotOf, GroupOf, AloneOf, TestOf, word_alone}
use Rattle.flt_syntax.specs.declared.ast.Choice.{Choice}
use Rattle.flt_syntax.specs.declared.ast.Element.{Element}
use Rattle.flt_syntax.specs.declared.ast.Element.TheVariants as elements
use Rattle.flt_syntax.specs.declared.ast.Function.{Function}
use Rattle.flt_syntax.specs.declared.ast.LayerRange.{LayerRange}
use Rattle.flt_syntax.specs.declared.ast.Literal.{Literal}
use Rattle.flt_syntax.specs.declared.ast.Literal.TheVariants as literals
use Rattle.flt_syntax.specs.declared.ast.Negation.{Negation}
use Rattle.flt_syntax.specs.declared.ast.Negation.TheVariants as negations
use Rattle.flt_syntax.specs.declared.ast.Operator.{Operator}
use Rattle.flt_syntax.specs.declared.ast.Place.{Place}
use Rattle.flt_syntax.specs.declared.ast.RangePart.{RangePart}
use Rattle.flt_syntax.specs.declared.ast.RangePart.TheVariants as parts
use Rattle.flt_syntax.specs.declared.ast.SliceRange.{SliceRange}
use Rattle.flt_syntax.specs.declared.fault.FilterReason.{FilterReason}
use Rattle.flt_syntax.specs.declared.fault.FilterReason.TheVariants.{Unexpected, TooDeep}
pub use Rattle.flt_parse.specs.declared.state.ElementSpot.{ElementSpot}
pub use Rattle.flt_parse.specs.declared.state.ElementSpot.TheVariants.{ElementWanted, LiteralRead, SecondWanted, SecondRead}
pub use Rattle.flt_parse.specs.declared.state.LayerSpot.{LayerSpot}
pub use Rattle.flt_parse.specs.declared.state.LayerSpot.TheVariants.{LayerWanted, FirstRead, LastWanted, LastRead}
pub use Rattle.flt_parse.specs.declared.state.Link.{Link}
pub use Rattle.flt_parse.specs.declared.state.Link.TheVariants.{Comma, Sign}
pub use Rattle.flt_parse.specs.declared.state.RangeSpot.{RangeSpot}
pub use Rattle.flt_parse.specs.declared.state.RangeSpot.TheVariants.{RangeWanted, DigitsWanted, PlaceRead, ColonRead, EndWanted, EndDigitsWanted, CountWanted, PartRead}
use Rattle.flt_syntax.specs.declared.token.Join.{Join}
use Rattle.flt_syntax.specs.declared.token.Kind.{Kind}
use Rattle.flt_syntax.specs.declared.token.Kind.TheVariants as kinds
use Rattle.flt_syntax.specs.declared.word.Word.{Word}

-- a filter that waits for what stands to the right of its sign
pub data Left : Type 0 where
  LeftOf : (l : Written) (j : Join) → Left

-- what is open in one pair of parentheses: the filters that wait, and the negations before what is read, the last first
pub record Frame : Type 0 where
  pub lefts : List Left
  pub nots : List Negation

-- an operand that waits for what stands to the right of its sign, or of its comma
pub data Waiting : Type 0 where
  WaitingFor : (l : WrittenOperand) (j : Link) → Waiting

-- a function whose `)` isn't read, and the operands that wait around its call
pub record Call : Type 0 where
  pub function : Function
  pub at : ℕ
  pub waiting : List Waiting

-- which operand of a test is read
pub data Side : Type 0 where
  OnLeft : (c : Option Choice) → Side
  OnRight : (c : Option Choice) (l : WrittenOperand) (operator : Operator) (at : ℕ) → Side

-- how far an operand is read
pub data Spot : Type 0 where
  OperandWanted : Spot
  OperandRead : (o : WrittenOperand) → Spot
  LayersWanted : (w : Word) → Spot
  InLayers : (w : Word) (done : List LayerRange) (at : ℕ) (spot : LayerSpot) → Spot
  InRanges : (o : WrittenOperand) (bracket : ℕ) (done : List SliceRange) (at : ℕ) (spot : RangeSpot)
      → Spot
  MaskWanted : (o : WrittenOperand) (at : ℕ) → Spot

-- how far what follows the left operand is read
pub data TailSpot : Type 0 where
  InWanted : TailSpot
  SetWanted : (negated : Bool) → TailSpot
  InSet : (negated : Bool) (done : List Element) (spot : ElementSpot) → TailSpot
  PatternWanted : (at : ℕ) → TailSpot

-- how far a filter is read, and what is open around it
pub data State : Type 0 where
  Want : (f : Frame) (around : List Frame) → State
  Have : (lefts : List Left) (t : Written) (around : List Frame) → State
  InOperand : (spot : Spot) (side : Side) (waiting : List Waiting) (calls : List Call) (f : Frame)
      (around : List Frame) → State
  InTail : (spot : TailSpot) (c : Option Choice) (o : WrittenOperand) (f : Frame)
      (around : List Frame) → State

pub data Move : Type 0 where
  Go : (s : State) → Move
  Stop : (e : FilterReason) → Move

-- ranges of layers
abbrev pub layers_end : Word → List LayerRange → Kind → Option Spot
layers_end w done (kinds.NextRange next) = Some (InLayers w done next LayerWanted)
layers_end w done kinds.CloseBracket = Some (OperandRead (OnLayersOf w done))
layers_end w done kind = None

abbrev pub layers_step : Word → List LayerRange → ℕ → LayerSpot → Kind → Option Spot
layers_step w done at LayerWanted (kinds.Number n) = Some (InLayers w done at (FirstRead n))
layers_step w done at (FirstRead n) kinds.Minus = Some (InLayers w done at (LastWanted n))
layers_step w done at (FirstRead n) kind =
    layers_end w (done ++ (record { at = at; first = n; last = None }) ∷ []) kind
layers_step w done at (LastWanted n) (kinds.Number m) = Some (InLayers w done at (LastRead n m))
layers_step w done at (LastRead n m) kind =
    layers_end w (done ++ (record { at = at; first = n; last = Some m }) ∷ []) kind
layers_step w done at spot kind = None

-- ranges of bytes
abbrev pub ranges_end : WrittenOperand → ℕ → List SliceRange → Kind → Option Spot
ranges_end o bracket done (kinds.NextRange next) = Some (InRanges o bracket done next RangeWanted)
ranges_end o bracket done kinds.CloseBracket = Some (OperandRead (SlicedOf o bracket done))
ranges_end o bracket done kind = None

abbrev pub with_part : ℕ → List SliceRange → RangePart → List SliceRange
with_part at done part = done ++ (record { at = at; part = part }) ∷ []

abbrev pub forward : ℕ → Place
forward n = record { from_end = false; offset = n }

abbrev pub backward : ℕ → Place
backward n = record { from_end = true; offset = n }

abbrev pub ranges_step : WrittenOperand → ℕ → List SliceRange → ℕ → RangeSpot → Kind → Option Spot
ranges_step o bracket done at RangeWanted (kinds.Number n) =
    Some (InRanges o bracket done at (PlaceRead (forward n)))
ranges_step o bracket done at RangeWanted kinds.Minus =
    Some (InRanges o bracket done at DigitsWanted)
ranges_step o bracket done at RangeWanted kinds.Colon =
    Some (InRanges o bracket done at CountWanted)
ranges_step o bracket done at DigitsWanted (kinds.Number n) =
    Some (InRanges o bracket done at (PlaceRead (backward n)))
ranges_step o bracket done at (PlaceRead p) kinds.Colon =
    Some (InRanges o bracket done at (ColonRead p))
ranges_step o bracket done at (PlaceRead p) kinds.Minus =
    Some (InRanges o bracket done at (EndWanted p))
ranges_step o bracket done at (PlaceRead p) kind =
    ranges_end o bracket (with_part at done (parts.One p)) kind
ranges_step o bracket done at (ColonRead p) (kinds.Number n) =
    Some (InRanges o bracket done at (PartRead (parts.Counted p n)))
ranges_step o bracket done at (ColonRead p) kind =
    ranges_end o bracket (with_part at done (parts.ToEnd p)) kind
ranges_step o bracket done at (EndWanted p) (kinds.Number n) =
    Some (InRanges o bracket done at (PartRead (parts.Between p (forward n))))
ranges_step o bracket done at (EndWanted p) kinds.Minus =
    Some (InRanges o bracket done at (EndDigitsWanted p))
ranges_step o bracket done at (EndDigitsWanted p) (kinds.Number n) =
    Some (InRanges o bracket done at (PartRead (parts.Between p (backward n))))
ranges_step o bracket done at CountWanted (kinds.Number n) =
    Some (InRanges o bracket done at (PartRead (parts.Front n)))
ranges_step o bracket done at (PartRead part) kind =
    ranges_end o bracket (with_part at done part) kind
ranges_step o bracket done at spot kind = None

-- an operand, as far as no call opens or ends
abbrev pub behind_hash : WrittenOperand → Option Spot
behind_hash o = option_map (λ w. LayersWanted w) (word_alone o)

abbrev pub operand_step : Spot → Kind → Option Spot
operand_step OperandWanted (kinds.Text q) = Some (OperandRead (TextOf q))
operand_step OperandWanted (kinds.Name w) = Some (OperandRead (NamedOf w))
operand_step (OperandRead o) kinds.Hash = behind_hash o
operand_step (OperandRead o) (kinds.OpenRanges at next) =
    if takes_slice o then Some (InRanges o at [] next RangeWanted) else None
operand_step (OperandRead o) (kinds.Mask at) = if takes_mask o then Some (MaskWanted o at) else None
operand_step (LayersWanted w) (kinds.LayerNumber l) = Some (OperandRead (OnLayerOf w l))
operand_step (LayersWanted w) (kinds.OpenLayers next) = Some (InLayers w [] next LayerWanted)
operand_step (InLayers w done at spot) kind = layers_step w done at spot kind
operand_step (InRanges o bracket done at spot) kind = ranges_step o bracket done at spot kind
operand_step (MaskWanted o at) (kinds.Name w) = Some (OperandRead (MaskedOf o at w))
operand_step spot kind = None

-- two operands, joined
abbrev pub linked : Link → WrittenOperand → WrittenOperand → WrittenOperand
linked Comma l r = ArgumentsOf l r
linked (Sign a at) l r = ComputedOf a at l r

abbrev pub binds_link : Link → ℕ
binds_link Comma = arguments
binds_link (Sign a at) = binds_arithmetic a

-- before a sign or a comma, what binds at least as tightly is joined
abbrev pub wait : Link → List Waiting → WrittenOperand → List Waiting
wait j [] o = WaitingFor o j ∷ []
wait j (WaitingFor l i ∷ ws) o =
    if nat_le (binds_link j) (binds_link i) then wait j ws (linked i l o)
    else WaitingFor o j ∷ WaitingFor l i ∷ ws

-- at the end of an operand, all is joined
abbrev pub all_linked : List Waiting → WrittenOperand → WrittenOperand
all_linked [] o = o
all_linked (WaitingFor l i ∷ ws) o = all_linked ws (linked i l o)

-- what a filter becomes behind its negations
abbrev pub negated : List Negation → Written → Written
negated [] t = t
negated (n ∷ ns) t = negated ns (NotOf n t)

-- before a sign, what binds at least as tightly is joined
abbrev pub settle : Join → List Left → Written → List Left
settle j [] t = LeftOf t j ∷ []
settle j (LeftOf l i ∷ lefts) t =
    if nat_le (binds j) (binds i) then settle j lefts (JoinedOf i l t)
    else LeftOf t j ∷ LeftOf l i ∷ lefts

-- at the end, all is joined
abbrev pub joined : List Left → Written → Written
joined [] t = t
joined (LeftOf l i ∷ lefts) t = joined lefts (JoinedOf i l t)

abbrev pub have : Frame → List Frame → Written → State
have f around t = Have f.lefts (negated f.nots t) around

-- how many parentheses and negations are open
abbrev pub open_around : List Frame → ℕ
open_around [] = 0
open_around (f ∷ around) = suc (length f.nots + open_around around)

abbrev pub open_at : Frame → List Frame → ℕ
open_at f around = length f.nots + open_around around

abbrev pub opens : ℕ → ℕ → State → Move
opens limit count s = if nat_lt count limit then Go s else Stop TooDeep

-- behind a filter
abbrev pub closing : Written → List Frame → Move
closing t [] = Stop Unexpected
closing t (f ∷ around) = Go (have f around (GroupOf t))

abbrev pub behind : List Left → Written → List Frame → Kind → Move
behind lefts t around (kinds.Joins j) =
    Go (Want (record { lefts = settle j lefts t; nots = [] }) around)
behind lefts t around kinds.Close = closing (joined lefts t) around
behind lefts t around kind = Stop Unexpected

-- what follows the left operand
abbrev pub literal_step : Kind → (Literal → Option TailSpot) → Option TailSpot
literal_step (kinds.Name w) go = go (literals.Bare w)
literal_step (kinds.Text q) go = go (literals.Text q)
literal_step kind go = None

abbrev pub set_step : Bool → List Element → ElementSpot → Kind → Option TailSpot
set_step n done ElementWanted kind = literal_step kind (λ l. Some (InSet n done (LiteralRead l)))
set_step n done (LiteralRead l) kinds.DotDot = Some (InSet n done (SecondWanted l))
set_step n done (LiteralRead l) kinds.Comma =
    Some (InSet n (done ++ elements.One l ∷ []) ElementWanted)
set_step n done (SecondWanted l) kind =
    literal_step kind (λ m. Some (InSet n done (SecondRead l m)))
set_step n done (SecondRead l m) kinds.Comma =
    Some (InSet n (done ++ elements.Between l m ∷ []) ElementWanted)
set_step n done spot kind = None

abbrev pub tail_step : TailSpot → Kind → Option TailSpot
tail_step InWanted kinds.In = Some (SetWanted true)
tail_step (SetWanted n) kinds.OpenBrace = Some (InSet n [] ElementWanted)
tail_step (InSet n done spot) kind = set_step n done spot kind
tail_step spot kind = None

abbrev pub set_done : Bool → List Element → ElementSpot → Option WrittenTail
set_done n done (LiteralRead l) = Some (InOf n (done ++ elements.One l ∷ []))
set_done n done (SecondRead l m) = Some (InOf n (done ++ elements.Between l m ∷ []))
set_done n done spot = None

abbrev pub tail_done : TailSpot → Kind → Option WrittenTail
tail_done (InSet n done spot) kinds.CloseBrace = set_done n done spot
tail_done (PatternWanted at) (kinds.Text q) = Some (MatchesOf at q)
tail_done spot kind = None

abbrev pub tail_move : Option TailSpot → Option WrittenTail → Option Choice → WrittenOperand → Frame
    → List Frame → Move
tail_move (Some spot) last c o f around = Go (InTail spot c o f around)
tail_move None (Some tail) c o f around = Go (have f around (TestOf c o tail))
tail_move None None c o f around = Stop Unexpected

-- behind an operand
abbrev pub not_before_in : Negation → Option Choice → WrittenOperand → Frame → List Frame → Move
not_before_in negations.Word c o f around = Go (InTail InWanted c o f around)
not_before_in negations.Sign c o f around = Stop Unexpected

abbrev pub left_alone : Option Choice → WrittenOperand → Frame → List Frame → Kind → Move
left_alone None o f around kind = behind f.lefts (negated f.nots (AloneOf o)) around kind
left_alone (Some c) o f around kind = Stop Unexpected

abbrev pub left_end : Option Choice → WrittenOperand → Frame → List Frame → Kind → Move
left_end c o f around (kinds.Compares operator at) =
    if takes_operator c operator
    then Go (InOperand OperandWanted (OnRight c o operator at) [] [] f around)
    else Stop Unexpected
left_end c o f around (kinds.Negates n) = not_before_in n c o f around
left_end c o f around kinds.In = Go (InTail (SetWanted false) c o f around)
left_end c o f around (kinds.Matches at) = Go (InTail (PatternWanted at) c o f around)
left_end c o f around kind = left_alone c o f around kind

abbrev pub call_end : Call → List Waiting → WrittenOperand → Side → List Call → Frame → List Frame
    → Kind → Move
call_end call ws o side calls f around kinds.Close =
    Go (InOperand (OperandRead (CalledOf call.function call.at (all_linked ws o))) side call.waiting
    calls f around)
call_end call ws o side calls f around kinds.Comma =
    if takes_more call.function
    then Go (InOperand OperandWanted side (wait Comma ws o) (call ∷ calls) f around)
    else Stop Unexpected
call_end call ws o side calls f around kind = Stop Unexpected

abbrev pub side_end : Side → List Waiting → List Call → WrittenOperand → Frame → List Frame → Kind
    → Move
side_end side ws (call ∷ calls) o f around kind = call_end call ws o side calls f around kind
side_end (OnLeft c) ws [] o f around kind = left_end c (all_linked ws o) f around kind
side_end (OnRight c l operator at) ws [] o f around kind =
    behind f.lefts (negated f.nots (TestOf c l (CompareOf operator at (all_linked ws o)))) around
    kind

abbrev pub operand_end : Side → List Waiting → List Call → WrittenOperand → Frame → List Frame
    → Kind → Move
operand_end side ws calls o f around (kinds.Computes a at) =
    Go (InOperand OperandWanted side (wait (Sign a at) ws o) calls f around)
operand_end side ws calls o f around kind = side_end side ws calls o f around kind

abbrev pub call_begin : ℕ → Side → List Waiting → List Call → Frame → List Frame → Kind → Move
call_begin limit side ws calls f around (kinds.Calls function at) =
    opens limit (length calls + open_at f around)
    (InOperand OperandWanted side []
    ((record { function = function; at = at; waiting = ws }) ∷ calls) f around)
call_begin limit side ws calls f around kind = Stop Unexpected

abbrev pub otherwise : ℕ → Spot → Side → List Waiting → List Call → Frame → List Frame → Kind → Move
otherwise limit OperandWanted side ws calls f around kind =
    call_begin limit side ws calls f around kind
otherwise limit (OperandRead o) side ws calls f around kind =
    operand_end side ws calls o f around kind
otherwise limit spot side ws calls f around kind = Stop Unexpected

abbrev pub operand_move : ℕ → Option Spot → Spot → Side → List Waiting → List Call → Frame
    → List Frame → Kind → Move
operand_move limit (Some next) spot side ws calls f around kind =
    Go (InOperand next side ws calls f around)
operand_move limit None spot side ws calls f around kind =
    otherwise limit spot side ws calls f around kind

-- where a filter begins
abbrev pub no_frame : Frame
no_frame = record { lefts = []; nots = [] }

abbrev pub begin : ℕ → Frame → List Frame → Kind → Move
begin limit f around (kinds.Negates n) =
    opens limit (open_at f around) (Want (record { lefts = f.lefts; nots = n ∷ f.nots }) around)
begin limit f around kinds.Open = opens limit (open_at f around) (Want no_frame (f ∷ around))
begin limit f around (kinds.Chooses c) =
    Go (InOperand OperandWanted (OnLeft (Some c)) [] [] f around)
begin limit f around kind =
    operand_move limit (operand_step OperandWanted kind) OperandWanted
    (OnLeft None) [] [] f around kind

abbrev pub step : ℕ → State → Kind → Move
step limit (Want f around) kind = begin limit f around kind
step limit (Have lefts t around) kind = behind lefts t around kind
step limit (InOperand spot side ws calls f around) kind =
    operand_move limit (operand_step spot kind) spot side ws calls f around kind
step limit (InTail spot c o f around) kind =
    tail_move (tail_step spot kind) (tail_done spot kind) c o f around

-- the filter that is read where the tokens end
abbrev pub whole_have : Written → List Frame → Option Written
whole_have t [] = Some t
whole_have t (f ∷ around) = None

abbrev pub whole_test : Side → WrittenOperand → Frame → List Frame → Option Written
whole_test (OnLeft None) o f around =
    whole_have (joined f.lefts (negated f.nots (AloneOf o))) around
whole_test (OnLeft (Some c)) o f around = None
whole_test (OnRight c l operator at) o f around =
    whole_have (joined f.lefts (negated f.nots (TestOf c l (CompareOf operator at o)))) around

abbrev pub whole_operand : Spot → List Waiting → List Call → Side → Frame → List Frame
    → Option Written
whole_operand (OperandRead o) ws [] side f around = whole_test side (all_linked ws o) f around
whole_operand spot ws calls side f around = None

abbrev pub whole : State → Option Written
whole (Have lefts t around) = whole_have (joined lefts t) around
whole (InOperand spot side ws calls f around) = whole_operand spot ws calls side f around
whole s = None

-- the filter, or the fault and the tokens from it on
pub data Answer (A : Type 0) : Type 0 where
  Whole : (t : Written) → Answer A
  Bad : (e : FilterReason) (rest : List A) → Answer A

abbrev pub ended : {A : Type 0} → Option Written → Answer A
ended None = Bad Unexpected []
ended (Some t) = Whole t

abbrev pub then_go : {A : Type 0} → Move → (State → Answer A) → (FilterReason → Answer A) → Answer A
then_go (Go s) go stop = go s
then_go (Stop e) go stop = stop e

-- the tokens read from a state on
abbrev pub read : {A : Type 0} → (A → Kind) → ℕ → State → List A → Answer A
read kind limit s [] = ended (whole s)
read kind limit s (t ∷ ts) =
    then_go (step limit s (kind t)) (λ next. read kind limit next ts) (λ e. Bad e (t ∷ ts))

abbrev pub start : State
start = Want no_frame []
