-- The tokens that lead to a state of the reading, and what holds of every state that is reached.
use Rattle.std.proofs.Common.{◌≡◌, ℕ, ◌+◌, ◌<◌, ◌≤◌, true, List, [], ◌∷◌, ◌++◌, length, append_assoc, sym, ap, ◌∙◌, refl}
use Rattle.flt_syntax.specs.Grammar.{IsFilled, IsGrouped, IsOperand, IsTestOperand, binds, calls, choice, depth, element, layer_range, layers, least_in, literal, more_elements, more_layers, more_ranges, not_before, operand, part, place, range, ranges, set, spelled, strength, sum, takes_mask, takes_operator, takes_slice, tightness, unary}
use Rattle.flt_parse.specs.Parser.Reading.{Left, LeftOf, Frame, Waiting, WaitingFor, Link, Comma, Sign, Call, Side, OnLeft, OnRight, LayerSpot, LayerWanted, FirstRead, LastWanted, LastRead, RangeSpot, RangeWanted, DigitsWanted, PlaceRead, ColonRead, EndWanted, EndDigitsWanted, CountWanted, PartRead, Spot, OperandWanted, OperandRead, LayersWanted, InLayers, InRanges, MaskWanted, ElementSpot, ElementWanted, LiteralRead, SecondWanted, SecondRead, TailSpot, InWanted, SetWanted, InSet, PatternWanted, State, Want, Have, InOperand, InTail, binds_link, open_around, open_at}
use Rattle.flt_syntax.specs.declared.ast.Element.{Element}
use Rattle.flt_syntax.specs.declared.ast.LayerRange.{LayerRange}
use Rattle.flt_syntax.specs.declared.ast.Negation.{Negation}
use Rattle.flt_syntax.specs.declared.ast.Negation.TheVariants as negations
use Rattle.flt_syntax.specs.declared.ast.SliceRange.{SliceRange}
use Rattle.flt_syntax.specs.declared.token.Kind.{Kind}
use Rattle.flt_syntax.specs.declared.token.Kind.TheVariants as kinds

abbrev pub print_lefts : List Left → List Kind
print_lefts [] = []
print_lefts (LeftOf l j ∷ lefts) = print_lefts lefts ++ (spelled l ++ kinds.Joins j ∷ [])

abbrev pub print_nots : List Negation → List Kind
print_nots [] = []
print_nots (n ∷ ns) = print_nots ns ++ kinds.Negates n ∷ []

abbrev pub print_frame : Frame → List Kind
print_frame f = print_lefts f.lefts ++ print_nots f.nots

abbrev pub print_around : List Frame → List Kind
print_around [] = []
print_around (f ∷ k) = print_around k ++ (print_frame f ++ kinds.Open ∷ [])

abbrev pub print_side : Side → List Kind
print_side (OnLeft c) = choice c
print_side (OnRight c l operator at) = choice c ++ (operand l ++ kinds.Compares operator at ∷ [])

abbrev pub link_kind : Link → Kind
link_kind Comma = kinds.Comma
link_kind (Sign a at) = kinds.Computes a at

abbrev pub print_waiting : List Waiting → List Kind
print_waiting [] = []
print_waiting (WaitingFor l j ∷ ws) = print_waiting ws ++ (operand l ++ link_kind j ∷ [])

abbrev pub print_calls : List Call → List Kind
print_calls [] = []
print_calls (call ∷ cs) = print_calls cs ++ (print_waiting call.waiting ++ kinds.Calls call.function call.at ∷ [])

-- ranges of layers before the one that is read
abbrev pub layers_between : List LayerRange → ℕ → List Kind
layers_between [] at = kinds.NextRange at ∷ []
layers_between (r ∷ rs) at = kinds.NextRange r.at ∷ (layer_range r ++ layers_between rs at)

abbrev pub layers_before : List LayerRange → ℕ → List Kind
layers_before [] at = kinds.OpenLayers at ∷ []
layers_before (r ∷ rs) at = kinds.OpenLayers r.at ∷ (layer_range r ++ layers_between rs at)

abbrev pub print_layer : LayerSpot → List Kind
print_layer LayerWanted = []
print_layer (FirstRead n) = kinds.Number n ∷ []
print_layer (LastWanted n) = kinds.Number n ∷ kinds.Minus ∷ []
print_layer (LastRead n m) = kinds.Number n ∷ kinds.Minus ∷ kinds.Number m ∷ []

-- ranges of bytes
abbrev pub ranges_between : List SliceRange → ℕ → List Kind
ranges_between [] at = kinds.NextRange at ∷ []
ranges_between (r ∷ rs) at = kinds.NextRange r.at ∷ (range r.part ++ ranges_between rs at)

abbrev pub ranges_before : ℕ → List SliceRange → ℕ → List Kind
ranges_before bracket [] at = kinds.OpenRanges bracket at ∷ []
ranges_before bracket (r ∷ rs) at = kinds.OpenRanges bracket r.at ∷ (range r.part ++ ranges_between rs at)

abbrev pub print_range : RangeSpot → List Kind
print_range RangeWanted = []
print_range DigitsWanted = kinds.Minus ∷ []
print_range (PlaceRead p) = place p
print_range (ColonRead p) = place p ++ kinds.Colon ∷ []
print_range (EndWanted p) = place p ++ kinds.Minus ∷ []
print_range (EndDigitsWanted p) = place p ++ kinds.Minus ∷ kinds.Minus ∷ []
print_range CountWanted = kinds.Colon ∷ []
print_range (PartRead part) = range part

abbrev pub print_spot : Spot → List Kind
print_spot OperandWanted = []
print_spot (OperandRead o) = operand o
print_spot (LayersWanted w) = kinds.Name w ∷ kinds.Hash ∷ []
print_spot (InLayers w done at spot) = kinds.Name w ∷ kinds.Hash ∷ (layers_before done at ++ print_layer spot)
print_spot (InRanges o bracket done at spot) = operand o ++ (ranges_before bracket done at ++ print_range spot)
print_spot (MaskWanted o at) = operand o ++ kinds.Mask at ∷ []

-- sets
abbrev pub set_between : List Element → List Kind
set_between [] = kinds.Comma ∷ []
set_between (e ∷ es) = kinds.Comma ∷ (element e ++ set_between es)

abbrev pub set_before : List Element → List Kind
set_before [] = kinds.OpenBrace ∷ []
set_before (e ∷ es) = kinds.OpenBrace ∷ (element e ++ set_between es)

abbrev pub print_element : ElementSpot → List Kind
print_element ElementWanted = []
print_element (LiteralRead l) = literal l ∷ []
print_element (SecondWanted l) = literal l ∷ kinds.DotDot ∷ []
print_element (SecondRead l m) = literal l ∷ kinds.DotDot ∷ literal m ∷ []

abbrev pub print_tail : TailSpot → List Kind
print_tail InWanted = kinds.Negates negations.Word ∷ []
print_tail (SetWanted n) = not_before n ++ kinds.In ∷ []
print_tail (InSet n done spot) = not_before n ++ kinds.In ∷ (set_before done ++ print_element spot)
print_tail (PatternWanted at) = kinds.Matches at ∷ []

abbrev pub printed : State → List Kind
printed (Want f k) = print_around k ++ print_frame f
printed (Have lefts t k) = print_around k ++ (print_lefts lefts ++ spelled t)
printed (InOperand spot side ws cs f k) =
    print_around k ++ (print_frame f ++ (print_side side ++ (print_calls cs ++ (print_waiting ws ++ print_spot spot))))
printed (InTail spot c o f k) = print_around k ++ (print_frame f ++ (choice c ++ (operand o ++ print_tail spot)))

-- the filters that wait bind less tightly than the one that is read
abbrev pub IsBelow : List Left → ℕ → Type 0
IsBelow [] n = Unit {0}
IsBelow (LeftOf l i ∷ lefts) n = binds i < n

-- what waits, where so many are open around it
abbrev pub IsLefts : ℕ → ℕ → List Left → Type 0
IsLefts limit around [] = Unit {0}
IsLefts limit around (LeftOf l j ∷ lefts) =
    IsGrouped l × (binds j ≤ strength l) × (around + depth l ≤ limit) × IsBelow lefts (binds j) × IsLefts limit around lefts

abbrev pub IsAround : ℕ → List Frame → Type 0
IsAround limit [] = Unit {0}
IsAround limit (f ∷ k) = IsLefts limit (open_around k) f.lefts × IsAround limit k

pub record IsFrame (limit : ℕ) (f : Frame) (k : List Frame) : Type 0 where
  pub lefts : IsLefts limit (open_around k) f.lefts
  pub around : IsAround limit k
  pub room : open_at f k ≤ limit

-- the operands that wait bind less tightly than the one that is read
abbrev pub IsUnder : List Waiting → ℕ → Type 0
IsUnder [] n = Unit {0}
IsUnder (WaitingFor l i ∷ ws) n = binds_link i < n

-- how loosely operands bind at least in the innermost call, or in a test
abbrev pub least_of : List Call → ℕ
least_of [] = sum
least_of (call ∷ cs) = least_in call.function

-- what waits where so many are open around it, and where operands bind so loosely at least
abbrev pub IsWaiting : ℕ → ℕ → ℕ → List Waiting → Type 0
IsWaiting limit count least [] = Unit {0}
IsWaiting limit count least (WaitingFor l j ∷ ws) =
    IsOperand l × (binds_link j ≤ tightness l) × (count + calls l ≤ limit) × (least ≤ binds_link j) × IsUnder ws (binds_link j) × IsWaiting limit count least ws

abbrev pub AreCalls : ℕ → ℕ → List Call → Type 0
AreCalls limit count [] = Unit {0}
AreCalls limit count (call ∷ cs) = IsWaiting limit (length cs + count) (least_of cs) call.waiting × AreCalls limit count cs

abbrev pub IsSpot : Spot → Type 0
IsSpot (OperandRead o) = IsOperand o × (part ≤ tightness o)
IsSpot (InRanges o bracket done at spot) = IsOperand o × (takes_slice o ≡ true)
IsSpot (MaskWanted o at) = IsOperand o × (takes_mask o ≡ true)
IsSpot spot = Unit {0}

abbrev pub spot_calls : Spot → ℕ
spot_calls (OperandRead o) = calls o
spot_calls (InRanges o bracket done at spot) = calls o
spot_calls (MaskWanted o at) = calls o
spot_calls spot = 0

abbrev pub IsSide : ℕ → ℕ → Side → Type 0
IsSide limit count (OnLeft c) = Unit {0}
IsSide limit count (OnRight c l operator at) = IsTestOperand l × (takes_operator c operator ≡ true) × (count + calls l ≤ limit)

abbrev pub IsGood : ℕ → State → Type 0
IsGood limit (Want f k) = IsFrame limit f k
IsGood limit (Have lefts t k) = IsLefts limit (open_around k) lefts × IsAround limit k × IsGrouped t × (unary ≤ strength t) × (open_around k + depth t ≤ limit)
IsGood limit (InOperand spot side ws cs f k) =
    IsFrame limit f k × IsSide limit (open_at f k) side × IsSpot spot × (length cs + open_at f k + spot_calls spot ≤ limit)
    × IsWaiting limit (length cs + open_at f k) (least_of cs) ws × AreCalls limit (open_at f k) cs
IsGood limit (InTail spot c o f k) = IsFrame limit f k × IsTestOperand o × (open_at f k + calls o ≤ limit)

-- one more range, and a comma or the bracket's end behind it
layers_between_more : (done : List LayerRange) (r : LayerRange) (next : ℕ) → layers_between (done ++ r ∷ []) next ≡ layers_between done r.at ++ (layer_range r ++ kinds.NextRange next ∷ [])
layers_between_more [] r next = refl
layers_between_more (d ∷ done) r next =
    ap (λ ks. kinds.NextRange d.at ∷ (layer_range d ++ ks)) (layers_between_more done r next)
    ∙ ap (λ ks. kinds.NextRange d.at ∷ ks) (sym (append_assoc (layer_range d) (layers_between done r.at) (layer_range r ++ kinds.NextRange next ∷ [])))

pub layers_more : (done : List LayerRange) (r : LayerRange) (next : ℕ) → layers_before (done ++ r ∷ []) next ≡ layers_before done r.at ++ (layer_range r ++ kinds.NextRange next ∷ [])
layers_more [] r next = refl
layers_more (d ∷ done) r next =
    ap (λ ks. kinds.OpenLayers d.at ∷ (layer_range d ++ ks)) (layers_between_more done r next)
    ∙ ap (λ ks. kinds.OpenLayers d.at ∷ ks) (sym (append_assoc (layer_range d) (layers_between done r.at) (layer_range r ++ kinds.NextRange next ∷ [])))

layers_between_end : (done : List LayerRange) (r : LayerRange) → more_layers (done ++ r ∷ []) ≡ layers_between done r.at ++ (layer_range r ++ kinds.CloseBracket ∷ [])
layers_between_end [] r = refl
layers_between_end (d ∷ done) r =
    ap (λ ks. kinds.NextRange d.at ∷ (layer_range d ++ ks)) (layers_between_end done r)
    ∙ ap (λ ks. kinds.NextRange d.at ∷ ks) (sym (append_assoc (layer_range d) (layers_between done r.at) (layer_range r ++ kinds.CloseBracket ∷ [])))

pub layers_closed : (done : List LayerRange) (r : LayerRange) → layers (done ++ r ∷ []) ≡ layers_before done r.at ++ (layer_range r ++ kinds.CloseBracket ∷ [])
layers_closed [] r = refl
layers_closed (d ∷ done) r =
    ap (λ ks. kinds.OpenLayers d.at ∷ (layer_range d ++ ks)) (layers_between_end done r)
    ∙ ap (λ ks. kinds.OpenLayers d.at ∷ ks) (sym (append_assoc (layer_range d) (layers_between done r.at) (layer_range r ++ kinds.CloseBracket ∷ [])))

ranges_between_more : (done : List SliceRange) (r : SliceRange) (next : ℕ) → ranges_between (done ++ r ∷ []) next ≡ ranges_between done r.at ++ (range r.part ++ kinds.NextRange next ∷ [])
ranges_between_more [] r next = refl
ranges_between_more (d ∷ done) r next =
    ap (λ ks. kinds.NextRange d.at ∷ (range d.part ++ ks)) (ranges_between_more done r next)
    ∙ ap (λ ks. kinds.NextRange d.at ∷ ks) (sym (append_assoc (range d.part) (ranges_between done r.at) (range r.part ++ kinds.NextRange next ∷ [])))

pub ranges_more : (bracket : ℕ) (done : List SliceRange) (r : SliceRange) (next : ℕ) → ranges_before bracket (done ++ r ∷ []) next ≡ ranges_before bracket done r.at ++ (range r.part ++ kinds.NextRange next ∷ [])
ranges_more bracket [] r next = refl
ranges_more bracket (d ∷ done) r next =
    ap (λ ks. kinds.OpenRanges bracket d.at ∷ (range d.part ++ ks)) (ranges_between_more done r next)
    ∙ ap (λ ks. kinds.OpenRanges bracket d.at ∷ ks) (sym (append_assoc (range d.part) (ranges_between done r.at) (range r.part ++ kinds.NextRange next ∷ [])))

ranges_between_end : (done : List SliceRange) (r : SliceRange) → more_ranges (done ++ r ∷ []) ≡ ranges_between done r.at ++ (range r.part ++ kinds.CloseBracket ∷ [])
ranges_between_end [] r = refl
ranges_between_end (d ∷ done) r =
    ap (λ ks. kinds.NextRange d.at ∷ (range d.part ++ ks)) (ranges_between_end done r)
    ∙ ap (λ ks. kinds.NextRange d.at ∷ ks) (sym (append_assoc (range d.part) (ranges_between done r.at) (range r.part ++ kinds.CloseBracket ∷ [])))

pub ranges_closed : (bracket : ℕ) (done : List SliceRange) (r : SliceRange) → ranges bracket (done ++ r ∷ []) ≡ ranges_before bracket done r.at ++ (range r.part ++ kinds.CloseBracket ∷ [])
ranges_closed bracket [] r = refl
ranges_closed bracket (d ∷ done) r =
    ap (λ ks. kinds.OpenRanges bracket d.at ∷ (range d.part ++ ks)) (ranges_between_end done r)
    ∙ ap (λ ks. kinds.OpenRanges bracket d.at ∷ ks) (sym (append_assoc (range d.part) (ranges_between done r.at) (range r.part ++ kinds.CloseBracket ∷ [])))

set_between_more : (done : List Element) (e : Element) → set_between (done ++ e ∷ []) ≡ set_between done ++ (element e ++ kinds.Comma ∷ [])
set_between_more [] e = refl
set_between_more (d ∷ done) e =
    ap (λ ks. kinds.Comma ∷ (element d ++ ks)) (set_between_more done e)
    ∙ ap (λ ks. kinds.Comma ∷ ks) (sym (append_assoc (element d) (set_between done) (element e ++ kinds.Comma ∷ [])))

pub set_more : (done : List Element) (e : Element) → set_before (done ++ e ∷ []) ≡ set_before done ++ (element e ++ kinds.Comma ∷ [])
set_more [] e = refl
set_more (d ∷ done) e =
    ap (λ ks. kinds.OpenBrace ∷ (element d ++ ks)) (set_between_more done e)
    ∙ ap (λ ks. kinds.OpenBrace ∷ ks) (sym (append_assoc (element d) (set_between done) (element e ++ kinds.Comma ∷ [])))

set_between_end : (done : List Element) (e : Element) → more_elements (done ++ e ∷ []) ≡ set_between done ++ (element e ++ kinds.CloseBrace ∷ [])
set_between_end [] e = refl
set_between_end (d ∷ done) e =
    ap (λ ks. kinds.Comma ∷ (element d ++ ks)) (set_between_end done e)
    ∙ ap (λ ks. kinds.Comma ∷ ks) (sym (append_assoc (element d) (set_between done) (element e ++ kinds.CloseBrace ∷ [])))

pub set_closed : (done : List Element) (e : Element) → set (done ++ e ∷ []) ≡ set_before done ++ (element e ++ kinds.CloseBrace ∷ [])
set_closed [] e = refl
set_closed (d ∷ done) e =
    ap (λ ks. kinds.OpenBrace ∷ (element d ++ ks)) (set_between_end done e)
    ∙ ap (λ ks. kinds.OpenBrace ∷ ks) (sym (append_assoc (element d) (set_between done) (element e ++ kinds.CloseBrace ∷ [])))

pub filled : {A : Type 0} (xs : List A) (x : A) → IsFilled (xs ++ x ∷ [])
filled [] x = tt
filled (y ∷ ys) x = tt
