-- One turn of a run: the instruction at a place.
use Rattle.std.specs.Prelude.{◌<◌, ℕ}
use Rattle.flt_vm.specs.Machine.{Ends, Goes, Move, State}
use Rattle.flt_vm.specs.Slots.{Does}
use Rattle.flt_vm.specs.declared.run.Turn.{Turn}
use Rattle.flt_vm.specs.declared.run.Turn.TheVariants as turns

-- a turn is what the step does, where there is one
abbrev pub IsTurn : Move → (ℕ → State) → Turn → Type 0
IsTurn move there (turns.Goes place) = Does move (Goes (there place))
IsTurn move there (turns.Ends holds) = Does move (Ends holds)
IsTurn move there turns.Stuck = Unit {0}

-- it leads on, inside the code
abbrev pub IsAhead : (at size : ℕ) → Turn → Type 0
IsAhead at size (turns.Goes place) = (at < place) × (place < size)
IsAhead at size (turns.Ends holds) = Unit {0}
IsAhead at size turns.Stuck = Unit {0}

-- the instruction found what it takes
abbrev pub IsMade : Turn → Type 0
IsMade (turns.Goes place) = Unit {0}
IsMade (turns.Ends holds) = Unit {0}
IsMade turns.Stuck = ⊥
