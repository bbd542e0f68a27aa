-- What the calls of a capture and a sink do to their counts and their bytes.
use Rattle.std.specs.Prelude.{⊤, ◌≡◌, ◌↔◌, ℕ, ◌+◌, ◌-◌, ◌^◌, ◌≤◌, min, List, [], ◌++◌, length, take, drop, Some, None, Option}
use Rattle.std.specs.Io.KnownBytes.{Appends}
use Rattle.pk_outside.specs.declared.sink.SinkFault.{SinkFault}
use Rattle.pk_outside.specs.declared.sink.SinkFault.TheVariants.{Failed, NoMemory}

-- a count after one more event: at its last value it stands still
abbrev pub counted : ℕ → ℕ
counted n = min (n + 1) (2 ^ 64 - 1)

-- a count rose, or stands at its last value
abbrev pub Rose : ℕ → ℕ → Type 0
Rose old new = counted old ≤ new

-- a read moved the first n of the bytes that are left to the front of its room, and took 0 only where none is left
abbrev pub Moves : Option (List ℕ) → Option (List ℕ) → List ℕ → List ℕ → ℕ → Type 0
Moves None left to_old to_new n = left ≡ None
Moves (Some bytes) left to_old to_new n =
    (n ≤ length bytes) × (left ≡ Some (drop n bytes)) × (to_new ≡ take n bytes ++ drop n to_old)
    × ((n ≡ 0) ↔ (bytes ≡ []))

-- known bytes grow by a front of the whole
abbrev pub AppendsPart : Option (List ℕ) → Option (List ℕ) → List ℕ → Type 0
AppendsPart old new whole =
    (piece : List ℕ) × (rest : List ℕ) × (piece ++ rest ≡ whole) × Appends old new piece

-- the count of one kind of fault goes up by one, and the other count stays
pub record CountsOne (old new other_old other_new : ℕ) : Type 0 where
  pub counts : new ≡ counted old
  pub others : other_new ≡ other_old

-- a write that answers this fault is counted as one of its kind
abbrev pub CountsFault : SinkFault → ℕ → ℕ → ℕ → ℕ → Type 0
CountsFault Failed faults_old faults_new starved_old starved_new =
    CountsOne faults_old faults_new starved_old starved_new
CountsFault NoMemory faults_old faults_new starved_old starved_new =
    CountsOne starved_old starved_new faults_old faults_new

-- what was held back was handed on behind what had been handed on before, and nothing is held back any more
abbrev pub HandsOn : Option (List ℕ) → Option (List ℕ) → Option (List ℕ) → Option (List ℕ) → Type 0
HandsOn None handed_old waiting_new handed_new = ⊤
HandsOn (Some waiting) handed_old waiting_new handed_new =
    (waiting_new ≡ Some []) × Appends handed_old handed_new waiting
