-- What contracts see of the sinks and captures in memory.
use Rattle.std.specs.Prelude.{ℕ, Bool, List, [], ◌==◌, Option, None, Some, String, string_bytes, bytes_eq, option_map, find}
use Rattle.std.specs.List.{list_any}

-- whether the call of this number is one of those that are to fail
abbrev pub is_to_fail : List ℕ → ℕ → Bool
is_to_fail failing number = list_any (λ n. n == number) failing

-- a sink in memory: what it took, the numbers of the writes that are to fail, and how many writes there were
pub record MemorySinkState : Type 0 where
  pub taken : List ℕ
  pub failing : List ℕ
  pub calls : ℕ
  pub faults : ℕ
  pub starved : ℕ

-- a sink in memory that refuses nothing
pub record SureSinkState : Type 0 where
  pub taken : List ℕ
  pub starved : ℕ

-- a sink in memory that holds back what it takes: what was handed on, what waits, whether handing on fails, and how often it failed
pub record GatheringSinkState : Type 0 where
  pub handed : List ℕ
  pub waiting : List ℕ
  pub fails : Bool
  pub failures : ℕ
  pub starved : ℕ

-- a capture in memory that fails nowhere: each name is that of a file of these bytes
pub record SureCaptureState : Type 0 where
  pub bytes : List ℕ
  pub left : List ℕ
  pub asked : List ℕ
  pub begun : ℕ

-- the name that was asked for last, and the empty one where none was
abbrev pub asked_bytes : {A : Type 0} → Option (String A) → List ℕ
asked_bytes None = []
asked_bytes (Some name) = string_bytes name

-- the bytes of the first file of this name
abbrev pub file_named : List (List ℕ × List ℕ) → List ℕ → Option (List ℕ)
file_named files name = option_map (λ file. file.1) (find (λ file. bytes_eq file.0 name) files)

-- a capture in memory: its files, each a name and its bytes, the numbers of the calls that are to fail,
-- how many bytes a read gives at most, how many calls there were, and what the calls left
pub record MemoryCaptureState : Type 0 where
  pub files : List (List ℕ × List ℕ)
  pub failing : List ℕ
  pub step : ℕ
  pub calls : ℕ
  pub left : List ℕ
  pub asked : List ℕ
  pub refused : Bool
  pub begun : ℕ
  pub missed : ℕ
  pub faults : ℕ
