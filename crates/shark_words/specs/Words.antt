-- The words of a command line, as texts.
use Rattle.std.specs.Prelude.{ℕ, String, string_bytes, map, List}

abbrev pub texts : {A : Type 0} → List (String A) → List (List ℕ)
texts words = map string_bytes words
