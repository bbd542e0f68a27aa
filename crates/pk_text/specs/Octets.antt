-- The texts of bytes: one or more pairs of hexadecimal digits, joined throughout by `:`, `-` or `.`, or by nothing.
use Rattle.std.specs.Prelude.{ℕ, ◌+◌, ◌/◌, ◌<◌, ◌==◌, ◌||◌, Bool, if◌then◌else◌, List, ◌∷◌, length, Option, Some, None, IfSome, IsTrue}
use Rattle.std.specs.List.{AllByRecursion}
use Rattle.pk_text.specs.Pairs.{PairsForm, IsPair, pairs_exactly}

-- 58 is `:`, 45 is `-`, 46 is `.`
abbrev pub is_separator : ℕ → Bool
is_separator c = c == 58 || (c == 45 || c == 46)

-- at least one pair, and one of the separators, or none
pub record IsOctetsForm (f : PairsForm) : Type 0 where
  pub pairs : AllByRecursion IsPair f.pairs
  pub some : 0 < length f.pairs
  pub separator : IfSome f.separator (λ c. IsTrue (is_separator c))

-- the separator behind the first pair, if there is one
abbrev pub octets_separator : List ℕ → Option ℕ
octets_separator (high ∷ low ∷ c ∷ rest) = if is_separator c then Some c else None
octets_separator _ = None

-- how many pairs a text may hold
abbrev pub pair_count : Option ℕ → List ℕ → ℕ
pair_count None text = length text / 2
pair_count (Some separator) text = (length text + 1) / 3

-- the bytes that a text writes, computed
unfoldable pub bytes_of : List ℕ → Option (List ℕ)
bytes_of text =
    if length text == 0 then None
    else pairs_exactly (pair_count (octets_separator text) text) None (octets_separator text) text
