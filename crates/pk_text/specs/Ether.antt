-- The texts of an Ethernet address: six pairs of hexadecimal digits, joined by `:` throughout or by `-` throughout.
use Rattle.std.specs.Prelude.{◌≡◌, ◌⊎◌, ℕ, ◌==◌, ◌||◌, if◌then◌else◌, List, ◌∷◌, codes, length, Option, Some, None, option_and_then}
use Rattle.std.specs.List.{AllByRecursion, join_by}
use Rattle.pk_text.specs.Digits.{hex_pair}
use Rattle.pk_text.specs.Pairs.{PairsForm, IsPair, pairs_exactly}

-- the text of an address
unfoldable pub ether_shown : List ℕ → List ℕ
ether_shown address = join_by hex_pair (codes ":") address

-- six pairs; 58 is `:`, 45 is `-`
pub record IsEtherForm (f : PairsForm) : Type 0 where
  pub pairs : AllByRecursion IsPair f.pairs
  pub six : length f.pairs ≡ 6
  pub separator : (f.separator ≡ Some 58) ⊎ (f.separator ≡ Some 45)

-- the separator behind the first pair
abbrev pub ether_separator : List ℕ → Option ℕ
ether_separator (high ∷ low ∷ c ∷ rest) = if c == 58 || c == 45 then Some c else None
ether_separator _ = None

-- the address that a text writes, computed
unfoldable pub ether_of : List ℕ → Option (List ℕ)
ether_of text =
    option_and_then (λ separator. pairs_exactly 6 None (Some separator) text) (ether_separator text)
