-- Bytes as pairs of hexadecimal digits, with the same separator between each two, or none.
use Rattle.std.specs.Prelude.{◌≡◌, ℕ, zero, suc, ◌==◌, if◌then◌else◌, List, [], ◌∷◌, length, map, Option, Some, None, option_and_then}
use Rattle.std.specs.Option.{option_map, option_to_list}
use Rattle.std.specs.List.{join_by}
use Rattle.std.specs.Str.Parse.{AllDigits, digits_value}
use Rattle.pk_text.specs.Digits.{short_read}

-- bytes as they are written: what separates them, and the two digits of each
pub record PairsForm : Type 0 where
  pub separator : Option ℕ
  pub pairs : List (List ℕ)

-- two digits, in either case
abbrev pub IsPair : List ℕ → Type 0
IsPair digits = (length digits ≡ 2) × AllDigits 16 digits

-- the text, and the bytes
abbrev pub pairs_text : PairsForm → List ℕ
pairs_text f = join_by (λ digits. digits) (option_to_list f.separator) f.pairs

abbrev pub pairs_value : PairsForm → List ℕ
pairs_value f = map (digits_value 16) f.pairs

-- the byte of two digits and what stands behind them, computed; first the separator is passed over, if there is one
unfoldable pub next_pair : Option ℕ → List ℕ → Option (ℕ × List ℕ)
next_pair None (high ∷ low ∷ rest) =
    option_map (λ byte. (byte, rest)) (short_read 16 2 (high ∷ low ∷ []))
next_pair (Some separator) (first ∷ high ∷ low ∷ rest) =
    if first == separator then option_map (λ byte. (byte, rest)) (short_read 16 2 (high ∷ low ∷ []))
    else None
next_pair _ _ = None

-- n such bytes, and nothing behind them: what stands before the first, and what between two
unfoldable pub pairs_exactly : ℕ → Option ℕ → Option ℕ → List ℕ → Option (List ℕ)
pairs_exactly zero before between [] = Some []
pairs_exactly zero before between (c ∷ text) = None
pairs_exactly (suc n) before between text =
    option_and_then (λ p. option_map (λ bytes. p.0 ∷ bytes) (pairs_exactly n between between p.1))
    (next_pair before text)
