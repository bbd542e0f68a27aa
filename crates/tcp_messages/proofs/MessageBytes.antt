-- A message has a byte, and lies in what brought it.
use Rattle.std.proofs.Common.{◌≡◌, ℕ, zero, suc, ◌+◌, ◌-◌, ◌<◌, ◌≤◌, List, [], ◌∷◌, length, take, drop, arith, length-drop}
use Rattle.std.specs.List.{slice_range}
use Rattle.stream_messages.proofs.FirstLemmas.{first_some}
use Rattle.stream_messages.specs.declared.told.Told.{Told}
use Rattle.stream_messages.specs.Tellings.{end_of}
use Rattle.tcp_messages.specs.Shown.{IsMessage}

-- a message has a byte, and ends with the last one
pub told_ends : (told : Told) (bytes : List ℕ) → IsMessage told bytes → (end_of told ≡ length bytes) × (0 < length bytes)
told_ends told bytes is = (is.3, omega (arith, is.3, first_some is.0 is.1 bytes told is.2))

part_len : (payload : List ℕ) (place len : ℕ) → len ≡ length (slice_range payload place (place + len)) → 0 < len → place + len ≤ length payload
part_len payload place len whole some =
    let few : length (slice_range payload place (place + len)) ≤ length (drop place payload) = at_most (place + len - place) (drop place payload) in
    omega (arith, few, whole, length-drop place payload)
  where
    at_most : (n : ℕ) (xs : List ℕ) → length (take n xs) ≤ length xs
    at_most zero xs = omega arith
    at_most (suc n) [] = omega arith
    at_most (suc n) (x ∷ xs) = omega (arith, at_most n xs)

-- one that its segment brought lies in the segment
pub segment_fits : (payload : List ℕ) (told : Told) (place : ℕ) → IsMessage told (slice_range payload place (place + end_of told)) → place + end_of told ≤ length payload
segment_fits payload told place is =
    let ends = told_ends told (slice_range payload place (place + end_of told)) is in
    part_len payload place (end_of told) ends.0 (omega (arith, ends.0, ends.1))
