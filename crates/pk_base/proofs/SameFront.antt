-- Lists of bytes with a common front: the numbers and parts within it are the same.
use Rattle.std.proofs.Common.{◌≡◌, ◌<◌, ◌≤◌, ℕ, ◌+◌, ◌-◌, Bool, true, false, List, length, take, drop, slice_range, slice_index, sym, ap, ◌∙◌, arith}
use Rattle.std.proofs.lemmas.List.{drop-take, take-take, get_or-take}
use Rattle.byteorder.specs.Numbers.{big_from-take, little_from-take}
use Rattle.pk_base.specs.Endian.{number_in, number_at}

-- the first n bytes are the same, and both lists have them
pub record IsSameFront (n : ℕ) (xs ys : List ℕ) : Type 0 where
  pub one : n ≤ length xs
  pub other : n ≤ length ys
  pub same : take n xs ≡ take n ys

-- so are fewer
pub front_same : (n m : ℕ) (xs ys : List ℕ) → IsSameFront n xs ys → m ≤ n → IsSameFront m xs ys
front_same n m xs ys front less = record {
  one = omega (arith, front.one);
  other = omega (arith, front.other);
  same = sym (take-take m n xs less) ∙ ap (take m) front.same ∙ take-take m n ys less;
}

-- bytes behind the first ones
pub part_same : (place size : ℕ) (n : ℕ) (xs ys : List ℕ) → IsSameFront n xs ys → place + size ≤ n
    → take size (drop place xs) ≡ take size (drop place ys)
part_same place size n xs ys front within =
    let same = (front_same n (place + size) xs ys front within).same in
    sym (drop-take place size xs) ∙ ap (drop place) same ∙ drop-take place size ys

pub range_same : (from to : ℕ) (n : ℕ) (xs ys : List ℕ) → IsSameFront n xs ys → from ≤ to → to ≤ n
    → slice_range xs from to ≡ slice_range ys from to
range_same from to n xs ys front order within = part_same from (to - from) n xs ys front (omega arith)

-- a number is read of its own bytes
number_in-take : (little : Bool) (size : ℕ) (bytes : List ℕ) → number_in little size (take size bytes) ≡ number_in little size bytes
number_in-take true size bytes = little_from-take 0 size size bytes (omega arith)
number_in-take false size bytes = big_from-take 0 size size bytes (omega arith)

pub number_same : (little : Bool) (size place : ℕ) (n : ℕ) (xs ys : List ℕ) → IsSameFront n xs ys → place + size ≤ n
    → number_at little size place xs ≡ number_at little size place ys
number_same little size place n xs ys front within =
    sym (number_in-take little size (drop place xs))
    ∙ ap (number_in little size) (part_same place size n xs ys front within)
    ∙ number_in-take little size (drop place ys)

-- one byte
pub byte_same : (place : ℕ) (n : ℕ) (xs ys : List ℕ) → IsSameFront n xs ys → place < n → slice_index xs place ≡ slice_index ys place
byte_same place n xs ys front within =
    sym (get_or-take n xs place 0 within) ∙ ap (λ (bytes : List ℕ). slice_index bytes place) front.same ∙ get_or-take n ys place 0 within
