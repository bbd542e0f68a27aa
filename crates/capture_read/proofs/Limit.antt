-- The bytes of a file that are looked at.
use Rattle.std.proofs.Common.{◌≡◌, ◌<◌, ◌≤◌, ℕ, ◌+◌, ◌-◌, ◌^◌, List, length, take, drop, slice_range, nat_lt, min, refl, sym, ◌∙◌, ap, arith, length-take}
use Rattle.std.proofs.lemmas.Bool.Decides.{nat_tests}
use Rattle.std.proofs.lemmas.List.{drop-drop, drop-take, take-take}
use Rattle.pk_base.specs.Limits.{file_limit}
use Rattle.capture_read.specs.Capture.{capture_of, held_part, is_large}

-- they are few
pub length-held_part : (file : List ℕ) → length (held_part file) ≤ 2 ^ 28
unfolding file_limit
length-held_part file = rw length-take (omega arith)

-- a frame's bytes in the file are those in the record
pub slice_range-held_part : (file : List ℕ) (at start len : ℕ) → at + start + len ≤ length (held_part file)
    → slice_range file (at + start) (at + start + len) ≡ take len (drop start (drop at (held_part file)))
slice_range-held_part file at start len within =
    let bound : at + start + len ≤ file_limit = omega (arith, length-take file_limit file) in
    let m : ℕ = file_limit - (at + start) in
    sym (ap (take len) (drop-drop start at (held_part file)
    ∙ ap (λ (k : ℕ). drop (at + start) (take k file)) (omega arith)
    ∙ drop-take (at + start) m file)
    ∙ take-take len m (drop (at + start) file) (omega arith)
    ∙ ap (λ (k : ℕ). take k (drop (at + start) file)) (omega arith))

-- of a number above the limit and another, the smaller one is above the limit where the other is
nat_lt-min : (limit n m : ℕ) → limit < n → nat_lt limit (min n m) ≡ nat_lt limit m
nat_lt-min limit n m h = grind (arith, nat_tests)

-- the bytes behind any place past the limit don't change what a file stands for
pub capture_of-take : (n : ℕ) (file : List ℕ) → file_limit < n → capture_of (take n file) ≡ capture_of file
unfolding capture_of
capture_of-take n file h =
    let same : take file_limit (take n file) ≡ take file_limit file = take-take file_limit n file (omega arith) in
    let large : is_large (take n file) ≡ is_large file = rw length-take (nat_lt-min file_limit n (length file) h) in
    rw (large, same) refl
