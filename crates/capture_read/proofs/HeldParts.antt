-- Parts of a block between two places.
use Rattle.std.proofs.Common.{◌≡◌, ◌≤◌, ◌+◌, ◌-◌, ℕ, List, length, take, drop, slice_range, sym, ap, ◌∙◌, arith}
use Rattle.std.proofs.lemmas.List.{drop-drop, drop-take, length-drop, length-take-le, take-take}

pub range_passed : (block : List ℕ) (from to count : ℕ) → from + count ≤ to → slice_range block (from + count) to ≡ drop count (slice_range block from to)
range_passed block from to count few =
    let rest : drop count (drop from block) ≡ drop (from + count) block = drop-drop count from block in
    let size : to - from ≡ count + (to - (from + count)) = omega (arith, few) in
    sym (ap (λ (n : ℕ). drop count (take n (drop from block))) size ∙ drop-take count (to - (from + count)) (drop from block) ∙ ap (take (to - (from + count))) rest)

pub range_part : (block : List ℕ) (from to start len : ℕ) → from + (start + len) ≤ to → slice_range block (from + start) (from + start + len) ≡ take len (drop start (slice_range block from to))
range_part block from to start len few =
    let size : (from + start + len) - (from + start) ≡ len = omega arith in
    ap (λ (n : ℕ). take n (drop (from + start) block)) size
    ∙ sym (take-take len (to - (from + start)) (drop (from + start) block) (omega (arith, few)))
    ∙ ap (take len) (range_passed block from to start (omega (arith, few)))

pub range_length : (block : List ℕ) (from to : ℕ) → from ≤ to → to ≤ length block → length (slice_range block from to) ≡ to - from
range_length block from to order inside =
    length-take-le (to - from) (drop from block) (omega (arith, inside, length-drop from block))
