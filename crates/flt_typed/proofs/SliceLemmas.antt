-- What ranges take.
use Rattle.std.proofs.Common.{◌≡◌, ◌<◌, ◌≤◌, ◌+◌, ℕ, suc, List, [], ◌∷◌, ◌++◌, Option, Some, None, length, drop, get_or, add-one, drop-cons, append_assoc, slice_range, refl, sym, ap, ◌∙◌, option_map, option_and_then, arith}
use Rattle.std.proofs.lemmas.List.{append-nil, drop_all}
use Rattle.flt_syntax.specs.declared.ast.RangePart.{RangePart}
use Rattle.flt_typed.specs.Slices.{taken_by, part_of, span_of}

-- bytes behind those in front
abbrev pub behind : List ℕ → Option (List ℕ) → Option (List ℕ)
behind front rest = option_map (λ bytes. front ++ bytes) rest

join_behind : (front part : List ℕ) (rest : Option (List ℕ)) → behind front (behind part rest) ≡ behind (front ++ part) rest
join_behind front part None = refl
join_behind front part (Some bytes) = ap Some (sym (append_assoc front part bytes))

-- a single range
single : (bytes : List ℕ) (range : RangePart) → taken_by bytes (range ∷ []) ≡ part_of bytes range
unfolding taken_by
single bytes range = from (part_of bytes range)
  where
    from : (part : Option (List ℕ)) → option_and_then (λ bytes. option_map (λ rest. bytes ++ rest) (Some [])) part ≡ part
    from None = refl
    from (Some bytes) = ap Some (append-nil bytes)

only_one : (bytes : List ℕ) (ranges : List RangePart) (d : RangePart) → 1 ≤ length ranges → length ranges < 2 → taken_by bytes ranges ≡ part_of bytes (get_or ranges 0 d)
only_one bytes [] d low high = absurd (omega (arith, low))
only_one bytes (range ∷ []) d low high = single bytes range
only_one bytes (range ∷ next ∷ ranges) d low high = absurd (omega (arith, high))

pub one_range : (bytes : List ℕ) (ranges : List RangePart) (d : RangePart) (from to : ℕ) → 1 ≤ length ranges → length ranges < 2 →
    Some (from, to) ≡ span_of (length bytes) (get_or ranges 0 d) → Some (slice_range bytes from to) ≡ taken_by bytes ranges
one_range bytes ranges d from to low high is = sym (only_one bytes ranges d low high ∙ ap (option_map (λ span. slice_range bytes span.0 span.1)) (sym is))

pub one_outside : (bytes : List ℕ) (ranges : List RangePart) (d : RangePart) → 1 ≤ length ranges → length ranges < 2 →
    None ≡ span_of (length bytes) (get_or ranges 0 d) → None ≡ taken_by bytes ranges
one_outside bytes ranges d low high is = sym (only_one bytes ranges d low high ∙ ap (option_map (λ span. slice_range bytes span.0 span.1)) (sym is))

-- a range that takes bytes, and one that doesn't
pub next_range : (bytes front : List ℕ) (ranges : List RangePart) (d : RangePart) (i from to : ℕ) → i < length ranges →
    Some (from, to) ≡ span_of (length bytes) (get_or ranges i d) →
    behind front (taken_by bytes (drop i ranges)) ≡ behind (front ++ slice_range bytes from to) (taken_by bytes (drop (i + 1) ranges))
unfolding taken_by
next_range bytes front ranges d i from to inside is =
    rw (add-one i, drop-cons ranges i d inside, ← is) (join_behind front (slice_range bytes from to) (taken_by bytes (drop (suc i) ranges)))

pub no_range : (bytes front : List ℕ) (ranges : List RangePart) (d : RangePart) (i : ℕ) → i < length ranges →
    None ≡ span_of (length bytes) (get_or ranges i d) → behind front (taken_by bytes (drop i ranges)) ≡ None
unfolding taken_by
no_range bytes front ranges d i inside is = rw (drop-cons ranges i d inside, ← is) refl

pub first_range : (bytes : List ℕ) (ranges : List RangePart) → taken_by bytes ranges ≡ behind [] (taken_by bytes ranges)
first_range bytes ranges = nothing (taken_by bytes ranges)
  where
    nothing : (rest : Option (List ℕ)) → rest ≡ behind [] rest
    nothing None = refl
    nothing (Some bytes) = refl

pub last_range : (bytes front : List ℕ) (ranges : List RangePart) (i : ℕ) → length ranges ≤ i → behind front (taken_by bytes (drop i ranges)) ≡ Some front
unfolding taken_by
last_range bytes front ranges i end = rw (drop_all i ranges end) (ap Some (append-nil front))
