-- What becomes of spans as a buffer is added and as a span is cut, for the crates that keep spans.
use Rattle.std.proofs.Common.{◌≡◌, ℕ, ◌+◌, ◌-◌, ◌<◌, ◌≤◌, List, [], ◌∷◌, ◌++◌, length, take, drop, refl, subst, arith, length-append, length-drop}
use Rattle.std.proofs.lemmas.List.{get_or_append_left, drop-take, drop-drop, take-take, length-take-le}
use Rattle.pk_base.specs.declared.span.Span.{Span}
use Rattle.pk_tree.specs.Buffers.{buffer_of, IsInside, bytes_of}

-- one more buffer changes no other
buffer_of-more : (buffers : List (List ℕ)) (bytes : List ℕ) (number : ℕ) → number < length buffers → buffer_of (buffers ++ bytes ∷ []) number ≡ buffer_of buffers number
buffer_of-more buffers bytes number inside = get_or_append_left buffers (bytes ∷ []) [] number inside

pub inside_more : (buffers : List (List ℕ)) (bytes : List ℕ) (span : Span) → IsInside buffers span → IsInside (buffers ++ bytes ∷ []) span
inside_more buffers bytes span inside =
    (omega (arith, length-append buffers (bytes ∷ [])), rw (buffer_of-more buffers bytes span.buffer inside.0) inside.1)

pub bytes_of-more : (buffers : List (List ℕ)) (bytes : List ℕ) (span : Span) → IsInside buffers span → bytes_of (buffers ++ bytes ∷ []) span ≡ bytes_of buffers span
unfolding bytes_of
bytes_of-more buffers bytes span inside = rw (buffer_of-more buffers bytes span.buffer inside.0) refl

-- how many bytes a span has
pub length-bytes_of : (buffers : List (List ℕ)) (span : Span) → IsInside buffers span → length (bytes_of buffers span) ≡ span.len
unfolding bytes_of
length-bytes_of buffers span inside =
    length-take-le span.len (drop span.start (buffer_of buffers span.buffer)) (omega (arith, length-drop span.start (buffer_of buffers span.buffer)))

-- a part of a span, and its bytes
pub inside_part : (buffers : List (List ℕ)) (span : Span) (at len : ℕ) → IsInside buffers span → at + len ≤ span.len → IsInside buffers (record { buffer = span.buffer; start = span.start + at; len = len })
inside_part buffers span at len inside fits = (inside.0, omega arith)

pub bytes_of-part : (buffers : List (List ℕ)) (span : Span) (at len : ℕ) → at + len ≤ span.len → bytes_of buffers (record { buffer = span.buffer; start = span.start + at; len = len }) ≡ take len (drop at (bytes_of buffers span))
unfolding bytes_of
bytes_of-part buffers span at len fits =
    let whole = drop span.start (buffer_of buffers span.buffer) in
    let cut : ℕ → Type 0 = λ n. drop at (take n whole) ≡ take (span.len - at) (drop at whole) in
    let sum : at + (span.len - at) ≡ span.len = omega arith in
    let rest : cut span.len = subst cut sum (drop-take at (span.len - at) whole) in
    let fitting : len ≤ span.len - at = omega arith in
    rw (rest, take-take len (span.len - at) (drop at whole) fitting, drop-drop at span.start (buffer_of buffers span.buffer)) refl
