-- Stores at places of one room, one after another.
use Rattle.std.proofs.Common.{◌≡◌, ℕ, ◌+◌, ◌-◌, ◌/◌, ◌%◌, ◌^◌, ◌<◌, ◌≤◌, List, [], ◌∷◌, ◌++◌, decimal, length, take, drop, refl, ap, sym, ◌∙◌, arith, append_assoc, length-append, length-take, length-take-le, length-drop, take-add, take-take, take_at, drop_at, take_all, take-append-drop}
use Rattle.std.proofs.lemmas.Slice.{take-put_mid}
use borrow.Rule.Slice.PartMut.{put_mid, same_len_mid}
use Rattle.std.proofs.lemmas.Fmt.{decimal_digit, decimal_step, length-decimal-le}
use Rattle.pk_text.specs.Places.{Placed}

-- a second store begins where the first ended
pub placed_then : {a b c xs ys : List ℕ} {i j k : ℕ} → Placed a b i xs j → Placed b c j ys k → Placed a c i (xs ++ ys) k
placed_then {a} {b} {c} {xs} {ys} {i} p q = record {
  bytes = q.bytes ∙ ap (λ l. l ++ ys) p.bytes ∙ append_assoc (take i a) xs ys;
  moved = omega (arith, p.moved, q.moved, length-append xs ys);
  len = q.len ∙ p.len;
}

-- only the first n bytes of a store are kept
placed_less : {a b xs : List ℕ} {i j : ℕ} (n : ℕ) → i ≤ length a → n ≤ length xs → Placed a b i xs j → Placed a b i (take n xs) (i + n)
placed_less {a} {b} {xs} {i} {j} n within few p =
    let front = length-take-le i a within in
    record {
      bytes = sym (take-take (i + n) j b (omega (arith, p.moved))) ∙ ap (take (i + n)) p.bytes ∙ take-add i n (take i a ++ xs)
          ∙ (λ k. take_at (take i a) xs i front k ++ take n (drop_at (take i a) xs i front k));
      moved = omega (arith, length-take-le n xs few);
      len = p.len;
    }

-- the first and the last `half` bytes, laid over each other
pub placed_ends : {a b c : List ℕ} {i j k : ℕ} (src : List ℕ) (half : ℕ) → i ≤ length a → half ≤ length src → length src ≤ half + half
    → Placed a b i (take half src) j → Placed b c (i + (length src - half)) (take half (drop (length src - half) src)) k → Placed a c i src k
placed_ends {a} {b} {c} {i} {j} {k} src half within fits covers p q =
    let last = length src - half in
    let both = placed_then (placed_less last within (omega (arith, length-take-le half src fits)) p) q in
    let whole : take last (take half src) ++ take half (drop last src) ≡ src =
    (λ x. take-take last half src (omega arith) x ++ take_all half (drop last src) (omega (arith, length-drop last src)) x) ∙ take-append-drop last src in
    record { bytes = both.bytes ∙ ap (λ l. take i a ++ l) whole; moved = both.moved ∙ ap (λ l. i + length l) whole; len = both.len }

-- numbers
pub two_digits : (n : ℕ) → 10 ≤ n → n < 100 → decimal n ≡ (48 + n / 10) ∷ (48 + n % 10) ∷ []
two_digits n least most =
    decimal_step n least (omega (arith, most)) ∙ ap (λ (l : List ℕ). l ++ ((48 + n % 10) ∷ [])) (decimal_digit (n / 10) (omega (arith, most)))

pub short_number : (n : ℕ) → n < 2 ^ 64 → length (decimal n) ≤ 20
short_number n fits = length-decimal-le 20 n (omega arith) (omega (arith, fits)) fits

-- a text that was stored at the front of the room behind a place
pub placed_behind : (all room text : List ℕ) (at count : ℕ) → at ≤ length all → Placed (take (length all - at) (drop at all)) room 0 text count → Placed all (put_mid at (length all - at) all room) at text (at + count)
placed_behind all room text at count within p =
    let size : length (take (length all - at) (drop at all)) ≡ length all - at = length-take-le (length all - at) (drop at all) (omega (arith, length-drop at all)) in
    let same : length room ≡ length all - at = p.len ∙ size in
    let long : count ≤ length room = omega (arith, p.moved, ap length p.bytes, length-take count room) in
    let placed = placed_less count within long (record {
      bytes = take-put_mid at (length all - at) all room (at + length room) refl within;
      moved = refl;
      len = same_len_mid at (length all - at) all room p.len;
    }) in
    record { bytes = placed.bytes ∙ ap (λ (l : List ℕ). take at all ++ l) p.bytes; moved = omega (arith, p.moved); len = placed.len }
