-- `ip4_of` reads the text of an address, and no other text.
use Rattle.std.proofs.Common.{◌≡◌, ℕ, zero, suc, ◌/◌, ◌%◌, ◌^◌, ◌<◌, false, ◌&&◌, eqb, ltb, List, [], ◌∷◌, ◌++◌, codes, length, get_or, Option, Some, None, IfSome, refl, sym, ap, ap₂, ◌∙◌, arith, lit<, lit≤, inl, inr, cond, subst}
use Rattle.std.specs.Option.{option_and_then}
use Rattle.std.specs.List.{All, join_by}
use Rattle.std.specs.Fmt.{decimal}
use Rattle.std.specs.Int.{w32, from_be_bytes}
use Rattle.std.specs.Str.Parse.{IsNumeral, AllDigits, digits_value}
use Rattle.std.proofs.lemmas.Bool.{cases_eq, cond-true, cond-false, cond_both, lt-ltb, le-ltb, ltb-true, ltb-false, and_cases, and_left, and_right, ne_eqb, eqb-false}
use Rattle.std.proofs.lemmas.Option.{none-some, same_Some, cond_some, option_and_then_some}
use Rattle.std.proofs.lemmas.Str.Parse.{numerals_by_value, tells_digits}
use Rattle.std.proofs.lemmas.Fmt.{IsAscii-decimal, decimal_is_IsNumeral, decimal-digits_value, length-decimal-le}
use Rattle.std.proofs.lemmas.Str.{IsAscii-append}
use Rattle.std.proofs.lemmas.Str.Ascii.{All-from_ascii}
use Rattle.std.specs.Str.{IsAscii}
use Rattle.std.proofs.lemmas.List.{append-nil}
use Rattle.std.proofs.lemmas.Nat.{be_bytes_4, from_be_bytes-to_be_bytes_4}
use Rattle.pk_text.specs.Digits.{short_read}
use Rattle.pk_text.specs.Cut.{cut_at}
use Rattle.pk_text.specs.Ip4.{ip4_shown, part_read, ip4_of}
use Rattle.pk_text.proofs.DigitsLemmas.{short_read-IsNumeral, IsNumeral-short_read, decimal_leading}
use Rattle.pk_text.proofs.CutLemmas.{Lacks, Lacks-from_AllDigits, cut_at-first, cut_parts}

no_leading_zero : (n : ℕ) → n < 2 ^ 64 → (ltb 1 (length (decimal n)) && eqb (get_or (decimal n) 0 0) 48) ≡ false
no_leading_zero n small =
    elim (cases_eq (get_or (decimal n) 0 0) 48) [
      | inl same ↦ and_left _ _ (le-ltb 1 (length (decimal n)) (omega (arith, decimal_leading n small same)))
      | inr other ↦ and_right (ltb 1 (length (decimal n))) _ (ne_eqb _ 48 other)
    ]

part_read-decimal : (n : ℕ) → n < 256 → part_read (decimal n) ≡ Some n
unfolding part_read
part_read-decimal n small =
    let digits = decimal_is_IsNumeral n (omega arith) in
    let short = length-decimal-le 3 n (lit< tt) (omega arith) (omega arith) in
    let read = short_read-IsNumeral 10 3 (decimal n) (lit< tt) (lit≤ tt) digits.0 short ∙ ap Some digits.1 in
    cond-false (ltb 1 (length (decimal n)) && eqb (get_or (decimal n) 0 0) 48) _ _ (no_leading_zero n (omega arith))
    ∙ ap (option_and_then (λ k. cond (ltb k 256) (Some k) None)) read
    ∙ cond-true (ltb n 256) _ _ (lt-ltb n 256 small)

digits_same : (t : List ℕ) (n : ℕ) → IsNumeral 10 t → n ≡ digits_value 10 t → n < 2 ^ 64 → (get_or t 0 0 ≡ 48 → length t ≡ 1) → t ≡ decimal n
digits_same t n digits value small leading =
    sym (decimal-digits_value (numerals_by_value (AllDigits 10) tells_digits) t digits.1 digits.0 leading (omega arith)) ∙ ap decimal (sym value)

part_reading : (t : List ℕ) (n : ℕ) → part_read t ≡ Some n → (n < 256) × (t ≡ decimal n)
unfolding part_read
part_reading t n h =
    cond_both (ltb 1 (length t) && eqb (get_or t 0 0) 48) None _ (λ r. r ≡ Some n → (n < 256) × (t ≡ decimal n))
    (λ _ r. absurd (none-some n r))
    (λ plain r.
    option_and_then_some (λ k. cond (ltb k 256) (Some k) None) (short_read 10 3 t) n r (λ k read below.
    let (inside, same) = cond_some (ltb k 256) k n below in
    let small = ltb-true k 256 inside in
    let digits = IsNumeral-short_read 10 3 t k read in
    let leading : get_or t 0 0 ≡ 48 → length t ≡ 1 = λ same_zero.
    elim (and_cases (ltb 1 (length t)) (eqb (get_or t 0 0) 48) plain) [
      | inl short ↦ omega (arith, ltb-false 1 (length t) short, digits.0.0)
      | inr other ↦ absurd (eqb-false _ 48 other same_zero)
    ] in
    (omega (arith, same), digits_same t n digits.0 (sym same ∙ digits.2) (omega (arith, same)) leading))) h

-- four numbers, joined
abbrev dotted : List ℕ → List ℕ → List ℕ → List ℕ → List ℕ
dotted a b c d = a ++ (46 ∷ (b ++ (46 ∷ (c ++ (46 ∷ d)))))

ip4_shown-dotted : (v : ℕ) → ip4_shown v ≡ dotted (decimal (v / 2 ^ 24 % 256)) (decimal (v / 2 ^ 16 % 256)) (decimal (v / 2 ^ 8 % 256)) (decimal (v % 256))
unfolding ip4_shown
ip4_shown-dotted v =
    ap (dotted (decimal (v / 2 ^ 24 % 256)) (decimal (v / 2 ^ 16 % 256)) (decimal (v / 2 ^ 8 % 256))) (append-nil (decimal (v % 256)))

Lacks-decimal : (n : ℕ) → n < 256 → Lacks 46 (decimal n)
Lacks-decimal n small = Lacks-from_AllDigits 46 10 (decimal n) (lit≤ tt) (decimal_is_IsNumeral n (omega arith)).0.1

ip4_of-dotted : (a b c d : ℕ) → a < 256 → b < 256 → c < 256 → d < 256 → ip4_of (dotted (decimal a) (decimal b) (decimal c) (decimal d)) ≡ Some (from_be_bytes w32 (a ∷ b ∷ c ∷ d ∷ []))
unfolding ip4_of
ip4_of-dotted a b c d ha hb hc hd =
    let first = cut_at-first 46 (decimal a) (decimal b ++ (46 ∷ (decimal c ++ (46 ∷ decimal d)))) (Lacks-decimal a ha) in
    let second = cut_at-first 46 (decimal b) (decimal c ++ (46 ∷ decimal d)) (Lacks-decimal b hb) in
    let third = cut_at-first 46 (decimal c) (decimal d) (Lacks-decimal c hc) in
    rw (first, second, third, part_read-decimal a ha, part_read-decimal b hb, part_read-decimal c hc, part_read-decimal d hd) refl

pub ip4_from_shown : (v : ℕ) → v < 2 ^ 32 → ip4_of (ip4_shown v) ≡ Some v
ip4_from_shown v small =
    ap ip4_of (ip4_shown-dotted v)
    ∙ ip4_of-dotted (v / 2 ^ 24 % 256) (v / 2 ^ 16 % 256) (v / 2 ^ 8 % 256) (v % 256) (omega arith) (omega arith) (omega arith) (omega arith)
    ∙ ap Some (from_be_bytes-to_be_bytes_4 v small)

-- the text of an address is read as the address
pub ip4_found : (t : List ℕ) (v : ℕ) → v < 2 ^ 32 → t ≡ ip4_shown v → ip4_of t ≡ Some v
ip4_found t v small e = ap ip4_of e ∙ ip4_from_shown v small

dotted_shown : (a b c d : ℕ) → a < 256 → b < 256 → c < 256 → d < 256 → dotted (decimal a) (decimal b) (decimal c) (decimal d) ≡ ip4_shown (from_be_bytes w32 (a ∷ b ∷ c ∷ d ∷ []))
unfolding ip4_shown
dotted_shown a b c d ha hb hc hd =
    ap (dotted (decimal a) (decimal b) (decimal c)) (sym (append-nil (decimal d)))
    ∙ ap (join_by decimal (codes ".")) (sym (be_bytes_4 (a ∷ b ∷ c ∷ d ∷ []) _ refl small refl))
  where
    small : (i : ℕ) → get_or (a ∷ b ∷ c ∷ d ∷ []) i 0 < 256
    small zero = ha
    small (suc zero) = hb
    small (suc (suc zero)) = hc
    small (suc (suc (suc zero))) = hd
    small (suc (suc (suc (suc i)))) = lit< tt

ip4_reading : (t : List ℕ) (v : ℕ) → ip4_of t ≡ Some v → t ≡ ip4_shown v
unfolding ip4_of
ip4_reading t v h =
    option_and_then_some _ (cut_at 46 t) v h (λ first cut1 h1.
    option_and_then_some _ (cut_at 46 first.1) v h1 (λ second cut2 h2.
    option_and_then_some _ (cut_at 46 second.1) v h2 (λ third cut3 h3.
    option_and_then_some _ (part_read first.0) v h3 (λ a read1 h4.
    option_and_then_some _ (part_read second.0) v h4 (λ b read2 h5.
    option_and_then_some _ (part_read third.0) v h5 (λ c read3 h6.
    option_and_then_some _ (part_read third.1) v h6 (λ d read4 h7.
    let (ha, ea) = part_reading first.0 a read1 in
    let (hb, eb) = part_reading second.0 b read2 in
    let (hc, ec) = part_reading third.0 c read3 in
    let (hd, ed) = part_reading third.1 d read4 in
    cut_parts 46 t first cut1
    ∙ ap₂ (λ (x y : List ℕ). x ++ (46 ∷ y)) ea (cut_parts 46 first.1 second cut2
    ∙ ap₂ (λ (x y : List ℕ). x ++ (46 ∷ y)) eb (cut_parts 46 second.1 third cut3
    ∙ ap₂ (λ (x y : List ℕ). x ++ (46 ∷ y)) ec ed))
    ∙ dotted_shown a b c d ha hb hc hd
    ∙ ap ip4_shown (same_Some _ _ h7))))))))

pub ip4_only : (t : List ℕ) (r : Option ℕ) → r ≡ ip4_of t → IfSome r (λ v. t ≡ ip4_shown v)
ip4_only t None e = tt
ip4_only t (Some v) e = ip4_reading t v (sym e)

-- its characters are ASCII
dotted_ascii : (a b c d : ℕ) → a < 256 → b < 256 → c < 256 → d < 256 → IsAscii (dotted (decimal a) (decimal b) (decimal c) (decimal d))
dotted_ascii a b c d ha hb hc hd =
    IsAscii-append (decimal a) _ (part a ha) (behind _ (IsAscii-append (decimal b) _ (part b hb) (behind _ (IsAscii-append (decimal c) _ (part c hc) (behind (decimal d) (part d hd))))))
  where
    part : (n : ℕ) → n < 256 → IsAscii (decimal n)
    part n small = IsAscii-decimal n (omega arith)

    behind : (text : List ℕ) → IsAscii text → IsAscii (46 ∷ text)
    behind text ascii zero = lit< tt
    behind text ascii (suc i) = ascii i

pub ip4_ascii : (v : ℕ) → All (λ byte. byte < 128) (ip4_shown v)
ip4_ascii v =
    subst (λ (text : List ℕ). All (λ byte. byte < 128) text) (sym (ip4_shown-dotted v))
    (All-from_ascii _ (dotted_ascii (v / 2 ^ 24 % 256) (v / 2 ^ 16 % 256) (v / 2 ^ 8 % 256) (v % 256) (omega arith) (omega arith) (omega arith) (omega arith)))
