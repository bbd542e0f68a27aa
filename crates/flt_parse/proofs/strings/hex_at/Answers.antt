use Rattle.std.proofs.Common.{◌≡◌, ℕ, ◌+◌, ◌*◌, ◌<◌, ◌≤◌, Bool, true, false, List, [], ◌∷◌, length, get_or, Some, None, ltb, refl, sym, ap, ◌∙◌, subst, arith}
use Rattle.std.specs.Char.{digit_value, is_digit}
use Rattle.std.proofs.lemmas.Bool.{lt-ltb, ltb-true}
use Rattle.flt_syntax.specs.Strings.{hex_byte}
use Rattle.flt_parse.proofs.strings.hex_at.Goals as goal

abbrev IsRead : ℕ → ℕ → Type 0
IsRead byte digit = (digit_value byte < 16) × (digit ≡ digit_value byte)

both_read : (text : List ℕ) (a b high low : ℕ) → 2 ≤ length text → a ≡ get_or text 0 0 → b ≡ get_or text 1 0 → IsRead a high → IsRead b low
    → Some (high * 16 + low, 4) ≡ hex_byte text
both_read [] a b high low long p q h l = absurd (omega arith)
both_read (x ∷ []) a b high low long p q h l = absurd (omega arith)
both_read (x ∷ y ∷ rest) a b high low long p q h l =
    let first : is_digit x 16 ≡ true = lt-ltb (digit_value x) 16 (subst (λ n. digit_value n < 16) p h.0) in
    let second : is_digit y 16 ≡ true = lt-ltb (digit_value y) 16 (subst (λ n. digit_value n < 16) q l.0) in
    let above : high ≡ digit_value x = h.1 ∙ ap digit_value p in
    let below : low ≡ digit_value y = l.1 ∙ ap digit_value q in
    rw (first, second, above, below) refl

-- a digit that is none
decided : (n : ℕ) (t : Bool) → t ≡ ltb n 16 → (n < 16 → ⊥) → t ≡ false
decided n true e beyond = absurd (beyond (ltb-true n 16 (sym e)))
decided n false e beyond = refl

high_wrong : (text : List ℕ) (a : ℕ) → 2 ≤ length text → a ≡ get_or text 0 0 → (digit_value a < 16 → ⊥) → None ≡ hex_byte text
high_wrong [] a long p beyond = absurd (omega arith)
high_wrong (x ∷ []) a long p beyond = absurd (omega arith)
high_wrong (x ∷ y ∷ rest) a long p beyond =
    let wrong : is_digit x 16 ≡ false = decided (digit_value x) (is_digit x 16) refl (subst (λ n. digit_value n < 16 → ⊥) p beyond) in
    rw wrong refl

low_wrong : (text : List ℕ) (a b : ℕ) → 2 ≤ length text → a ≡ get_or text 0 0 → b ≡ get_or text 1 0 → digit_value a < 16 → (digit_value b < 16 → ⊥) → None ≡ hex_byte text
low_wrong [] a b long p q h beyond = absurd (omega arith)
low_wrong (x ∷ []) a b long p q h beyond = absurd (omega arith)
low_wrong (x ∷ y ∷ rest) a b long p q h beyond =
    let first : is_digit x 16 ≡ true = lt-ltb (digit_value x) 16 (subst (λ n. digit_value n < 16) p h) in
    let wrong : is_digit y 16 ≡ false = decided (digit_value y) (is_digit y 16) refl (subst (λ n. digit_value n < 16 → ⊥) q beyond) in
    rw (first, wrong) refl

pub returns-in_err-high : goal.returns-in_err-high
returns-in_err-high c =
    rw c.from_residual.ensures (high_wrong c.args.text.now c.from.result c.in-len2-up.len_at_least c.from.ensures c.in_err-high.ensures.value)

pub returns-in_err-low : goal.returns-in_err-low
returns-in_err-low c =
    rw c.from_residual-in_err-low.ensures
    (low_wrong c.args.text.now c.from.result c.from-2.result c.in-len2-up.len_at_least c.from.ensures c.from-2.ensures c.in_ok-high.ensures.value.0 c.in_err-low.ensures.value)

pub returns : goal.returns
returns c = both_read c.args.text.now _ _ _ _ c.in-len2-up.len_at_least c.from.ensures c.from-2.ensures c.in_ok-high.ensures.value c.in_ok-low.ensures.value
