-- Lanes of vectors: the digits of numbers below 16, and of bytes.
use Rattle.std.proofs.Common.{◌≡◌, ℕ, zero, ◌+◌, ◌/◌, ◌%◌, ◌^◌, ◌<◌, Bool, true, false, cond, ltb, leb, bit_and, List, [], ◌∷◌, ◌++◌, length, map, replicate, suc, refl, ap, ap₂, ◌∙◌, subst, arith}
use Rattle.std.specs.List.{All, AllByRecursion as Each, flat_map}
use Rattle.std.proofs.lemmas.List.Elements.{All-from_recursion}
use Rattle.std.specs.Fmt.{digit_glyph}
use Rattle.pk_text.specs.Digits.{hex_pair, hex_shown}
use Rattle.std.proofs.lemmas.Bool.{ltb-true, ltb-false}
use lib.Lanes.{Each1, zip2, pick_l, sel_l, top}
use Rattle.std.proofs.lemmas.Nat.{and_mask}
use Rattle.std.proofs.lemmas.Simd.{map-map, pick_l_whole, zip2_splat}

glyph_by : (x : ℕ) (letter low : Bool) → x < 16 → ltb 9 x ≡ letter → ltb x 10 ≡ low → (x + cond (leb 128 (cond letter 255 0)) 87 48) % 256 ≡ cond low (48 + x) (87 + x)
glyph_by x true true small above below = absurd (omega (arith, ltb-true 9 x above, ltb-true x 10 below))
glyph_by x true false small above below = omega arith
glyph_by x false true small above below = omega arith
glyph_by x false false small above below = absurd (omega (arith, ltb-false 9 x above, ltb-false x 10 below))

-- lanes that are compared, chosen and added, as `glyphs` does it
pub lanes_are_glyphs : (n : ℕ) (xs : List ℕ) → length xs ≡ n → Each1 (λ x. x < 16) xs
    → zip2 (λ x y. (x + y) % 256) xs (sel_l (map (top 7) (zip2 (λ a b. cond (ltb a b) 255 0) (replicate n 9) xs)) (replicate n 87) (replicate n 48)) ≡ map (digit_glyph false) xs
lanes_are_glyphs zero [] long small = refl
lanes_are_glyphs zero (x ∷ xs) long small = absurd (omega (arith, long))
lanes_are_glyphs (suc n) [] long small = absurd (omega (arith, long))
lanes_are_glyphs (suc n) (x ∷ xs) long small =
    ap₂ (λ (y : ℕ) (ys : List ℕ). y ∷ ys) (glyph_by x (ltb 9 x) (ltb x 10) small.0 refl refl) (lanes_are_glyphs n xs (omega (arith, long)) small.1)

-- sixteen lanes by turns with sixteen others
abbrev by_turns : List ℕ
by_turns = 0 ∷ 16 ∷ 1 ∷ 17 ∷ 2 ∷ 18 ∷ 3 ∷ 19 ∷ 4 ∷ 20 ∷ 5 ∷ 21 ∷ 6 ∷ 22 ∷ 7 ∷ 23 ∷ 8 ∷ 24 ∷ 9 ∷ 25 ∷ 10 ∷ 26 ∷ 11 ∷ 27 ∷ 12 ∷ 28 ∷ 13 ∷ 29 ∷ 14 ∷ 30 ∷ 15 ∷ 31 ∷ []

pub woven : (f g : ℕ → ℕ) (xs : List ℕ) → length xs ≡ 16
    → pick_l 0 (map f xs ++ map g xs) by_turns
    ≡ flat_map (λ x. f x ∷ g x ∷ []) xs
woven f g xs long =
    subst (λ (ys : List ℕ). pick_l 0 (map f ys ++ map g ys) by_turns ≡ flat_map (λ x. f x ∷ g x ∷ []) ys)
    (pick_l_whole 0 xs 16 long) refl

pub low_part : (x : ℕ) → bit_and x 15 ≡ x % 16
low_part x = and_mask x 4

-- what `block_digits` makes of sixteen bytes
pub block_shown : (block high low : List ℕ) → length block ≡ 16
    → high ≡ map (digit_glyph false) (zip2 (λ x y. x / 2 ^ y) block (replicate 16 4))
    → low ≡ map (digit_glyph false) (zip2 bit_and block (replicate 16 15))
    → pick_l 0 (high ++ low) by_turns ≡ hex_shown block
unfolding hex_shown
block_shown block high low long first second =
    let upper : high ≡ map (λ x. digit_glyph false (x / 16)) block =
    first ∙ ap (map (digit_glyph false)) (zip2_splat (λ x y. x / 2 ^ y) block 16 4 long) ∙ map-map (digit_glyph false) (λ x. x / 2 ^ 4) block in
    let lower : low ≡ map (λ x. digit_glyph false (bit_and x 15)) block =
    second ∙ ap (map (digit_glyph false)) (zip2_splat bit_and block 16 15 long) ∙ map-map (digit_glyph false) (λ x. bit_and x 15) block in
    let same : map (λ x. digit_glyph false (bit_and x 15)) block ≡ map (λ x. digit_glyph false (x % 16)) block = ap (λ (f : ℕ → ℕ). map (λ x. digit_glyph false (f x)) block) (λ i x. low_part x i) in
    ap₂ (λ (xs ys : List ℕ). pick_l 0 (xs ++ ys) by_turns) upper (lower ∙ same) ∙ woven (λ x. digit_glyph false (x / 16)) (λ x. digit_glyph false (x % 16)) block long

either_below : (low : Bool) (d : ℕ) → d < 16 → cond low (48 + d) (87 + d) < 128
either_below true d small = omega arith
either_below false d small = omega arith

pub ascii_shown : (bytes : List ℕ) → Each1 (λ x. x < 256) bytes → All (λ digit. digit < 128) (hex_shown bytes)
unfolding hex_shown
ascii_shown bytes small = All-from_recursion (λ (digit : ℕ). digit < 128) _ (each bytes small)
  where
    each : (bytes : List ℕ) → Each1 (λ x. x < 256) bytes → Each (λ digit. digit < 128) (flat_map hex_pair bytes)
    each [] small = tt
    each (x ∷ xs) small =
        let below = small.0 in
        (either_below (ltb (x / 16) 10) (x / 16) (omega (arith, below)), (either_below (ltb (x % 16) 10) (x % 16) (omega arith), each xs small.1))
