use Rattle.std.proofs.Common.{ℕ, ◌/◌, ◌^◌, ◌<◌, List, replicate, bit_and, arith, ap, ◌∙◌, w8, take_all, Fits, subst, sym}
use Rattle.std.specs.List.{All}
use lib.Lanes.{Each1, chunk}
use Rattle.std.proofs.lemmas.Simd.{Each1-zip2, Each2-splat, Each1-all, Each1-weaker, chunk-fits, below_from_Fits, length-chunk, length-zip2}
use Rattle.pk_text.specs.Digits.{hex_shown}
use Rattle.pk_text.proofs.HexLemmas.{ascii_shown, block_shown, low_part}
use Rattle.pk_text.proofs.hex.block_digits.Goals as goal

pub glyphs-high-requires-clause-small : goal.glyphs-high-requires-clause-small
glyphs-high-requires-clause-small c =
    let block = chunk 0 16 c.args.bytes.now in
    let high = Each1-weaker (λ x. x < 2 ^ 8) (λ x. x / 2 ^ 4 < 16) (λ x below. omega (arith, below)) block (below_from_Fits w8 block (chunk-fits w8 0 16 c.args.bytes.now c.type_inv.bytes)) in
    Each1-zip2 (λ x y. x / 2 ^ y) (λ x. x < 16) block (replicate 16 4) (Each2-splat (λ x y. x / 2 ^ y < 16) block 16 4 high)

pub glyphs-low-requires-clause-long : goal.glyphs-low-requires-clause-long
glyphs-low-requires-clause-long c =
    let block = chunk 0 16 c.args.bytes.now in
    length-zip2 bit_and block (replicate 16 15) (length-chunk 0 16 c.args.bytes.now (omega arith)) ∙ length-chunk 0 16 c.args.bytes.now (omega arith)

pub glyphs-low-requires-clause-small : goal.glyphs-low-requires-clause-small
glyphs-low-requires-clause-small c =
    let block = chunk 0 16 c.args.bytes.now in
    Each1-zip2 bit_and (λ x. x < 16) block (replicate 16 15) (Each2-splat (λ x y. bit_and x y < 16) block 16 15 (Each1-all (λ x. bit_and x 15 < 16) (λ x. omega (arith, low_part x)) block))

pub returns-clause-text : goal.returns-clause-text
returns-clause-text c =
    let bytes = c.args.bytes.now in
    block_shown (chunk 0 16 bytes) c.glyphs-high.result c.glyphs-low.result (length-chunk 0 16 bytes (omega arith)) c.glyphs-high.ensures c.glyphs-low.ensures
    ∙ ap hex_shown (take_all 16 bytes (omega arith))

pub returns-clause-ascii : goal.returns-clause-ascii
returns-clause-ascii c =
    let bytes = c.args.bytes.now in
    let small = below_from_Fits w8 bytes (subst (λ (block : List ℕ). Each1 (Fits w8) block) (take_all 16 bytes (omega arith)) (chunk-fits w8 0 16 bytes c.type_inv.bytes)) in
    subst (λ (digits : List ℕ). All (λ (digit : ℕ). digit < 128) digits) (sym (returns-clause-text c)) (ascii_shown bytes small)
