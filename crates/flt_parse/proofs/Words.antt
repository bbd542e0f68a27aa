-- Words are ASCII, so no character is cut at their ends.
use Rattle.std.proofs.Common.{◌≡◌, ℕ, zero, suc, ◌+◌, ◌-◌, ◌<◌, ◌≤◌, Bool, true, false, ◌&&◌, not, nat_eq, List, [], ◌∷◌, length, length-drop, drop, get_or, add-zero, arith, cond, refl, codes, subst}
use Rattle.std.specs.List.{starts_with}
use Rattle.std.specs.Str.{IsUtf8, IsCharBoundary}
use Rattle.std.proofs.lemmas.Bool.{and_parts}
use Rattle.std.proofs.lemmas.Bool.Decides.{nat_tests}
use Rattle.std.proofs.lemmas.List.{get_or-drop}
use Rattle.std.proofs.lemmas.Str.{IsCharBoundary-before_ascii, IsCharBoundary-after_ascii}
use Rattle.flt_syntax.specs.Letters.{is_word_byte, word_len}

is_ascii : (b : ℕ) → is_word_byte b ≡ true → b < 128
is_ascii b h = grind (arith, nat_tests)

one_more : (t : Bool) (n i : ℕ) → i < cond t (suc n) 0 → (t ≡ true) × (i < suc n)
one_more true n i h = (refl, h)
one_more false n i h = absurd (omega arith)

in_word : (bytes : List ℕ) (i : ℕ) → i < word_len bytes → get_or bytes i 0 < 128
in_word [] i h = absurd (omega arith)
in_word (b ∷ bytes) zero h =
    is_ascii b (and_parts _ _ (one_more (is_word_byte b && not (starts_with nat_eq (b ∷ bytes) (codes ".."))) (word_len bytes) zero h).0).0
in_word (b ∷ bytes) (suc i) h =
    in_word bytes i (let inside = (one_more (is_word_byte b && not (starts_with nat_eq (b ∷ bytes) (codes ".."))) (word_len bytes) (suc i) h).1 in omega arith)

longer : (t : Bool) (n m : ℕ) → n ≤ m → cond t (suc n) 0 ≤ suc m
longer true n m h = omega arith
longer false n m h = omega arith

word_fits : (bytes : List ℕ) → word_len bytes ≤ length bytes
word_fits [] = omega arith
word_fits (b ∷ bytes) =
    longer (is_word_byte b && not (starts_with nat_eq (b ∷ bytes) (codes ".."))) (word_len bytes) (length bytes) (word_fits bytes)

pub word_begins : (text : List ℕ) (at : ℕ) → at ≤ length text → 0 < word_len (drop at text) → IsCharBoundary text at
word_begins text at inside some =
    let fits = word_fits (drop at text) in
    let small = in_word (drop at text) 0 some in
    IsCharBoundary-before_ascii text at (omega (arith, length-drop at text)) (simp (get_or-drop, add-zero) at small)

pub word_ends : (text : List ℕ) (at : ℕ) → IsUtf8 text → at ≤ length text → 0 < word_len (drop at text) → IsCharBoundary text (at + word_len (drop at text))
word_ends text at utf8 inside some =
    let fits = word_fits (drop at text) in
    let last : word_len (drop at text) - 1 < word_len (drop at text) = omega arith in
    let small = in_word (drop at text) (word_len (drop at text) - 1) last in
    let there : at + (word_len (drop at text) - 1) + 1 ≡ at + word_len (drop at text) = omega arith in
    subst (IsCharBoundary text) there
    (IsCharBoundary-after_ascii text (at + (word_len (drop at text) - 1)) utf8 (omega (arith, length-drop at text)) (rw get_or-drop at small))
