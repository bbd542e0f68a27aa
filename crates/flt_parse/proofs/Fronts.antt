-- A sign in front has some bytes, and no more than the text that it begins.
use Rattle.std.proofs.Common.{◌≡◌, ℕ, ◌+◌, ◌<◌, ◌≤◌, Bool, true, false, nat_eq, List, [], ◌∷◌, ◌++◌, Option, Some, cond, length, length-append, get_or, drop, take-append-drop, arith, ap, sym, ◌∙◌, refl, subst}
use Rattle.std.specs.List.{find, starts_with}
use Rattle.std.specs.Prelude.{IfSome}
use Rattle.std.proofs.lemmas.Bool.{cond-false, cond-true}
use Rattle.std.proofs.lemmas.List.{at_drop_more}
use Rattle.std.proofs.lemmas.Slice.Eq.{bytes_eq-Decides}
use Rattle.flt_syntax.specs.Tokens.{all_signs, first_sign, sign_text}
use Rattle.flt_syntax.specs.declared.token.Sign.{Sign}
use Rattle.flt_syntax.specs.declared.token.Sign.TheVariants as signs

front_fits : (text needle : List ℕ) → starts_with nat_eq text needle ≡ true → length needle ≤ length text
front_fits text needle e =
    let whole : needle ++ drop (length needle) text ≡ text =
    ap (λ front. front ++ drop (length needle) text) ((bytes_eq-Decides needle _).0 e) ∙ take-append-drop (length needle) text in
    let long = ap length whole in
    omega (arith, long, length-append needle (drop (length needle) text))

sign_some : (s : Sign) → 0 < length (sign_text s)
sign_some signs.AllEqual = omega arith
sign_some signs.AnyUnequal = omega arith
sign_some signs.Equal = omega arith
sign_some signs.Unequal = omega arith
sign_some signs.AtLeast = omega arith
sign_some signs.AtMost = omega arith
sign_some signs.And = omega arith
sign_some signs.Or = omega arith
sign_some signs.Xor = omega arith
sign_some signs.DotDot = omega arith
sign_some signs.Open = omega arith
sign_some signs.Close = omega arith
sign_some signs.OpenBrace = omega arith
sign_some signs.CloseBrace = omega arith
sign_some signs.OpenBracket = omega arith
sign_some signs.CloseBracket = omega arith
sign_some signs.Comma = omega arith
sign_some signs.Hash = omega arith
sign_some signs.Greater = omega arith
sign_some signs.Less = omega arith
sign_some signs.Tilde = omega arith
sign_some signs.Mask = omega arith
sign_some signs.Not = omega arith
sign_some signs.Plus = omega arith
sign_some signs.Minus = omega arith
sign_some signs.Star = omega arith

abbrev Fits : List ℕ → Sign → Type 0
Fits bytes s = (0 < length (sign_text s)) × (length (sign_text s) ≤ length bytes)

fits_first : (bytes : List ℕ) (test : Bool) (s : Sign) (rest : Option Sign) → (test ≡ true → Fits bytes s) → IfSome rest (Fits bytes) → IfSome (cond test (Some s) rest) (Fits bytes)
fits_first bytes true s rest first more = first refl
fits_first bytes false s rest first more = more

fits_in : (bytes : List ℕ) (ss : List Sign) → IfSome (find (λ s. starts_with nat_eq bytes (sign_text s)) ss) (Fits bytes)
fits_in bytes [] = tt
fits_in bytes (s ∷ ss) =
    fits_first bytes (starts_with nat_eq bytes (sign_text s)) s (find (λ t. starts_with nat_eq bytes (sign_text t)) ss)
    (λ e. (sign_some s, front_fits bytes (sign_text s) e)) (fits_in bytes ss)

pub sign_fits : (bytes : List ℕ) → IfSome (first_sign bytes) (λ s. (0 < length (sign_text s)) × (length (sign_text s) ≤ length bytes))
sign_fits bytes = fits_in bytes all_signs

pub found_fits : (bytes : List ℕ) (s : Sign) → Some s ≡ first_sign bytes → (0 < length (sign_text s)) × (length (sign_text s) ≤ length bytes)
found_fits bytes s found = subst (λ found. IfSome found (Fits bytes)) (sym found) (sign_fits bytes)

-- the first that passes, from a place on
pub found_here : {A : Type 0} (p : A → Bool) (xs : List A) (i : ℕ) (d : A) → i < length xs → p (get_or xs i d) ≡ true → find p (drop i xs) ≡ Some (get_or xs i d)
found_here p xs i d inside passes = at_drop_more (find p) xs i d inside ∙ cond-true _ _ _ passes

pub found_later : {A : Type 0} (p : A → Bool) (xs : List A) (i : ℕ) (d : A) → i < length xs → p (get_or xs i d) ≡ false → find p (drop i xs) ≡ find p (drop (i + 1) xs)
found_later p xs i d inside fails = at_drop_more (find p) xs i d inside ∙ cond-false _ _ _ fails
