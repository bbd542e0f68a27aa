-- Where memchr finds a needle, and where a needle stands.
use Rattle.std.proofs.Common.{◌≡◌, ℕ, ◌+◌, ◌<◌, true, List, [], ◌∷◌, ◌++◌, Option, Some, None, length, take, drop, refl, sym, ap, ◌∙◌, arith, ⊎_elim, take-append-drop, length-append}
use Rattle.std.specs.Prelude.{◌↔◌, nat_eq, is_some, IsTrue}
use Rattle.std.specs.List.{starts_with}
use Rattle.std.proofs.Math.Seq.{take-append_seam, drop-append_seam}
use Rattle.std.proofs.lemmas.Bool.{cases_Bool, or_cases, or_left, or_right}
use Rattle.std.proofs.lemmas.Slice.Eq.{bytes_eq-Decides}
use Rattle.memchr.specs.Find.{OccursAt, FindsNeedle}
use Rattle.memchr.proofs.lemmas.MatchLemmas.{OccursAt-split, OccursAt-from_part}
use Rattle.flt_typed.specs.Contains.{StandsIn, contains}

-- a needle at the front of a text
front_only : (text needle : List ℕ) → starts_with nat_eq text needle ≡ true → text ≡ needle ++ drop (length needle) text
front_only text needle e = sym (ap (λ p. p ++ drop (length needle) text) ((bytes_eq-Decides needle _).0 e) ∙ take-append-drop (length needle) text)

front_found : (text needle rest : List ℕ) → text ≡ needle ++ rest → starts_with nat_eq text needle ≡ true
front_found text needle rest e = (bytes_eq-Decides needle _).1 (sym (ap (take (length needle)) e ∙ take-append_seam needle rest))

-- a text that begins with a needle has it
begins : (text needle : List ℕ) → starts_with nat_eq text needle ≡ true → contains text needle ≡ true
unfolding contains
begins [] needle e = e
begins (byte ∷ text) needle e = or_left _ _ e

has_stood : (front needle rest : List ℕ) → contains (front ++ (needle ++ rest)) needle ≡ true
unfolding contains
has_stood [] needle rest = begins (needle ++ rest) needle (front_found _ needle rest refl)
has_stood (byte ∷ front) needle rest = or_right _ _ (has_stood front needle rest)

has_only : (text needle : List ℕ) → contains text needle ≡ true → StandsIn text needle
unfolding contains
has_only [] needle e = ([], drop (length needle) [], front_only [] needle e)
has_only (byte ∷ text) needle e =
    ⊎_elim (λ f. ([], drop (length needle) (byte ∷ text), front_only (byte ∷ text) needle f))
    (λ l. let s = has_only text needle l in (byte ∷ s.0, s.1, ap (λ t. byte ∷ t) s.2))
    (or_cases _ _ e)

has_found : (text needle : List ℕ) → StandsIn text needle → contains text needle ≡ true
has_found text needle s = ap (λ t. contains t needle) s.2 ∙ has_stood s.0 needle s.1

pub contains_stands : (text needle : List ℕ) → IsTrue (contains text needle) ↔ StandsIn text needle
contains_stands text needle = (has_only text needle, has_found text needle)

-- the needle is at a place
occurs : (text needle : List ℕ) → StandsIn text needle → (k : ℕ) × (k < length text + 1) × OccursAt text needle k
occurs text needle s =
    let behind : drop (length s.0) text ≡ needle ++ s.1 = ap (drop (length s.0)) s.2 ∙ drop-append_seam s.0 (needle ++ s.1) in
    let part : take (length needle) (drop (length s.0) text) ≡ needle = ap (take (length needle)) behind ∙ take-append_seam needle s.1 in
    let size : length text ≡ length s.0 + (length needle + length s.1) =
    ap length s.2 ∙ (length-append s.0 (needle ++ s.1) ∙ ap (λ n. length s.0 + n) (length-append needle s.1)) in
    (length s.0, omega (arith, size), OccursAt-from_part text needle (length s.0) (omega (arith, size)) part)

-- what a search finds, or doesn't
pub search_contains : (text needle : List ℕ) (r : Option ℕ) → FindsNeedle text needle 0 r → is_some r ≡ contains text needle
search_contains text needle (Some k) f =
    sym (has_found text needle (
      take k text,
      drop (k + length needle) text,
      sym (take-append-drop k text) ∙ ap (λ t. take k text ++ t) (OccursAt-split text needle k f.1),
    ))
search_contains text needle None f =
    ⊎_elim (λ t. let o = occurs text needle (has_only text needle t) in absurd (f o.0 (omega arith) o.1 o.2)) sym
    (cases_Bool (contains text needle))
