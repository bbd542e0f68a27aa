-- Where `cut_at` cuts a text.
use Rattle.std.proofs.Common.{◌≡◌, ◌≢◌, ℕ, ◌+◌, ◌<◌, ◌≤◌, not, List, [], ◌∷◌, ◌++◌, eqb, ltb, length, take, drop, Some, None, length-append, refl, sym, ap, ap₂, ◌∙◌, zero-add, arith}
use Rattle.std.specs.List.{AllByRecursion, position_or_len, before_first, after_first}
use Rattle.std.specs.Char.{digit_value}
use Rattle.std.specs.Str.Parse.{AllDigits}
use Rattle.std.proofs.lemmas.Bool.{ne_eqb, eq-eqb, eqb-true, ltb-true, lt-ltb, le-ltb, cond-true, cond-false}
use Rattle.std.proofs.lemmas.Option.{cond_some}
use Rattle.std.proofs.lemmas.List.Sums.{split_at_first, passes_at_first}
use Rattle.std.proofs.lemmas.List.{append-nil}
use Rattle.std.proofs.Math.Seq.{take-append_seam, drop-append-add}
use Rattle.pk_text.specs.Cut.{cut_at}

-- no byte of the text is c
abbrev pub Lacks : ℕ → List ℕ → Type 0
Lacks c xs = AllByRecursion (λ x. x ≢ c) xs

-- digits hold no byte that is none
pub Lacks-from_AllDigits : (c radix : ℕ) (ds : List ℕ) → radix ≤ digit_value c → AllDigits radix ds → Lacks c ds
Lacks-from_AllDigits c radix [] h all = tt
Lacks-from_AllDigits c radix (d ∷ ds) h all =
    (λ e. absurd (omega (arith, ap digit_value e, all.0)), Lacks-from_AllDigits c radix ds h all.1)

position_past : (c : ℕ) (xs ys : List ℕ) → Lacks c xs → position_or_len (λ b. eqb b c) (xs ++ ys) ≡ length xs + position_or_len (λ b. eqb b c) ys
position_past c [] ys h = sym (zero-add _)
position_past c (x ∷ xs) ys h =
    let later = position_past c xs ys h.1 in
    cond-true (not (eqb x c)) _ _ (ap not (ne_eqb x c h.0)) ∙ omega arith

position_here : (c : ℕ) (ys : List ℕ) → position_or_len (λ b. eqb b c) (c ∷ ys) ≡ 0
position_here c ys = cond-false (not (eqb c c)) _ _ (ap not (eq-eqb c c refl))

cut_from : (c : ℕ) (t : List ℕ) (n : ℕ) → position_or_len (λ b. eqb b c) t ≡ n → n < length t → cut_at c t ≡ Some (take n t, drop (n + 1) t)
cut_from c t n e h = rw e (cond-true (ltb n (length t)) _ _ (lt-ltb n (length t) h))

-- the cut is at the first c
pub cut_at-first : (c : ℕ) (xs ys : List ℕ) → Lacks c xs → cut_at c (xs ++ c ∷ ys) ≡ Some (xs, ys)
cut_at-first c xs ys h =
    let at : position_or_len (λ b. eqb b c) (xs ++ c ∷ ys) ≡ length xs =
    position_past c xs (c ∷ ys) h ∙ omega (arith, position_here c ys) in
    cut_from c (xs ++ c ∷ ys) (length xs) at (omega (arith, length-append xs (c ∷ ys)))
    ∙ ap₂ (λ a b. Some (a, b)) (take-append_seam xs (c ∷ ys)) (drop-append-add xs (c ∷ ys) 1)

-- where there is none, there is no cut
pub cut_at-none : (c : ℕ) (xs : List ℕ) → Lacks c xs → cut_at c xs ≡ None
cut_at-none c xs h =
    let at : position_or_len (λ b. eqb b c) (xs ++ []) ≡ length xs = position_past c xs [] h ∙ omega arith in
    let whole : position_or_len (λ b. eqb b c) xs ≡ length xs = rw append-nil at at in
    rw whole (cond-false (ltb (length xs) (length xs)) _ _ (le-ltb _ _ (omega arith)))

-- the text is made of the two parts, and the c between them
pub cut_parts : (c : ℕ) (t : List ℕ) (p : List ℕ × List ℕ) → cut_at c t ≡ Some p → t ≡ p.0 ++ c ∷ p.1
cut_parts c t p h =
    let cut = cond_some (ltb (position_or_len (λ b. eqb b c) t) (length t)) (before_first (λ b. eqb b c) t, after_first (λ b. eqb b c) t) p h in
    let inside = ltb-true (position_or_len (λ b. eqb b c) t) (length t) cut.0 in
    let at_c = eqb-true _ c (passes_at_first (λ b. eqb b c) t 0 inside) in
    split_at_first (λ b. eqb b c) t 0 inside
    ∙ ap (λ b. before_first (λ b'. eqb b' c) t ++ b ∷ after_first (λ b'. eqb b' c) t) at_c
    ∙ ap (λ q. q.0 ++ c ∷ q.1) cut.1
