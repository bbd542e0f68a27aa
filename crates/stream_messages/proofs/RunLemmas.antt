-- Runs of bytes that pass a test.
use Rattle.std.proofs.Common.{◌≡◌, ℕ, Bool, true, false, List, [], ◌∷◌, ◌++◌, length, refl, sym, ap, ◌∙◌, arith, ◌<◌, drop, one-add}
use Rattle.std.specs.List.{prefix_len}
use Rattle.std.proofs.lemmas.Bool.{cond-true, cond-false}
use Rattle.std.proofs.lemmas.List.Elements.{All-head, All-tail}
use Rattle.httparse.specs.Grammar.{AllPass, LineEnd, crlf, lf, print_end}
use Rattle.httparse.specs.Pieces.{Stops}
use Rattle.stream_messages.specs.Heads.{run, behind, begins, end_in, behind_end}

pub run-append : (test : ℕ → Bool) (a r : List ℕ) → AllPass test a → Stops test r → run test (a ++ r) ≡ a
run-append test [] [] pass stops = refl
run-append test [] (b ∷ r) pass stops = cond-false _ _ _ stops
run-append test (x ∷ a) r pass stops =
    cond-true _ _ _ (All-head (λ v. test v ≡ true) x a pass)
    ∙ ap (λ (t : List ℕ). x ∷ t) (run-append test a r (All-tail (λ v. test v ≡ true) x a pass) stops)

pub behind-append : (test : ℕ → Bool) (a r : List ℕ) → AllPass test a → Stops test r → behind test (a ++ r) ≡ r
behind-append test [] [] pass stops = refl
behind-append test [] (b ∷ r) pass stops = cond-false _ _ _ stops
behind-append test (x ∷ a) r pass stops =
    cond-true _ _ _ (All-head (λ v. test v ≡ true) x a pass)
    ∙ behind-append test a r (All-tail (λ v. test v ≡ true) x a pass) stops

pub begins-stops : (test : ℕ → Bool) (r : List ℕ) → Stops test r → begins test r ≡ false
begins-stops test [] stops = refl
begins-stops test (b ∷ r) stops = stops

pub begins-append : (test : ℕ → Bool) (a r : List ℕ) → 0 < length a → AllPass test a → begins test (a ++ r) ≡ true
begins-append test [] r some pass = absurd (omega arith)
begins-append test (x ∷ a) r some pass = All-head (λ v. test v ≡ true) x a pass

pub end_in-print : (e : LineEnd) (r : List ℕ) → end_in (print_end e ++ r) ≡ e
end_in-print crlf r = refl
end_in-print lf r = refl

pub behind_end-print : (e : LineEnd) (r : List ℕ) → behind_end (print_end e ++ r) ≡ r
behind_end-print crlf r = refl
behind_end-print lf r = refl

pub behind_prefix : (test : ℕ → Bool) (xs : List ℕ) → drop (prefix_len test xs) xs ≡ behind test xs
behind_prefix test [] = refl
behind_prefix test (x ∷ xs) = by (behind_prefix test xs) (test x) refl
  where
    by : drop (prefix_len test xs) xs ≡ behind test xs → (t : Bool) → test x ≡ t → drop (prefix_len test (x ∷ xs)) (x ∷ xs) ≡ behind test (x ∷ xs)
    by go true e = ap (λ (n : ℕ). drop n (x ∷ xs)) (cond-true _ _ _ e ∙ one-add _) ∙ go ∙ sym (cond-true _ _ _ e)
    by go false e = ap (λ (n : ℕ). drop n (x ∷ xs)) (cond-false _ _ _ e) ∙ sym (cond-false _ _ _ e)
