use Rattle.std.proofs.Common.{◌≡◌, ℕ, List, [], ◌∷◌, ◌++◌, length, take, drop, false, ◌==◌, Option, ap, ◌∙◌, append_assoc, take-append-drop, rules}
use Rattle.std.proofs.KnownBytes.{Appends-trans}
use Rattle.std.proofs.lemmas.List.{take_rest}
use Rattle.std.specs.Io.KnownBytes.{Appends}
use Rattle.pk_outside.proofs.sink.write_whole.Goals as goal

-- a write took the first n of the rest, and what comes after them is the new rest
taken_more : (a b c : Option (List ℕ)) (done rest whole : List ℕ) (n : ℕ) → done ++ rest ≡ whole → Appends a b done → Appends b c (take n rest)
    → (x : List ℕ) × (x ++ drop n rest ≡ whole) × Appends a c x
taken_more a b c done rest whole n joined before write =
    (done ++ take n rest, append_assoc done (take n rest) (drop n rest) ∙ ap (λ l. done ++ l) (take-append-drop n rest) ∙ joined, Appends-trans a b c done (take n rest) before write)

-- an empty piece has no rest to hand on
no_rest : {P : Type 0} (done rest whole : List ℕ) → done ++ rest ≡ whole → whole ≡ [] → false ≡ (length rest == 0) → P
no_rest done [] whole joined none some = cc
no_rest [] (x ∷ rest) whole joined none some = cc
no_rest (y ∷ done) (x ∷ rest) whole joined none some = cc

pub loop-rest-preserved : goal.loop-rest-preserved
loop-rest-preserved g c =
    let before = c.loop-rest.invariant.taken in record {
      taken = rw (take_rest c.loop-rest.rest.now c.in-Ok.taken) (taken_more _ _ _ before.0 _ _ _ before.1 before.2 c.in-Ok.ensures.written);
      no_fault = search rules;
      not_starved = search rules;
      untouched = λ none. no_rest before.0 _ _ before.1 none c.loop-rest-test.ensures;
    }
