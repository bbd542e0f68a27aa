use Rattle.std.proofs.Common.{◌≡◌, ◌<◌, ◌≤◌, ◌+◌, ◌++◌, ℕ, List, [], ◌∷◌, length, Option, get_or, drop, sym, ◌∙◌, ap, add-one, drop-cons, arith, String}
use Rattle.std.specs.Prelude.{string_bytes}
use Rattle.std.proofs.lemmas.List.{drop_all}
use Rattle.shark_words.specs.declared.letter.Letter.{Letter}
use Rattle.shark_words.specs.declared.uses.Use.{Use}
use Rattle.shark_words.specs.Uses.{uses_from, uses_of}
use Rattle.shark_words.specs.Words.{texts}
use Rattle.shark_words.proofs.uses.uses_of.Goals as goal

-- one word more
next_word : {A : Type 0} (words : List (String A)) (before : ℕ) (word : String A) (text : List ℕ) (waiting next : Option Letter) (old new : List Use) → before < length words
    → word ≡ get_or words before word → text ≡ string_bytes word
    → ((others : List (List ℕ)) → old ++ uses_from before waiting (text ∷ others) ≡ new ++ uses_from (before + 1) next others)
    → old ++ uses_from before waiting (texts (drop before words)) ≡ uses_of (texts words)
    → new ++ uses_from (before + 1) next (texts (drop (before + 1) words)) ≡ uses_of (texts words)
next_word {A} words before word text waiting next old new inside is reads taken so =
    let rest : List (String A) = drop (before + 1) words in
    let cut : drop before words ≡ get_or words before word ∷ rest = rw (add-one before) (drop-cons words before word inside) in
    let front : drop before words ≡ word ∷ rest = cut ∙ ap (λ (one : String A). one ∷ rest) (sym is) in
    sym (taken (texts rest))
    ∙ ap (λ (bytes : List ℕ). old ++ uses_from before waiting (bytes ∷ texts rest)) reads
    ∙ ap (λ (left : List (String A)). old ++ uses_from before waiting (texts left)) (sym front)
    ∙ so

-- behind the last word
last_word : {A : Type 0} (words : List (String A)) (before : ℕ) (waiting : Option Letter) (old new : List Use) → length words ≤ before → before ≤ length words
    → old ++ uses_from (length words) waiting [] ≡ new → old ++ uses_from before waiting (texts (drop before words)) ≡ uses_of (texts words)
    → new ≡ uses_of (texts words)
last_word {A} words before waiting old new over within ended so =
    let all : length words ≡ before = omega arith in
    sym ended
    ∙ ap (λ (n : ℕ). old ++ uses_from n waiting []) all
    ∙ ap (λ (left : List (String A)). old ++ uses_from before waiting (texts left)) (sym (drop_all before words over))
    ∙ so

pub loop-before-preserved : goal.loop-before-preserved
loop-before-preserved c =
    next_word c.args.words.now c.loop-before.before c.index-words-before.result c.as_bytes.result.now c.loop-before.waiting c.in_ok-waiting.waiting
    c.loop-before.uses.items c.take_word.new.uses.items c.loop-before-test.true c.index-words-before.is c.as_bytes.ensures.value c.in_ok-waiting.ensures c.loop-before.invariant

pub returns-in-Ok : goal.returns-in-Ok
returns-in-Ok c =
    last_word c.args.words.now c.loop-before.before c.loop-before.waiting c.loop-before.uses.items c.take_end.new.uses.items c.loop-before-test.false
    c.loop-before.auto.before-end c.in-Ok.ensures c.loop-before.invariant
